-- `desk::memory::clauses_with` meets its contract: what the session's lines end, the clause lines before them end too.
use mathlib.Core.Path.{sym}
use lib.Seq.{length-take-le}
use Rattle.sheet.specs.Opening.{mode_of}
use Rattle.sheet.proofs.Opening.{ready_first}
use Rattle.sheet.proofs.Section.{section_ended}
use Rattle.desk.proofs.memory.clauses_with.Goals as goal

pub slice_bounds-list-end : goal.slice_bounds-list-end
slice_bounds-list-end c = c.clause_lines-s.ensures.so_far.ready.slices.few_literals_lem

pub slice_bounds-list-end-2 : goal.slice_bounds-list-end-2
slice_bounds-list-end-2 c =
    let l = c.clause_lines-s in
    sym (length-take-le l.result.literals l.new.lits l.ensures.so_far.ready.slices.few_literals_lem)

pub slice_bounds-list-end-3 : goal.slice_bounds-list-end-3
slice_bounds-list-end-3 c = c.clause_lines-s.ensures.so_far.ready.slices.few_clauses

pub slice_bounds-list-end-4 : goal.slice_bounds-list-end-4
slice_bounds-list-end-4 c =
    let l = c.clause_lines-s in
    sym (length-take-le l.result.clauses l.new.ends l.ensures.so_far.ready.slices.few_clauses)

pub few_lines-requires : goal.few_lines-requires
few_lines-requires c =
    let r = c.clause_lines-s.ensures.so_far.ready in
    record { room = (r.room, rw c.few_vars.ensures at c.if-o-few_vars.true, r.good); positions = c.requires.positions }

pub returns-then-o-few_vars : goal.returns-then-o-few_vars
returns-then-o-few_vars c =
    let l = c.clause_lines-s.ensures in
    section_ended (mode_of c.args.o.mode) l.so_far l.from_value c.few_lines.ensures

pub session_lines-requires : goal.session_lines-requires
session_lines-requires c =
    let r = c.clause_lines-s.ensures.so_far.ready in
    record { room = (r.room, c.requires.room.1, r.good); positions = c.requires.positions }

pub returns : goal.returns
returns c =
    let l = c.clause_lines-s.ensures in
    section_ended (mode_of c.args.o.mode) l.so_far l.from_value c.session_lines.ensures

pub clause_lines-s-requires : goal.clause_lines-s-requires
clause_lines-s-requires c = let pre = c.requires in ready_first pre.room.0 pre.holds.0 pre.holds.1
