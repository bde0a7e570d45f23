-- `saved_desk::opening::with_clauses` meets its contract: the clause lines leave the list by which the room was judged, and the session over it is saved.
use Prim.Native.Nat.{◌+◌, ◌≤◌}
use mathlib.Core.Path.{◌≡◌, refl, sym, ◌∙◌}
use mathlib.Core.Bool.{true, false}
use native.Mathlib.Omega.{arith}
use borrow.Author.Tests.{leb-true}
use lib.ListN.{length}
use lib.Seq.{length-take-le}
use Rattle.sheet.specs.Running.{lines_from}
use Rattle.sheet.proofs.Steps.{line_inside}
use Rattle.sheet.specs.Opening.{mode_of}
use Rattle.sheet.proofs.Opening.{first_fits, first_room, second_room, ready_first}
use Rattle.saved_run.specs.Holding.{still_holds}
use Rattle.saved_desk.specs.New.{room_behind, section_room, section_saves, new_short, new_saved}
use Rattle.saved_desk.proofs.opening.with_clauses.Goals as goal

pub second-unanswered-requires : goal.second-unanswered-requires
second-unanswered-requires c =
    (c.requires.room.1, omega (arith, c.requires.room.2, c.requires.room.0.short, line_inside c.requires.room.0 c.requires.room.1))

pub text_fits-requires : goal.text_fits-requires
text_fits-requires c =
    (c.requires.room.3, (c.args.out.now, rw c.second-unanswered.ensures (ready_first (second_room c.requires.room.0 c.requires.room.1 c.requires.room.2) c.requires.holds.0 c.requires.holds.1)))

pub returns-then-not-text_fits : goal.returns-then-not-text_fits
returns-then-not-text_fits c =
    let e : c.text_fits.result ≡ false = c.if-not-text_fits.true in
    new_short c.args.o.mode c.args.o.vars (lines_from c.args.sheet.now (c.args.end + 1)) c.args.out.now c.args.text.now (sym (rw c.second-unanswered.ensures at c.text_fits.ensures) ∙ e)

pub answer-at-requires : goal.answer-at-requires
answer-at-requires c =
    first_fits c.requires.room.0 c.requires.room.1 0 (omega arith)

pub second-p-requires : goal.second-p-requires
second-p-requires c =
    (c.requires.room.1, omega (arith, c.requires.room.2, c.requires.room.0.short, line_inside c.requires.room.0 c.requires.room.1))

pub clause_lines-s-requires : goal.clause_lines-s-requires
clause_lines-s-requires c =
    let f = c.text_fits in
    rw c.second-p.ensures (ready_first (first_room c.requires.room.0 c.requires.room.1 c.requires.room.2 c.answer-at.ensures) (still_holds f.auto.lits f.auto.ends c.requires.holds.0) (omega (arith, f.auto.lits, c.requires.holds.1)))

pub slice_bounds-list-end : goal.slice_bounds-list-end
slice_bounds-list-end c = c.clause_lines-s.ensures.so_far.ready.slices.few_literals_lem

pub slice_bounds-list-end-3 : goal.slice_bounds-list-end-3
slice_bounds-list-end-3 c = c.clause_lines-s.ensures.so_far.ready.slices.few_clauses

pub slice_bounds-list-end-2 : goal.slice_bounds-list-end-2
slice_bounds-list-end-2 c =
    let l = c.clause_lines-s in
    sym (length-take-le l.result.literals l.new.lits l.ensures.so_far.ready.slices.few_literals_lem)

pub slice_bounds-list-end-4 : goal.slice_bounds-list-end-4
slice_bounds-list-end-4 c =
    let l = c.clause_lines-s in
    sym (length-take-le l.result.clauses l.new.ends l.ensures.so_far.ready.slices.few_clauses)

pub session-requires : goal.session-requires
session-requires c =
    let l = c.clause_lines-s.ensures in
    let e : c.text_fits.result ≡ true = c.if-not-text_fits.false in
    let room : room_behind c.args.o.vars (lines_from c.args.sheet.now (c.args.end + 1)) ≤ length c.args.text.now = leb-true _ _ (sym (rw c.second-unanswered.ensures at c.text_fits.ensures) ∙ e) in
    (l.so_far.ready.room, c.requires.room.3, l.so_far.ready.good, section_room l.so_far l.from_value (length c.args.text.now) refl refl (rw c.second-p.ensures room))

pub returns : goal.returns
returns c =
    let l = c.clause_lines-s.ensures in
    let e : c.text_fits.result ≡ true = c.if-not-text_fits.false in
    let room : room_behind c.args.o.vars (lines_from c.args.sheet.now (c.args.end + 1)) ≤ length c.args.text.now = leb-true _ _ (sym (rw c.second-unanswered.ensures at c.text_fits.ensures) ∙ e) in
    new_saved c.args.o.mode c.args.o.vars c.args.count c.args.end room c.answer-at.ensures (rw c.second-p.ensures at (section_saves (mode_of c.args.o.mode) l.so_far l.from_value c.session.ensures))
