-- `next_line` meets its contract: the line is answered, and the run goes on behind it.
use Rattle.std.specs.Prelude.{ℕ, ◌≡◌, ◌+◌, length}
use Rattle.std.proofs.Common.{ap, ◌∙◌, arith}
use Rattle.sheet.specs.Running.{line_length, after}
use Rattle.sheet.proofs.Steps.{line_length_lem, line_part, line_inside}
use Rattle.sheet.proofs.SessionLines.{line_fits, same_called}
use Rattle.lines.specs.Lines.{went_one}
use Rattle.lines.proofs.next_line.Goals as goal

pub overflow_add-end : goal.overflow_add-end
overflow_add-end g c =
    let room = c.requires.room.0 in
    omega (arith, line_length_lem c.args.sheet.now c.args.p.from c.find.ensures, room.short, line_inside room c.requires.room.1)

pub slice_bounds-line_call-end : goal.slice_bounds-line_call-end
slice_bounds-line_call-end g c =
    omega (arith, line_length_lem c.args.sheet.now c.args.p.from c.find.ensures, line_inside c.requires.room.0 c.requires.room.1)

pub answer-at-requires : goal.answer-at-requires
answer-at-requires g c =
    let e = line_length_lem c.args.sheet.now c.args.p.from c.find.ensures in
    line_fits c.requires.room.0 c.requires.room.1 (same_called (line_part c.args.sheet.now c.args.p.from e) c.line_call-given.ensures.answered)

pub behind-requires : goal.behind-requires
behind-requires g c =
    let room = c.requires.room.0 in
    let more = c.requires.room.1 in
    let e = line_length_lem c.args.sheet.now c.args.p.from c.find.ensures in
    (more, omega (arith, room.numbered, more), omega (arith, e, room.short, line_inside room more))

pub returns-clause-went : goal.returns-clause-went
returns-clause-went g c =
    let p = c.args.p in
    let n = c.args.n in
    let lits = c.args.list.lits.now in
    let ends = c.args.list.ends.now in
    let sheet = c.args.sheet.now in
    let a = c.answer-at in
    let e : c.find.result ≡ line_length sheet p.from = line_length_lem sheet p.from c.find.ensures in
    let q : c.behind.result ≡ after p (p.from + line_length sheet p.from) a.result = c.behind.ensures ∙ ap (λ (k : ℕ). after p (p.from + k) a.result) e in
    let s = g.S.Session.sound n (length ends) lits ends in
    rw q (went_one s.Good s.kept c.requires.room.0 c.requires.room.1 c.requires.good (same_called (line_part sheet p.from e) c.line_call-given.ensures.answered) a.ensures)
