-- `sheet::clauses::clause_step` meets its contract: the line's turn is the clause's, and the run goes on behind the line.
use native.Mathlib.Omega.{arith}
use Rattle.sheet.proofs.Steps.{line_inside}
use Rattle.sheet.proofs.Section.{unreplied, clause_more, answer_fits, so_far_one}
use Rattle.sheet.proofs.clauses.clause_step.Goals as goal

pub answer-at-requires : goal.answer-at-requires
answer-at-requires c =
    rw (c.and.ensures, unreplied c.read_clause-end.result.1 c.args.s.place.line) (answer_fits c.requires.0 c.requires.1 c.read_clause-end.ensures.added)

pub behind-place-requires : goal.behind-place-requires
behind-place-requires c =
    let g = c.requires.0 in
    let more = clause_more g c.requires.1 in
    (more, omega (arith, g.room.numbered), omega (arith, c.read_clause-end.ensures.end, g.room.short, line_inside g.room more))

pub returns : goal.returns
returns c =
    let l = c.read_clause-end in
    let more = clause_more c.requires.0 c.requires.1 in
    let answered = rw (c.and.ensures, unreplied l.result.1 c.args.s.place.line) at c.answer-at.ensures in
    rw (c.behind-place.ensures, l.ensures.end, c.unwrap_or.ensures)
    (record { left_lt_left = omega (arith, more); so_far = so_far_one c.requires.0 c.requires.1 l.ensures.added l.auto.lits l.auto.ends answered })
