-- `sheet::clauses::count_step` meets its contract: the line's clause is added to the list, and reading goes on behind the line.
use native.Mathlib.Omega.{arith}
use Rattle.sheet.proofs.Steps.{line_inside}
use Rattle.sheet.proofs.Section.{clause_more}
use Rattle.sheet.proofs.Counting.{counted_one}
use Rattle.sheet.proofs.clauses.count_step.Goals as goal

pub behind-place-requires : goal.behind-place-requires
behind-place-requires c =
    let g = c.requires.0.1 in
    let more = clause_more g c.requires.1 in
    (more, omega (arith, g.room.numbered), omega (arith, c.read_clause-end.ensures.end, g.room.short, line_inside g.room more))

pub returns : goal.returns
returns c =
    let l = c.read_clause-end in
    let more = clause_more c.requires.0.1 c.requires.1 in
    rw (c.behind-place.ensures, l.ensures.end, c.unwrap_or.ensures)
    (record { left_lt_left = omega (arith, more); by_index = (λ out ready. counted_one ready c.requires.1 l.ensures.added l.auto.lits l.auto.ends) })
