-- `sheet::clauses::read_clause` meets its contract: the line from a place on ends at the next newline.
use Prim.Native.Nat.{◌+◌}
use mathlib.Core.Path.{ap}
use native.Mathlib.Omega.{arith}
use Rattle.sheet.proofs.Steps.{line_length_lem, line_part, line_inside}
use Rattle.sheet.proofs.ClauseLines.{same_line}
use Rattle.sheet.proofs.Section.{clause_more, clause_taken}
use Rattle.sheet.proofs.clauses.read_clause.Goals as goal

pub overflow_add-end : goal.overflow_add-end
overflow_add-end c =
    let g = c.requires.0.1 in
    omega (arith, line_length_lem c.args.sheet.now c.args.s.place.from c.find.ensures, g.room.short, line_inside g.room (clause_more g c.requires.1))

pub slice_bounds-clause_line-end : goal.slice_bounds-clause_line-end
slice_bounds-clause_line-end c =
    let g = c.requires.0.1 in
    omega (arith, line_length_lem c.args.sheet.now c.args.s.place.from c.find.ensures, line_inside g.room (clause_more g c.requires.1))

pub clause_line-requires : goal.clause_line-requires
clause_line-requires c =
    let e = line_length_lem c.args.sheet.now c.args.s.place.from c.find.ensures in
    (c.requires.0.1.slices, (λ k short. clause_taken c.requires.0.1 c.requires.1 k (rw (line_part c.args.sheet.now c.args.s.place.from e) at short)))

pub returns : goal.returns
returns c =
    let e = line_length_lem c.args.sheet.now c.args.s.place.from c.find.ensures in
    record { end = ap (λ k. c.args.s.place.from + k) e; added = same_line (line_part c.args.sheet.now c.args.s.place.from e) c.clause_line.ensures }
