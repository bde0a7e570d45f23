-- `heap_sheet::in_own_arrays` meets its contract: the parts of the arrays that are lent have n elements, and are fresh.
use mathlib.Core.Path.{◌≡◌}
use borrow.Author.Rules.{rules}
use lib.Seq.{length-take-le}
use Rattle.heap_sheet.specs.Start.{at_start, blank, part_filled, part_fresh, started_heap}
use Rattle.heap_sheet.proofs.in_own_arrays.Goals as goal

pub from_fresh-requires-clause-fresh : goal.from_fresh-requires-clause-fresh
from_fresh-requires-clause-fresh g c =
    let b = blank g.row.VARS c.requires.room.2 in
    let at_rest : c.default.result ≡ at_start = search rules in
    (rw at_rest (part_fresh b), started_heap (part_filled b.activity_blank) (part_filled b.decision_blank) (length-take-le c.args.n _ b.heap_long) c.all_members-at.ensures)
