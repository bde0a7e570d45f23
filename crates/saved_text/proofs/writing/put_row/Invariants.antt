use Rattle.forms.specs.Written.{Wrote}
use Rattle.saved_text.specs.Saved.{any_of, row_line}
use lib.ListN.{take}
use Rattle.saved_text.proofs.writing.put_row.Given as goal

abbrev pub invariant-loop-v : goal.invariant-loop-v
invariant-loop-v g l = let n = g.N.Number in Wrote l.at (row_line (any_of l.letter (n.kind_of l.kind)) (take l.v-index (n.values l.numbers))) l.fn.out l.out l.end
