use Prim.Native.Nat.{◌-◌}
use lib.ListN.{length}
use Rattle.saved_text.specs.CursorLaws.{SoFar}
use Rattle.saved_text.proofs.cursor.read_row.Given as goal

abbrev pub invariant-loop-i : goal.invariant-loop-i
invariant-loop-i g l = let n = g.N.Number in SoFar l.letter (n.kind_of l.kind) l.text l.at (n.values l.out) l.count l.greatest l.i

abbrev pub decreases-loop-i : goal.decreases-loop-i
decreases-loop-i g l = length l.text - l.i
