use mathlib.Core.List.{map}
use lib.ListN.{length, get_or}
use Rattle.saved_state.specs.Loops.{Front}
use Rattle.saved_state.proofs.writing.stamps_of.Given as goal

abbrev pub invariant-loop-i : goal.invariant-loop-i
invariant-loop-i l = Front (length l.order) (map (λ v. get_or l.ts v 0) l.order) l.out l.i
