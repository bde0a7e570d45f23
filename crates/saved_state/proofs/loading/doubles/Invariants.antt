use mathlib.Core.List.{map}
use lib.ListN.{length}
use lib.Ieee.{binary64, of_bits}
use Rattle.saved_state.specs.Loops.{Front}
use Rattle.saved_state.proofs.loading.doubles.Given as goal

abbrev pub invariant-loop-i : goal.invariant-loop-i
invariant-loop-i l = Front (length l.bits) (map (of_bits binary64) l.bits) l.activity l.i
