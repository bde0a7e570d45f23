use mathlib.Core.List.{map}
use lib.ListN.{length}
use lib.Ieee.{binary64, to_bits}
use Rattle.saved_state.specs.Loops.{Front}
use Rattle.saved_state.proofs.writing.patterns.Given as goal

abbrev pub invariant-loop-i : goal.invariant-loop-i
invariant-loop-i l = Front (length l.activity) (map (to_bits binary64) l.activity) l.out l.i
