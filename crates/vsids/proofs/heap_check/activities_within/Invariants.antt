use Prim.Native.Nat.{◌≤◌}
use mathlib.Core.Path.{◌≡◌}
use lib.Dec.{eqb}
use Rattle.laws.specs.Every.{every}
use Rattle.vsids.specs.Untouched.{activity_within}
use Rattle.vsids.proofs.heap_check.activities_within.Given as goal

abbrev pub invariant-loop-a : goal.invariant-loop-a
invariant-loop-a l = (l.outside ≤ l.a-index) × (eqb l.outside 0 ≡ every (activity_within l.hi l.activity) l.a-index)
