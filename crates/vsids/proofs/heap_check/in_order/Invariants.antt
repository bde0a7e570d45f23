use Prim.Native.Nat.{◌≤◌}
use mathlib.Core.Path.{◌≡◌}
use lib.Dec.{eqb}
use Rattle.laws.specs.Every.{every}
use Rattle.vsids.specs.Untouched.{own_place}
use Rattle.vsids.proofs.heap_check.in_order.Given as goal

abbrev pub invariant-loop-i : goal.invariant-loop-i
invariant-loop-i l = (l.moved ≤ l.i) × (eqb l.moved 0 ≡ every (own_place l.a) l.i)
