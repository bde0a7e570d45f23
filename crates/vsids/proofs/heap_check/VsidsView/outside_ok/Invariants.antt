use Prim.Native.Nat.{◌≤◌}
use mathlib.Core.Path.{◌≡◌}
use lib.Dec.{eqb}
use Rattle.laws.specs.Every.{every}
use Rattle.laws.specs.Some.{count}
use Rattle.vsids.specs.Outside.{outside_at, settled_at}
use Rattle.vsids.proofs.heap_check.VsidsView.outside_ok.Given as goal

abbrev pub invariant-loop-v : goal.invariant-loop-v
invariant-loop-v l =
    let s = l.self in
    ((l.outside ≤ l.v) × (l.«open» ≤ l.v)) × (l.outside ≡ count (outside_at s.indices.now) l.v) × (eqb l.«open» 0 ≡ every (settled_at l.values s.indices.now s.decision.now) l.v)
