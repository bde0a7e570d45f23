-- What the worker needs of what a decide found: an unassigned variable.
use Prim.Native.Nat.{ℕ, ◌<◌}
use mathlib.Core.Path.{◌≡◌}
use mathlib.Core.Bool.{true}
use mathlib.Core.List.{List}
use native.Mathlib.Omega.{arith}
use borrow.Author.Tests.{leb-true}
use lib.Dec.{leb}
use Rattle.laws.specs.Tests.{and_right}
use Rattle.lit.specs.Numbers.{unassigned}
use Rattle.trail.specs.Trail.{Trail}
use Rattle.trail.specs.Good.{GoodTrail}
use Rattle.trail.specs.At.{value_at}
use Rattle.vsids.specs.Vsids.{is_on, is_open}

-- the variable that a decide picks is unassigned
pub picked_free : {n m : ℕ} {t : Trail} → GoodTrail n m t → (d : List ℕ) (v : ℕ) → v < n → is_open t.values d v ≡ true → value_at t v ≡ unassigned
unfolding is_open
picked_free {t = t} g d v b e = omega (arith, g.values_good v b, leb-true unassigned (value_at t v) (and_right (is_on d v) (leb unassigned (value_at t v)) e))
