-- The least value that a variable may have: any where it is marked, else 2. Assumes nothing.
use Prim.Native.Nat.{ℕ}
use mathlib.Core.Path.{◌≡◌}
use mathlib.Core.Bool.{Bool, true, false, ◌||◌, or-true, or-false}
use native.Mathlib.Omega.{arith}
use borrow.Author.Tests.{le-leb}
use lib.Dec.{leb}
use Rattle.lit.specs.Numbers.{unassigned}

module _ (value : ℕ) {least : ℕ} {mark : Bool} where
  pub any_value : least ≡ 0 → mark ≡ true → leb least value ≡ leb unassigned value || mark
  any_value e m = rw (e, m, or-true, le-leb 0 value (omega arith))

  pub unassigned_value : least ≡ unassigned → mark ≡ false → leb least value ≡ leb unassigned value || mark
  unassigned_value e m = rw (e, m, or-false)
