-- A row of reasons that are all NONE. Assumes nothing.
use Prim.Native.Nat.{ℕ}
use mathlib.Core.Path.{◌≡◌}
use mathlib.Core.Bool.{true}
use mathlib.Core.List.{List}
use native.Mathlib.Omega.{arith}
use lib.Dec.{eqb}
use lib.ListN.{length, get_or}
use borrow.Author.Tests.{le-ltb}
use Rattle.laws.specs.Every.{every_at, every_all}
use Rattle.lit.specs.Numbers.{NONE}
use Rattle.lit.specs.Unused.{none_at, unused_ok}
use Rattle.trail_check.specs.Check.{reason_ok, reasons_ok}

-- where every reason is NONE, every reason is good
pub no_reasons : (m : ℕ) (values reasons : List ℕ) → length reasons ≡ length values → unused_ok reasons 0 ≡ true → reasons_ok m values reasons ≡ true
unfolding unused_ok reasons_ok
no_reasons m values reasons same e =
    every_all (reason_ok m values reasons) (length values) (λ v h.
    let t : eqb (get_or reasons v 0) NONE ≡ true = rw (le-ltb v 0 (omega arith)) at (every_at (none_at reasons 0) (length reasons) v e (omega arith)) in
    rw t)
