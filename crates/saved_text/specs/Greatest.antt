-- The greatest of some numbers. Assumes nothing.
use Rattle.std.specs.Prelude.{ℕ, ◌≤◌, ◌≡◌, max}
use mathlib.Core.List.{List, [], ◌∷◌, ◌++◌}
use native.Mathlib.Omega.{arith}
use Rattle.laws.specs.Each.{Each}

-- 0 where there are none
unfoldable pub greatest : List ℕ → ℕ
greatest [] = 0
greatest (v ∷ vs) = max v (greatest vs)

-- of two lists, and with one more at the end
pub greatest_append : (a b : List ℕ) → greatest (a ++ b) ≡ max (greatest a) (greatest b)
unfolding greatest
greatest_append [] b = omega arith
greatest_append (v ∷ a) b = omega (arith, greatest_append a b)

pub greatest_more : (done : List ℕ) (v : ℕ) → greatest (done ++ (v ∷ [])) ≡ max v (greatest done)
unfolding greatest
greatest_more done v = omega (arith, greatest_append done (v ∷ []))

-- all of them are at most m just where the greatest is
module _ (m : ℕ) where
  pub greatest_within : (vs : List ℕ) → greatest vs ≤ m → Each (λ v. v ≤ m) vs
  unfolding greatest
  greatest_within [] h = tt
  greatest_within (v ∷ vs) h = (omega arith, greatest_within vs (omega arith))

  pub within_greatest : (vs : List ℕ) → Each (λ v. v ≤ m) vs → greatest vs ≤ m
  unfolding greatest
  within_greatest [] h = omega arith
  within_greatest (v ∷ vs) h = omega (arith, h.0, within_greatest vs h.1)
