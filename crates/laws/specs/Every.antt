-- A test of every place below a bound: what it says of each place, and what a loop needs that stops at the first failure.
-- Assumes nothing.
use Rattle.std.specs.Prelude.{◌≡◌, Bool, true, false, ◌&&◌}
use Rattle.std.proofs.Math.Path.{refl}
use Rattle.std.proofs.Common.{sym, ◌∙◌, add-one, arith}
use Rattle.std.proofs.Math.Logic.{by_cases}
use Rattle.std.proofs.Math.Bool.{and-true}
use Prim.Native.Nat.{ℕ, zero, suc, ◌+◌, ◌≤◌, ◌<◌}
use Rattle.std.proofs.Math.Decide.{ℕ_discrete}
use Rattle.laws.specs.Tests.{and_left, and_right, and_both, not_true}

unfoldable pub every : (ℕ → Bool) → ℕ → Bool
every p zero = true
every p (suc i) = every p i && p i

module _ (p : ℕ → Bool) where
  pub every_at : (n i : ℕ) → every p n ≡ true → i < n → p i ≡ true
  unfolding every
  every_at zero i e h = absurd (omega arith)
  every_at (suc n) i e h =
      by_cases (ℕ_discrete i n)
      (λ same. rw same (and_right (every p n) (p n) e))
      (λ other. every_at n i (and_left (every p n) (p n) e) (omega arith))

  pub every_all : (n : ℕ) → ((i : ℕ) → i < n → p i ≡ true) → every p n ≡ true
  unfolding every
  every_all zero f = refl
  every_all (suc n) f = and_both (every_all n (λ i h. f i (omega arith))) (f n (omega arith))

  -- a turn of a loop over it, and the turn that ends the loop
  pub every_next : {i : ℕ} → every p i ≡ true → p i ≡ true → every p (i + 1) ≡ true
  unfolding every
  every_next {i} e q = rw (add-one i) (and_both e q)

  pub every_not : (n i : ℕ) → i < n → p i ≡ false → every p n ≡ false
  every_not n i h e = not_true (every p n) (λ all. (let z : ◌≡◌ {A = ℕ} 0 1 = cc (every_at n i all h) in omega arith))

-- the invariant of a loop over the places below n that stops at the first failure: those below i pass
pub record Passed (p : ℕ → Bool) (n i : ℕ) : Type 0 where
  pub within : i ≤ n
  pub passed : every p i ≡ true

module _ {p : ℕ → Bool} {n : ℕ} where
  pub passed_none : Passed p n 0
  unfolding every
  passed_none = record { within = omega arith; passed = refl }

  pub passed_more : {i : ℕ} → Passed p n i → i < n → p i ≡ true → Passed p n (i + 1)
  passed_more {i} h b e = record { within = omega arith; passed = every_next p h.passed e }

  pub passed_all : {i : ℕ} → Passed p n i → n ≤ i → every p n ≡ true
  passed_all {i} h b = let e : i ≡ n = omega arith in rw e at h.passed

  pub passed_fails : {i : ℕ} → Passed p n i → i < n → p i ≡ false → every p n ≡ false
  passed_fails {i} h b e = every_not p n i b e

-- what a loop needs that tests every place and stops at none: the flag behind a place that passes, and behind one that does not
module _ (p : ℕ → Bool) (i : ℕ) where
  pub flag_stays : {was is : Bool} → was ≡ every p i → is ≡ was → p i ≡ true → is ≡ every p (i + 1)
  unfolding every
  flag_stays e f t = rw (add-one i, t, and-true) (f ∙ e)

  pub flag_falls : {is : Bool} → is ≡ false → p i ≡ false → is ≡ every p (i + 1)
  flag_falls f t = f ∙ sym (every_not p (i + 1) i (omega arith) t)
