-- The pigeonhole principle: different numbers below n are at most n. Assumes nothing.
use Rattle.std.proofs.Common.{sym, ◌∙◌, arith, eqb-true, ltb-true, lt-ltb}
use Rattle.std.specs.Prelude.{◌≢◌, cond, ℕ, zero, suc, ◌≤◌, ◌<◌, eqb, ltb}
use Rattle.std.proofs.lemmas.Bool.{eqb-false}
use Rattle.laws.specs.Tests.{cond_elim}

-- k different numbers below n
pub record Distinct (n k : ℕ) (f : ℕ → ℕ) : Type 0 where
  pub below : (i : ℕ) → i < k → f i < n
  pub once : (i j : ℕ) → i < j → j < k → f i ≢ f j

-- without the last of them, which stands in for n where n was
instead : (ℕ → ℕ) → ℕ → ℕ → ℕ → ℕ
instead f n k i = cond (eqb (f i) n) (f k) (f i)

fewer : (n k : ℕ) (f : ℕ → ℕ) → Distinct (suc n) (suc k) f → Distinct n k (instead f n k)
unfolding instead
fewer n k f d = record {
  below = λ i h. cond_elim (λ (x : ℕ). x < n) (eqb (f i) n)
      (λ e. omega (arith, eqb-true (f i) n e, d.below k (omega arith), d.once i k h (omega arith)))
      (λ e. omega (arith, eqb-false (f i) n e, d.below i (omega arith)));
  once = λ i j b h. cond_elim (λ (x : ℕ). x ≢ instead f n k j) (eqb (f i) n)
      (λ e. cond_elim (λ (y : ℕ). f k ≢ y) (eqb (f j) n)
      (λ q _. d.once i j b (omega arith) (eqb-true (f i) n e ∙ sym (eqb-true (f j) n q)))
      (λ q z. d.once j k h (omega arith) (sym z)))
      (λ e. cond_elim (λ (y : ℕ). f i ≢ y) (eqb (f j) n)
      (λ q. d.once i k (omega arith) (omega arith))
      (λ q. d.once i j b (omega arith)));
}

pub pigeonhole : (n k : ℕ) (f : ℕ → ℕ) → Distinct n k f → k ≤ n
pigeonhole n zero f d = omega arith
pigeonhole zero (suc k) f d = absurd (omega (arith, d.below 0 (omega arith)))
pigeonhole (suc n) (suc k) f d = omega (arith, pigeonhole n k (instead f n k) (fewer n k f d))

-- fewer than n where one number below n is missed
also : (ℕ → ℕ) → ℕ → ℕ → ℕ → ℕ
also f k v i = cond (ltb i k) (f i) v

pub missed : (n k v : ℕ) (f : ℕ → ℕ) → Distinct n k f → v < n → ((i : ℕ) → i < k → f i ≢ v) → k < n
unfolding also
missed n k v f d h m = pigeonhole n (suc k) (also f k v) (record {
  below = λ i b. cond_elim (λ (x : ℕ). x < n) (ltb i k) (λ e. d.below i (ltb-true i k e)) (λ _. h);
  once = λ i j b c.
      rw (lt-ltb i k (omega arith))
      (cond_elim (λ (y : ℕ). f i ≢ y) (ltb j k) (λ e. d.once i j b (ltb-true j k e)) (λ _. m i (omega arith)));
})
