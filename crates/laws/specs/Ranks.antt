-- The places that pass a test, by rank: how many pass below. A place that passes is the only one of its rank, and each rank below the count has one, so that
-- different places that pass are at most as many as the count says, and the count at most as many as they can be told apart by. Assumes nothing.
use Prim.Native.Nat.{ℕ, zero, suc, ◌+◌, ◌≤◌, ◌<◌}
use Rattle.std.specs.Prelude.{◌≡◌, ◌≢◌, Bool, true, not, ◌&&◌, cond, eqb}
use Rattle.std.proofs.Math.Path.{refl, sym}
use Rattle.std.proofs.Common.{ap, ◌∙◌}
use Rattle.std.proofs.Math.Logic.{by_cases}
use Rattle.std.proofs.Math.Decide.{ℕ_discrete, dec_lt}
use native.Mathlib.Omega.{arith}
use borrow.Author.Tests.{eq-eqb, ne_eqb}
use Rattle.laws.specs.Tests.{true_or_false}
use Rattle.laws.specs.Some.{count}
use Rattle.laws.specs.Pigeonhole.{Distinct, pigeonhole, missed}

module _ (p : ℕ → Bool) where
  -- what does not pass is the rest
  pub count_rest : (n : ℕ) → count p n + count (λ i. not (p i)) n ≡ n
  unfolding count
  count_rest zero = refl
  count_rest (suc n) = true_or_false (p n) (λ e. rw e (omega (arith, count_rest n))) (λ e. rw e (omega (arith, count_rest n)))

  rank_low : (n x : ℕ) → x ≤ n → count p x ≤ count p n
  unfolding count
  rank_low zero x l = let e : x ≡ 0 = omega arith in rw e (omega arith)
  rank_low (suc n) x l =
      by_cases (ℕ_discrete x (suc n))
      (λ e. rw e (omega arith))
      (λ f. true_or_false (p n) (λ e. rw e (omega (arith, rank_low n x (omega arith)))) (λ e. rw e (rank_low n x (omega arith))))

  rank_rises : (x y : ℕ) → p x ≡ true → x < y → count p x < count p y
  unfolding count
  rank_rises x y e l = let q : count p (suc x) ≡ suc (count p x) = rw e in omega (arith, q, rank_low y (suc x) (omega arith))

  rank_once : (x y : ℕ) → p x ≡ true → p y ≡ true → x ≢ y → count p x ≢ count p y
  rank_once x y a b f e = by_cases (dec_lt x y) (λ l. omega (arith, e, rank_rises x y a l)) (λ l. omega (arith, e, f, rank_rises y x b (omega arith)))

  -- k different places below n that pass, and one more
  module _ (n k : ℕ) (f : ℕ → ℕ) (d : Distinct n k f) (passes : (i : ℕ) → i < k → p (f i) ≡ true) where
    ranks : Distinct (count p n) k (λ i. count p (f i))
    ranks = record {
      below = λ i h. rank_rises (f i) n (passes i h) (d.below i h);
      once = λ i j b h. rank_once (f i) (f j) (passes i (omega arith)) (passes j h) (d.once i j b h);
    }

    pub at_most_count : k ≤ count p n
    at_most_count = pigeonhole (count p n) k _ ranks

    pub one_more_counts : (v : ℕ) → v < n → p v ≡ true → ((i : ℕ) → i < k → f i ≢ v) → k < count p n
    one_more_counts v h e m = missed (count p n) k (count p v) _ ranks (rank_rises v n e h) (λ i b. rank_once (f i) v (passes i b) e (m i b))

  -- the place of rank j among those below n
  pick : ℕ → ℕ → ℕ
  pick zero j = 0
  pick (suc n) j = cond (p n && eqb j (count p n)) n (pick n j)

  record Picked (n j x : ℕ) : Type 0 where
    below : x < n
    passes : p x ≡ true
    rank : count p x ≡ j

  picked : (n j : ℕ) → j < count p n → Picked n j (pick n j)
  unfolding count pick
  picked zero j h = absurd (omega arith)
  picked (suc n) j h =
      true_or_false (p n)
      (λ e. by_cases (ℕ_discrete j (count p n))
      (λ q. rw (e, eq-eqb j (count p n) q) (record { below = omega arith; passes = e; rank = sym q }))
      (λ q. rw (e, ne_eqb j (count p n) q) (higher (picked n j (rest e q)))))
      (λ e. rw e (higher (picked n j (rw e at h))))
    where
      higher : {x : ℕ} → Picked n j x → Picked (suc n) j x
      higher w = record { below = omega (arith, w.below); passes = w.passes; rank = w.rank }

      rest : p n ≡ true → j ≢ count p n → j < count p n
      rest e q = let b : j < suc (count p n) = rw e at h in omega (arith, b, q)

  -- where places that pass are told apart by numbers below k, they are at most k
  pub count_at_most : (n k : ℕ) (g : ℕ → ℕ) → ((v : ℕ) → v < n → p v ≡ true → g v < k) → ((v w : ℕ) → v < n → w < n → p v ≡ true → p w ≡ true → g v ≡ g w → v ≡ w) → count p n ≤ k
  count_at_most n k g low apart = pigeonhole k (count p n) (λ j. g (pick n j)) (record {
    below = λ j h. let x = picked n j h in low (pick n j) x.below x.passes;
    once = λ i j b h e.
        let x = picked n i (omega arith) in
        let y = picked n j h in
        let q : pick n i ≡ pick n j = apart (pick n i) (pick n j) x.below y.below x.passes y.passes e in
        omega (arith, b, sym x.rank ∙ ap (count p) q ∙ y.rank);
  })
