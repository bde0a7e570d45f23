-- Tests of the places below a bound: whether some place passes, and how many do. Assumes nothing.
use Rattle.std.specs.Prelude.{◌≡◌, Bool, ◌||◌, cond}
use Rattle.std.proofs.Math.Path.{refl}
use Rattle.std.proofs.Common.{ap, ◌∙◌}
use Rattle.std.proofs.Math.Logic.{by_cases}
use Rattle.std.proofs.Math.Bool.{true, false}
use Rattle.std.proofs.lemmas.Bool.{false≢true}
use Prim.Native.Nat.{ℕ, zero, suc, ◌+◌, ◌≤◌, ◌<◌}
use Rattle.std.proofs.Math.Decide.{ℕ_discrete}
use Rattle.std.proofs.Math.Numerals.{add-one}
use native.Mathlib.Omega.{arith}
use Rattle.laws.specs.Every.{every}
use Rattle.laws.specs.Choices.{or_left, or_right}

unfoldable pub some : (ℕ → Bool) → ℕ → Bool
some p zero = false
some p (suc i) = some p i || p i

-- how many places below the bound pass
unfoldable pub count : (ℕ → Bool) → ℕ → ℕ
count p zero = 0
count p (suc i) = cond (p i) (suc (count p i)) (count p i)

module _ (p : ℕ → Bool) where
  pub some_at : (n i : ℕ) → i < n → p i ≡ true → some p n ≡ true
  unfolding some
  some_at zero i h e = absurd (omega arith)
  some_at (suc n) i h e =
      by_cases (ℕ_discrete i n)
      (λ same. or_right (some p n) (p n) (rw same at e))
      (λ other. or_left (some p n) (p n) (some_at n i (omega arith) e))

  pub some_none : (n : ℕ) → ((i : ℕ) → i < n → p i ≡ false) → some p n ≡ false
  unfolding some
  some_none zero f = refl
  some_none (suc n) f = rw (some_none n (λ i h. f i (omega arith)), f n (omega arith))

  -- a place that passes
  pub some_found : (n : ℕ) → some p n ≡ true → (i : ℕ) × ((i < n) × (p i ≡ true))
  unfolding some
  some_found zero e = absurd (false≢true e)
  some_found (suc n) e = go (some p n) (some_found n) e
    where
      go : (b : Bool) → (b ≡ true → (i : ℕ) × ((i < n) × (p i ≡ true))) → b || p n ≡ true → (i : ℕ) × ((i < suc n) × (p i ≡ true))
      go true f e = let r = f refl in (r.0, (omega (arith, r.1.0), r.1.1))
      go false f e = (n, (omega arith, e))

  pub some_more : (i : ℕ) → some p (i + 1) ≡ some p i || p i
  unfolding some
  some_more i = rw add-one

  -- a place that passes counts, another does not
  pub count_one : (i : ℕ) → p i ≡ true → count p (i + 1) ≡ count p i + 1
  unfolding count
  count_one i e = rw (add-one i, e) (omega arith)

  pub count_none : (i : ℕ) → p i ≡ false → count p (i + 1) ≡ count p i
  unfolding count
  count_none i e = rw (add-one i, e)

  -- where all pass, all count; where none passes from l on, those below l count
  pub count_all : (n : ℕ) → ((i : ℕ) → i < n → p i ≡ true) → count p n ≡ n
  unfolding count
  count_all zero f = refl
  count_all (suc n) f = rw (f n (omega arith)) (ap suc (count_all n (λ i h. f i (omega arith))))

  pub count_cut : (n l : ℕ) → l ≤ n → ((i : ℕ) → l ≤ i → i < n → p i ≡ false) → count p n ≡ count p l
  unfolding count
  count_cut zero l h g = let e : l ≡ 0 = omega arith in rw e
  count_cut (suc n) l h g =
      by_cases (ℕ_discrete l (suc n))
      (λ e. rw e)
      (λ less. rw (g n (omega arith) (omega arith)) (count_cut n l (omega arith) (λ i b c. g i b (omega arith))))

  pub count_below : (n l : ℕ) → l ≤ n → ((i : ℕ) → i < l → p i ≡ true) → ((i : ℕ) → l ≤ i → i < n → p i ≡ false) → count p n ≡ l
  count_below n l h f g = count_cut n l h g ∙ count_all l f

-- counting goes by the tests alone
pub count_same : (p q : ℕ → Bool) (n : ℕ) → ((i : ℕ) → i < n → p i ≡ q i) → count p n ≡ count q n
unfolding count
count_same p q zero f = refl
count_same p q (suc n) f = rw (f n (omega arith), count_same p q n (λ i h. f i (omega arith)))

-- a test of every place goes by the tests alone, too
pub every_same : (p q : ℕ → Bool) (n : ℕ) → ((i : ℕ) → i < n → p i ≡ q i) → every p n ≡ every q n
unfolding every
every_same p q zero f = refl
every_same p q (suc n) f = rw (f n (omega arith), every_same p q n (λ i h. f i (omega arith)))
