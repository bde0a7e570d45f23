-- A list that holds every number below k, and one more that is not below k, is longer than k. Assumes nothing.
use Rattle.std.specs.Prelude.{◌≡◌, Bool, true, false, cond, List, [], ◌∷◌, ℕ, zero, suc, ◌+◌, ◌≤◌, ◌<◌, ltb, length, get_or}
use Rattle.std.proofs.Common.{arith, ltb-true, lt-ltb, le-ltb}
use Rattle.laws.specs.Tests.{true_or_false}

-- how many are below k
count_below : ℕ → List ℕ → ℕ
count_below k [] = 0
count_below k (x ∷ l) = cond (ltb x k) 1 0 + count_below k l

step : (t : Bool) → cond t 1 0 ≤ 1
step true = omega arith
step false = omega arith

count_length : (k : ℕ) (l : List ℕ) → count_below k l ≤ length l
unfolding count_below
count_length k [] = omega arith
count_length k (x ∷ l) = omega (arith, count_length k l, step (ltb x k))

more : (x k j : ℕ) → k ≤ j → cond (ltb x k) 1 0 ≤ cond (ltb x j) 1 0
more x k j b = true_or_false (ltb x k)
    (λ e. let l : x < k = ltb-true x k e in rw (e, lt-ltb x j (omega arith)) (omega arith))
    (λ e. rw e (omega arith))

count_more : (k j : ℕ) (l : List ℕ) → k ≤ j → count_below k l ≤ count_below j l
unfolding count_below
count_more k j [] b = omega arith
count_more k j (x ∷ l) b = omega (arith, count_more k j l b, more x k j b)

-- an entry from k on and below j
count_one : (k j : ℕ) (l : List ℕ) (i : ℕ) → i < length l → k ≤ get_or l i 0 → get_or l i 0 < j → count_below k l + 1 ≤ count_below j l
unfolding count_below
count_one k j [] i l a b = absurd (omega arith)
count_one k j (x ∷ xs) zero l a b = rw (le-ltb x k a, lt-ltb x j b) (omega (arith, count_more k j xs (omega arith)))
count_one k j (x ∷ xs) (suc i) l a b = omega (arith, count_one k j xs i (omega arith) a b, more x k j (omega arith))

module _ (l : List ℕ) (k : ℕ) (at : ℕ → ℕ) (in_List : (i : ℕ) → i < k → at i < length l) (is : (i : ℕ) → i < k → get_or l (at i) 0 ≡ i) where
  all_below : (j : ℕ) → j ≤ k → j ≤ count_below j l
  all_below zero b = omega arith
  all_below (suc j) b =
      let e : get_or l (at j) 0 ≡ j = is j (omega arith) in
      omega (arith, all_below j (omega arith), count_one j (suc j) l (at j) (in_List j (omega arith)) (omega arith) (omega arith))

  pub longer : (i : ℕ) → i < length l → k ≤ get_or l i 0 → k < length l
  longer i q b = omega (arith, all_below k (omega arith), count_one k (suc (get_or l i 0)) l i q b (omega arith), count_length (suc (get_or l i 0)) l)
