-- The opened levels follow from the levels along a trail. Assumes nothing.
use Rattle.std.specs.Prelude.{ℕ, zero, suc, ◌+◌, ◌<◌, ◌≤◌, ◌≡◌, refl, Bool, cond, List, [], ◌∷◌, leb, length, get_or}
use Rattle.std.proofs.Common.{ap, ◌∙◌, arith, le-leb, lt-ltb, le-ltb}
use Rattle.std.proofs.Math.Logic.{by_cases}
use Rattle.std.proofs.Math.Decide.{ℕ_discrete}
use Rattle.std.proofs.lemmas.Bool.{lt-leb}
use Rattle.laws.specs.Some.{count, count_cut}
use Rattle.laws.specs.Tests.{true_or_false}
use Rattle.trail.specs.Good.{not_above}
use Rattle.saved_state.specs.Said.{openings}

count_front : (p : ℕ → Bool) (n : ℕ) → count p (suc n) ≡ cond (p 0) 1 0 + count (λ k. p (suc k)) n
unfolding count
count_front p zero = true_or_false (p 0) (λ t. rw t (omega arith)) (λ f. rw f (omega arith))
count_front p (suc n) = true_or_false (p (suc n)) (λ t. rw t (omega (arith, count_front p n))) (λ f. rw f (count_front p n))

-- of all places of a list
abbrev under : List ℕ → ℕ → ℕ
under os i = not_above os (length os) i

under_first : (o : ℕ) (os : List ℕ) (i : ℕ) → under (o ∷ os) i ≡ cond (leb o i) 1 0 + under os i
unfolding not_above
under_first o os i = count_front (λ k. leb (get_or (o ∷ os) k 0) i) (length os)

under_in : (o : ℕ) (os : List ℕ) (i : ℕ) → o ≤ i → under (o ∷ os) i ≡ 1 + under os i
under_in o os i h = under_first o os i ∙ rw (le-leb o i h)

under_none : (os : List ℕ) (i : ℕ) → ((k : ℕ) → k < length os → i < get_or os k 0) → under os i ≡ 0
unfolding not_above count
under_none os i f = count_cut (λ k. leb (get_or os k 0) i) (length os) 0 (omega arith) (λ k l h. lt-leb (get_or os k 0) i (f k h))

-- The places of a rising list are those at which the number of its entries not above the place goes up.
pub openings_are : (xs os : List ℕ) (i l : ℕ)
    → ((j : ℕ) → j < length xs → get_or xs j 0 ≡ l + under os (i + j))
    → ((k : ℕ) → k < length os → (i ≤ get_or os k 0) × (get_or os k 0 < i + length xs))
    → ((j k : ℕ) → j < k → k < length os → get_or os j 0 < get_or os k 0)
    → openings i l xs ≡ os
unfolding openings
openings_are [] [] i l at bound rises = refl
openings_are [] (o ∷ os) i l at bound rises = absurd (omega (arith, (bound 0 (omega arith)).0, (bound 0 (omega arith)).1))
openings_are (x ∷ xs) [] i l at bound rises =
    let here : i + 0 ≡ i = omega arith in
    let same : x ≡ l = (at 0 (omega arith)) ∙ rw (here, under_none [] i (λ k h. absurd (omega arith))) (omega arith) in
    rw (le-ltb l x (omega arith)) (openings_are xs [] (i + 1) x
    (λ j h. let next : i + suc j ≡ i + 1 + j = omega arith in omega (arith, rw next at (at (suc j) (omega arith))))
    (λ k h. absurd (omega arith))
    (λ j k a h. absurd (omega arith)))
openings_are (x ∷ xs) (o ∷ os) i l at bound rises =
    let here : i + 0 ≡ i = omega arith in
    let first : x ≡ l + under (o ∷ os) i = rw here at (at 0 (omega arith)) in
    let low : i ≤ o = (bound 0 (omega arith)).0 in
    let later : (j : ℕ) → i + suc j ≡ i + 1 + j = λ j. omega arith in
    by_cases (ℕ_discrete o i)
    (λ e.
    let none : under os i ≡ 0 = under_none os i (λ k h. omega (arith, rises 0 (suc k) (omega arith) (omega arith))) in
    let up : x ≡ l + 1 = omega (arith, under_in o os i (omega arith)) in
    rw (lt-ltb l x (omega arith), e) (ap (λ (r : List ℕ). i ∷ r) (openings_are xs os (i + 1) x
    (λ j h. omega (arith, rw (later j) at (at (suc j) (omega arith)), under_in o os (i + 1 + j) (omega arith)))
    (λ k h. (omega (arith, rises 0 (suc k) (omega arith) (omega arith)), omega (arith, (bound (suc k) (omega arith)).1)))
    (λ j k a h. rises (suc j) (suc k) (omega arith) (omega arith)))))
    (λ n.
    let none : under (o ∷ os) i ≡ 0 = under_none (o ∷ os) i (above o os i (omega arith) (λ k h. rises 0 (suc k) (omega arith) (omega arith))) in
    rw (le-ltb l x (omega arith)) (openings_are xs (o ∷ os) (i + 1) x
    (λ j h. omega (arith, rw (later j) at (at (suc j) (omega arith))))
    (λ k h. (omega (arith, above o os i (omega arith) (λ k h. rises 0 (suc k) (omega arith) (omega arith)) k h), omega (arith, (bound k h).1)))
    rises))
  where
    above : (o : ℕ) (os : List ℕ) (i : ℕ) → i < o → ((k : ℕ) → k < length os → o < get_or os k 0) → (k : ℕ) → k < length (o ∷ os) → i < get_or (o ∷ os) k 0
    above o os i b f zero h = b
    above o os i b f (suc k) h = omega (arith, f k (omega arith))
