-- The variables that going back undoes, last first: how a walk down the trail meets them, and that making them unassigned one by
-- one gives the values that going back leaves.
use Rattle.std.specs.Prelude.{ℕ, zero, suc, ◌+◌, ◌-◌, ◌≤◌, ◌<◌, ◌≡◌, refl, List, [], ◌∷◌, map, reverse, length, get_or, set, take, drop}
use Rattle.std.proofs.Common.{sym, ap, ◌∙◌, arith, length-drop, length-set, take-suc, get_or-drop}
use Rattle.std.proofs.lemmas.List.{map-append, reverse-append, take-set-le, drop-set-add}
use Rattle.lit.specs.Numbers.{NONE, unassigned}
use Rattle.lit.specs.Lits.{index}
use Rattle.trail.specs.Trail.{Trail, last, backstep, backsteps, close_levels, rewind, how_many, backtrack_to, undone}
use Rattle.trail.specs.Good.{GoodTrail}
use Rattle.trail.specs.At.{opened_at}

-- the variables of the places from o up to i, last first: those undone are between the level's opening and the trail's length
abbrev pub between : List ℕ → ℕ → ℕ → List ℕ
between trail o i = reverse (map index (take (i - o) (drop o trail)))

pub undone_between : (l : ℕ) (t : Trail) → undone l t ≡ between t.trail (opened_at t l) t.len
unfolding undone
undone_between l t = refl

pub between_none : (trail : List ℕ) (o : ℕ) → between trail o o ≡ []
between_none trail o = let e : o - o ≡ 0 = omega arith in rw e

pub between_more : (trail : List ℕ) (o i : ℕ) → o ≤ i → i < length trail → between trail o (i + 1) ≡ index (get_or trail i 0) ∷ between trail o i
between_more trail o i h b =
    let e : i + 1 - o ≡ suc (i - o) = omega arith in
    let at : o + (i - o) ≡ i = omega arith in
    rw (e, take-suc (drop o trail) (i - o) 0 (omega (arith, length-drop o trail)), get_or-drop o trail (i - o) 0, at, map-append, reverse-append)

-- what holds of the variable at each of these places holds of each of these variables
each_cons : (P : ℕ → Type 0) (x : ℕ) (xs ys : List ℕ) → ys ≡ x ∷ xs → P x → ((j : ℕ) → j < length xs → P (get_or xs j 0)) → (j : ℕ) → j < length ys → P (get_or ys j 0)
each_cons P x xs ys e p f j h = rw e (go j (rw e at h))
  where
    go : (j : ℕ) → j < length (x ∷ xs) → P (get_or (x ∷ xs) j 0)
    go zero h = p
    go (suc j) h = f j (omega arith)

each_between : (P : ℕ → Type 0) (trail : List ℕ) (o k : ℕ) → o + k ≤ length trail → ((i : ℕ) → i < o + k → P (index (get_or trail i 0))) → (j : ℕ) → j < length (between trail o (o + k)) → P (get_or (between trail o (o + k)) j 0)
each_between P trail o zero h f j b = let e : o + 0 ≡ o = omega arith in absurd (omega (arith, ap length (between_none trail o), rw e at b))
each_between P trail o (suc k) h f j b =
    let e : o + suc k ≡ o + k + 1 = omega arith in
    each_cons P (index (get_or trail (o + k) 0)) (between trail o (o + k)) (between trail o (o + suc k))
    (ap (between trail o) e ∙ between_more trail o (o + k) (omega arith) (omega arith))
    (f (o + k) (omega arith))
    (each_between P trail o k (omega arith) (λ i c. f i (omega arith)))
    j
    b

-- the variables undone are variables
pub undone_in : {n m l : ℕ} {t : Trail} → GoodTrail n m t → l < t.level → (j : ℕ) → j < length (undone l t) → get_or (undone l t) j 0 < n
unfolding undone
undone_in {n} {m} {l} {t} g h =
    let e : opened_at t l + how_many l t ≡ t.len = omega (arith, g.below l h) in
    rw e at (each_between (λ (v : ℕ). v < n) t.trail (opened_at t l) (how_many l t) (omega (arith, g.below l h, g.len_in, g.lengths)) (λ i c. g.codes_in i (omega arith)))

-- the values with some variables made unassigned, one by one
unfoldable pub unset : List ℕ → List ℕ → List ℕ
unset [] values = values
unset (v ∷ vs) values = unset vs (set values v unassigned)

-- what lies from place i on does not count
between_set : (trail : List ℕ) (o i x : ℕ) → o ≤ i → between (set trail i x) o i ≡ between trail o i
between_set trail o i x h =
    let e : i ≡ o + (i - o) = omega arith in
    ap (λ (l : List ℕ). reverse (map index l)) (ap (λ (j : ℕ). take (i - o) (drop o (set trail j x))) e ∙ ap (take (i - o)) (drop-set-add o trail (i - o) x) ∙ take-set-le (i - o) (drop o trail) (i - o) x (omega arith))

steps_values : (k o : ℕ) (t : Trail) → o + k ≡ t.len → t.len ≤ length t.trail → (backsteps k t).values ≡ unset (between t.trail o t.len) t.values
unfolding backstep backsteps unset
steps_values zero o t e h = let q : t.len ≡ o = omega arith in rw (q, between_none)
steps_values (suc k) o t e h =
    let i = t.len - 1 in
    let q : t.len ≡ t.len - 1 + 1 = omega arith in
    steps_values k o (backstep t) (omega arith) (simp length-set (omega arith))
    ∙ ap (λ (l : List ℕ). unset l (set t.values (last t) unassigned)) (between_set t.trail o i NONE (omega arith))
    ∙ sym (ap (λ (l : List ℕ). unset l t.values) (ap (between t.trail o) q ∙ between_more t.trail o i (omega arith) (omega arith)))

close_values : (k : ℕ) (t : Trail) → (close_levels k t).values ≡ t.values
unfolding close_levels
close_values zero t = refl
close_values (suc k) t = close_values k _

-- going back makes the variables undone unassigned, last first
pub back_values : {n m l : ℕ} {t : Trail} → GoodTrail n m t → l < t.level → (backtrack_to l t).values ≡ unset (undone l t) t.values
unfolding backtrack_to rewind undone
back_values {n} {m} {l} {t} g h =
    close_values (t.level - l) (backsteps (how_many l t) t)
    ∙ steps_values (how_many l t) (opened_at t l) t (omega (arith, g.below l h)) (omega (arith, g.len_in, g.lengths))
