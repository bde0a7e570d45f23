-- Loops that store at each place of a list, from the front: after i turns stands what was stored, then what was there. Assumes nothing.
use Rattle.std.specs.Prelude.{◌≡◌, refl, List, [], ◌∷◌, ◌++◌, map, ℕ, zero, suc, ◌+◌, ◌<◌, length, take, drop, get_or, set, replicate}
use Rattle.std.proofs.Common.{sym, ap, ◌∙◌, append-nil, add-one, arith, le_of_lt, length-append, drop-cons, take-suc, length-take-le}
use Rattle.std.proofs.Math.Decide.{ℕ_discrete}
use Rattle.std.proofs.lemmas.List.{length-map, length-replicate, set_at, get_or_at}
use Rattle.std.proofs.Math.ListN.{get_or-append}
use Rattle.std.proofs.Math.Seq.{append_snoc, take-length, drop-length}

module _ {A : Type 0} where
  -- one more store
  pub store_next : (front l : List A) (i : ℕ) (v : A) → length front ≡ i → i < length l → set (front ++ drop i l) i v ≡ (front ++ (v ∷ [])) ++ drop (i + 1) l
  store_next front l i v e h =
      rw (add-one, drop-cons l i v h) (set_at front (get_or l i v) (drop (suc i) l) v i e ∙ sym (append_snoc front v (drop (suc i) l)))

  -- the same value at each place
  abbrev pub filled : A → List A → ℕ → List A
  filled v l i = replicate i v ++ drop i l

  replicate_snoc : (i : ℕ) (v : A) → replicate (suc i) v ≡ replicate i v ++ (v ∷ [])
  replicate_snoc zero v = refl
  replicate_snoc (suc i) v = ap (λ (t : List A). v ∷ t) (replicate_snoc i v)

  pub filled_next : (v : A) (l : List A) (i : ℕ) → i < length l → set (filled v l i) i v ≡ filled v l (i + 1)
  filled_next v l i h = store_next (replicate i v) l i v (length-replicate i v) h ∙ rw (add-one, ← replicate_snoc i v)

  pub filled_end : (v : A) (l : List A) (n : ℕ) → length l ≡ n → filled v l n ≡ replicate n v
  filled_end v l n e = rw (← e, drop-length) (append-nil (replicate (length l) v))

  -- a function of what was there
  module _ (f : A → A) where
    abbrev pub mapped : List A → ℕ → List A
    mapped l i = map f (take i l) ++ drop i l

    map_append : (x y : List A) → map f (x ++ y) ≡ map f x ++ map f y
    map_append [] y = refl
    map_append (a ∷ x) y = ap (λ (z : List A). f a ∷ z) (map_append x y)

    front_length : (l : List A) (i : ℕ) → i < length l → length (map f (take i l)) ≡ i
    front_length l i h = length-map (take i l) f ∙ length-take-le i l (le_of_lt h)

    pub mapped_at : (l : List A) (i : ℕ) (d : A) → i < length l → get_or (mapped l i) i d ≡ get_or l i d
    mapped_at l i d h = rw (drop-cons l i d h) (get_or_at (map f (take i l)) (get_or l i d) (drop (suc i) l) d i (front_length l i h))

    pub mapped_next : (l : List A) (i : ℕ) (d : A) → i < length l → set (mapped l i) i (f (get_or l i d)) ≡ mapped l (i + 1)
    mapped_next l i d h = store_next (map f (take i l)) l i (f (get_or l i d)) (front_length l i h) h ∙ rw (add-one, take-suc l i d h, map_append)

    pub mapped_end : (l : List A) → mapped l (length l) ≡ map f l
    mapped_end l = rw (take-length, drop-length) (append-nil (map f l))

-- the numbers below n, rising, and each place's own number
unfoldable pub up_to : ℕ → List ℕ
up_to zero = []
up_to (suc n) = up_to n ++ (n ∷ [])

pub length_up_to : (n : ℕ) → length (up_to n) ≡ n
unfolding up_to
length_up_to zero = refl
length_up_to (suc n) = length-append (up_to n) (n ∷ []) ∙ rw (length_up_to n) (add-one n)

pub get_or_up_to : (n i : ℕ) → i < n → get_or (up_to n) i 0 ≡ i
unfolding up_to
get_or_up_to zero i h = absurd (omega arith)
get_or_up_to (suc n) i h = go (ℕ_discrete i n) (get_or_up_to n i)
  where
    go : Dec (i ≡ n) → (i < n → get_or (up_to n) i 0 ≡ i) → get_or (up_to n ++ (n ∷ [])) i 0 ≡ i
    go (yes e) f = get_or_at (up_to n) n [] 0 i (length_up_to n ∙ sym e) ∙ sym e
    go (no q) f = let l : i < n = omega arith in get_or-append (up_to n) (n ∷ []) 0 i (rw length_up_to l) ∙ f l

abbrev pub counted : List ℕ → ℕ → List ℕ
counted l i = up_to i ++ drop i l

pub counted_next : (l : List ℕ) (i : ℕ) → i < length l → set (counted l i) i i ≡ counted l (i + 1)
unfolding up_to
counted_next l i h = store_next (up_to i) l i i (length_up_to i) h ∙ rw add-one

pub counted_end : (l : List ℕ) (n : ℕ) → length l ≡ n → counted l n ≡ up_to n
counted_end l n e = rw (← e, drop-length) (append-nil (up_to (length l)))
