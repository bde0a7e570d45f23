-- Lists with values stored at different places, and lists of which the first places are in use: what stands where. Assumes nothing.
use Prim.Native.Nat.{ℕ, zero, suc, ◌-◌, ◌<◌, ◌≤◌}
use Rattle.std.specs.Prelude.{◌≡◌, ◌≢◌, length, get_or, set, take, replicate}
use Rattle.std.proofs.Math.Path.{refl}
use Rattle.std.proofs.Common.{sym, ◌∙◌, arith, length-append, ext_get_or, length-take-le, take_at}
use Rattle.std.proofs.Math.Logic.{by_cases}
use mathlib.Core.List.{List, [], ◌∷◌, map}
use Rattle.std.proofs.Math.Decide.{ℕ_discrete}
use Rattle.std.proofs.Math.ListN.{length-set}
use Rattle.std.proofs.lemmas.List.{length-map, length-replicate, get_or-replicate}
use Rattle.std.proofs.Math.Seq.{get_or-set_same, get_or-set_other}
use Rattle.laws.specs.Pigeonhole.{Distinct}
use Rattle.laws.specs.Prefix.{prefix_is}
use Rattle.laws.specs.Stores.{set_in}
use Rattle.lit.specs.Numbers.{NONE}
use Rattle.saved_state.specs.Said.{padded, stores}
use Rattle.saved_state.specs.Eachs.{get_or_mapped}

-- ---- those in use first
pub padded_length : (n : ℕ) (l : List ℕ) → length l ≤ n → length (padded n l) ≡ n
padded_length n l h = length-append l (replicate (n - length l) NONE) ∙ rw (length-replicate (n - length l) NONE) (omega arith)

pub in_use : (n : ℕ) (l : List ℕ) → take (length l) (padded n l) ≡ l
in_use n l = take_at l (replicate (n - length l) NONE) (length l) refl

-- a list whose places from k on hold NONE
pub whole_again : (n k : ℕ) (l : List ℕ) → length l ≡ n → k ≤ n → ((i : ℕ) → k ≤ i → i < n → get_or l i 0 ≡ NONE) → padded n (take k l) ≡ l
whole_again n k l e h f = rw (length-take-le k l (omega arith)) (sym (prefix_is n k l l NONE 0 e e h (λ i b. refl) f))

-- ---- different places
-- the numbers of a list, all different and below n
abbrev pub Apart : ℕ → List ℕ → Type 0
Apart n vs = Distinct n (length vs) (λ i. get_or vs i 0)

-- a number stands in a list, or at no place of it
found_or : {C : Type 0} (vs : List ℕ) (w : ℕ) → ((i : ℕ) → i < length vs → get_or vs i 0 ≡ w → C) → (((i : ℕ) → i < length vs → get_or vs i 0 ≢ w) → C) → C
found_or [] w f g = g (λ i h. absurd (omega arith))
found_or (v ∷ vs) w f g = by_cases (ℕ_discrete v w) (λ e. f 0 (omega arith) e) (λ n. found_or vs w (λ i h e. f (suc i) (omega arith) e) (λ k. g (neither n k)))
  where
    neither : v ≢ w → ((i : ℕ) → i < length vs → get_or vs i 0 ≢ w) → (i : ℕ) → i < length (v ∷ vs) → get_or (v ∷ vs) i 0 ≢ w
    neither n k zero h = n
    neither n k (suc i) h = k i (omega arith)

module _ {A : Type 0} where
  stores_length : (l : List A) (vs : List ℕ) (xs : List A) → length (stores l vs xs) ≡ length l
  unfolding stores
  stores_length l [] xs = refl
  stores_length l (v ∷ vs) [] = refl
  stores_length l (v ∷ vs) (x ∷ xs) = stores_length (set l v x) vs xs ∙ length-set l v x

  pub stored_length : (n : ℕ) (x : A) (vs : List ℕ) (xs : List A) → length (stores (replicate n x) vs xs) ≡ n
  stored_length n x vs xs = stores_length (replicate n x) vs xs ∙ length-replicate n x

  -- what holds of each that was there and of each that is stored holds at every place
  pub stores_in : (P : A → Type 0) (l : List A) (vs : List ℕ) (xs : List A) (j : ℕ) (d : A) → P (get_or l j d) → ((i : ℕ) → i < length xs → P (get_or xs i d)) → P (get_or (stores l vs xs) j d)
  unfolding stores
  stores_in P l [] xs j d p f = p
  stores_in P l (v ∷ vs) [] j d p f = p
  stores_in P l (v ∷ vs) (x ∷ xs) j d p f = stores_in P (set l v x) vs xs j d (set_in P l v j x d (f 0 (omega arith)) p) (λ i h. f (suc i) (omega arith))

  stores_other : (l : List A) (vs : List ℕ) (xs : List A) (w : ℕ) (d : A) → ((i : ℕ) → i < length vs → get_or vs i 0 ≢ w) → get_or (stores l vs xs) w d ≡ get_or l w d
  unfolding stores
  stores_other l [] xs w d f = refl
  stores_other l (v ∷ vs) [] w d f = refl
  stores_other l (v ∷ vs) (x ∷ xs) w d f = stores_other (set l v x) vs xs w d (λ i h. f (suc i) (omega arith)) ∙ get_or-set_other l v w x d (λ e. f 0 (omega arith) (sym e))

  stores_place : (l : List A) (vs : List ℕ) (xs : List A) (d : A) → ((i : ℕ) → i < length vs → get_or vs i 0 < length l) → ((i j : ℕ) → i < j → j < length vs → get_or vs i 0 ≢ get_or vs j 0) → length vs ≤ length xs
      → (i : ℕ) → i < length vs → get_or (stores l vs xs) (get_or vs i 0) d ≡ get_or xs i d
  unfolding stores
  stores_place l [] xs d below once e i h = absurd (omega arith)
  stores_place l (v ∷ vs) [] d below once e i h = absurd (omega arith)
  stores_place l (v ∷ vs) (x ∷ xs) d below once e zero h =
      stores_other (set l v x) vs xs v d (λ j b q. once 0 (suc j) (omega arith) (omega arith) (sym q)) ∙ get_or-set_same l v x d (below 0 (omega arith))
  stores_place l (v ∷ vs) (x ∷ xs) d below once e (suc i) h =
      stores_place (set l v x) vs xs d (λ j b. omega (arith, below (suc j) (omega arith), length-set l v x)) (λ j k b c. once (suc j) (suc k) (omega arith) (omega arith)) (omega arith) i (omega arith)

  module _ {n : ℕ} (x : A) (vs : List ℕ) (xs : List A) (d : A) (a : Apart n vs) (long : length vs ≤ length xs) where
    pub stores_at : (i : ℕ) → i < length vs → get_or (stores (replicate n x) vs xs) (get_or vs i 0) d ≡ get_or xs i d
    stores_at = stores_place (replicate n x) vs xs d (λ j b. omega (arith, a.below j b, length-replicate n x)) a.once long

    -- what such a list is, by what stands at the places and elsewhere
    pub stores_are : (u : List A) → length u ≡ n → ((i : ℕ) → i < length vs → get_or u (get_or vs i 0) d ≡ get_or xs i d) → ((w : ℕ) → w < n → ((i : ℕ) → i < length vs → get_or vs i 0 ≢ w) → get_or u w d ≡ x)
        → stores (replicate n x) vs xs ≡ u
    stores_are u size here there =
        let l = replicate n x in
        ext_get_or d (stores l vs xs) u (stored_length n x vs xs ∙ sym size) (λ w b.
        found_or vs w
        (λ i h e. rw (← e) (stores_at i h ∙ sym (here i h)))
        (λ k. stores_other l vs xs w d k ∙ get_or-replicate n w x d (omega (arith, stored_length n x vs xs)) ∙ sym (there w (omega (arith, stored_length n x vs xs)) k)))

  -- values read at the places again
  pub read_back_lem : {n : ℕ} (x : A) (vs : List ℕ) (xs : List A) (d : A) → Apart n vs → length xs ≡ length vs → map (λ v. get_or (stores (replicate n x) vs xs) v d) vs ≡ xs
  read_back_lem {n} x vs xs d a q =
      let f : ℕ → A = λ v. get_or (stores (replicate n x) vs xs) v d in
      ext_get_or d (map f vs) xs (length-map vs f ∙ sym q) (λ i b.
      let h : i < length vs = omega (arith, length-map vs f) in
      get_or_mapped f vs i 0 d h ∙ stores_at x vs xs d a (omega arith) i h)
