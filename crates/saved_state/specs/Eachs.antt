-- What holds of each of a list, and maps along it. Assumes nothing.
use Rattle.std.specs.Prelude.{ℕ, zero, suc, ◌<◌, ◌≡◌, refl, List, [], ◌∷◌, map, length, get_or, take, drop}
use Rattle.std.proofs.Common.{arith}
use Rattle.laws.specs.Each.{Each}

module _ {A : Type 0} (P : A → Type 0) where
  pub each_of : (l : List A) (d : A) → ((i : ℕ) → i < length l → P (get_or l i d)) → Each P l
  each_of [] d f = tt
  each_of (x ∷ l) d f = (f 0 (omega arith), each_of l d (λ i h. f (suc i) (omega arith)))

  pub each_at : (l : List A) (i : ℕ) (d : A) → Each P l → i < length l → P (get_or l i d)
  each_at [] i d e h = absurd (omega arith)
  each_at (x ∷ l) zero d e h = e.0
  each_at (x ∷ l) (suc i) d e h = each_at l i d e.1 (omega arith)

  pub each_take : (k : ℕ) (l : List A) → Each P l → Each P (take k l)
  each_take zero l e = tt
  each_take (suc k) [] e = tt
  each_take (suc k) (x ∷ l) e = (e.0, each_take k l e.1)

  pub each_drop : (k : ℕ) (l : List A) → Each P l → Each P (drop k l)
  each_drop zero l e = e
  each_drop (suc k) [] e = tt
  each_drop (suc k) (x ∷ l) e = each_drop k l e.1

module _ {A B : Type 0} where
  pub get_or_mapped : (f : A → B) (l : List A) (i : ℕ) (d : A) (e : B) → i < length l → get_or (map f l) i e ≡ f (get_or l i d)
  get_or_mapped f [] i d e h = absurd (omega arith)
  get_or_mapped f (x ∷ l) zero d e h = refl
  get_or_mapped f (x ∷ l) (suc i) d e h = get_or_mapped f l i d e (omega arith)

  pub each_mapped : (P : B → Type 0) (f : A → B) (l : List A) (d : A) → ((i : ℕ) → i < length l → P (f (get_or l i d))) → Each P (map f l)
  each_mapped P f [] d h = tt
  each_mapped P f (x ∷ l) d h = (h 0 (omega arith), each_mapped P f l d (λ i b. h (suc i) (omega arith)))

  -- a map that undoes another one
  pub mapped_back : (f : A → B) (g : B → A) (l : List A) (d : A) → ((i : ℕ) → i < length l → g (f (get_or l i d)) ≡ get_or l i d) → map g (map f l) ≡ l
  mapped_back f g [] d h = refl
  mapped_back f g (x ∷ l) d h = cc (h 0 (omega arith), mapped_back f g l d (λ i b. h (suc i) (omega arith)))

pub mapped_mapped : {A B C : Type 0} (f : A → B) (g : B → C) (l : List A) → map g (map f l) ≡ map (λ x. g (f x)) l
mapped_mapped f g [] = refl
mapped_mapped f g (x ∷ l) = cc (mapped_mapped f g l)
