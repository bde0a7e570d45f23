-- A store and what holds at every place: kept where it holds of what is stored, and there before where it does not. Assumes nothing.
use Rattle.std.specs.Prelude.{◌≡◌, List, [], ◌∷◌, ℕ, zero, suc, get_or, set}
use Rattle.std.proofs.Common.{arith}

module _ {A : Type 0} (P : A → Type 0) where
  pub set_in : (l : List A) (i j : ℕ) (a d : A) → P a → P (get_or l j d) → P (get_or (set l i a) j d)
  set_in [] i j a d p q = q
  set_in (x ∷ l) zero zero a d p q = p
  set_in (x ∷ l) zero (suc j) a d p q = q
  set_in (x ∷ l) (suc i) zero a d p q = q
  set_in (x ∷ l) (suc i) (suc j) a d p q = set_in l i j a d p q

  pub set_back : (l : List A) (i j : ℕ) (a d : A) → (P a → ⊥) → P (get_or (set l i a) j d) → P (get_or l j d)
  set_back [] i j a d f q = q
  set_back (x ∷ l) zero zero a d f q = absurd (f q)
  set_back (x ∷ l) zero (suc j) a d f q = q
  set_back (x ∷ l) (suc i) zero a d f q = q
  set_back (x ∷ l) (suc i) (suc j) a d f q = set_back l i j a d f q

  pub set_else : (l : List A) (i j : ℕ) (a d : A) → (P a → ⊥) → (P d → ⊥) → P (get_or (set l i a) j d) → j ≡ i → ⊥
  set_else [] i j a d f g q e = g q
  set_else (x ∷ l) zero zero a d f g q e = f q
  set_else (x ∷ l) zero (suc j) a d f g q e = omega arith
  set_else (x ∷ l) (suc i) zero a d f g q e = omega arith
  set_else (x ∷ l) (suc i) (suc j) a d f g q e = set_else l i j a d f g q (omega arith)
