-- Lists under stores: what stands where after `set`. Assumes nothing.
use Rattle.std.specs.Prelude.{◌≡◌, List, ℕ, ◌<◌, length, get_or, set}
use Rattle.std.proofs.Math.Decide.{ℕ_discrete}
use Rattle.std.proofs.Common.{get_or-set_same, get_or-set_other}

module _ {A : Type 0} where
  -- what holds at place j after a store at place i: of what was stored, or of what was there
  pub set_cases : (P : A → Type 0) (l : List A) (i j : ℕ) (a d : A) → i < length l → (j ≡ i → P a) → ((j ≡ i → ⊥) → P (get_or l j d)) → P (get_or (set l i a) j d)
  set_cases P l i j a d q f g = go (ℕ_discrete j i)
    where
      go : Dec (j ≡ i) → P (get_or (set l i a) j d)
      go (yes e) = rw (e, get_or-set_same l i a d q) (f e)
      go (no n) = rw (get_or-set_other l i j a d n) (g n)
