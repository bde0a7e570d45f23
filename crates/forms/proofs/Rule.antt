-- A table that lists a rule: what stands at each place. A table in code is compared with the rule's values once, entry by entry. Assumes nothing.
use Rattle.std.proofs.Common.{◌≡◌, ℕ, zero, suc, ◌+◌, ◌<◌, List, [], ◌∷◌, get_or, ap, ◌∙◌, arith}

module _ {A : Type 0} (default : A) (rule : ℕ → A) where
  -- what the rule gives at n places from k on
  abbrev pub values : ℕ → ℕ → List A
  values zero k = []
  values (suc n) k = rule k ∷ values n (suc k)

  values_at : (n k i : ℕ) → i < n → get_or (values n k) i default ≡ rule (k + i)
  values_at zero k i h = absurd (omega arith)
  values_at (suc n) k zero h = let e : k ≡ k + 0 = omega arith in ap rule e
  values_at (suc n) k (suc i) h = let e : suc k + i ≡ k + suc i = omega arith in values_at n (suc k) i (omega arith) ∙ ap rule e

  pub entry : (n i : ℕ) → i < n → get_or (values n 0) i default ≡ rule i
  entry n i h = let e : 0 + i ≡ i = omega arith in values_at n 0 i h ∙ ap rule e
