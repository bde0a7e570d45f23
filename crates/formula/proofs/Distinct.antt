-- What `no_duplicates` says: no two literals of the clause have the same variable; and `check_clause_invariant`: their variables are below n, too. Assumes nothing.
use Rattle.std.specs.Prelude.{ℕ, ◌<◌, ◌≡◌, ◌↔◌, true, List, length, get_or}
use Rattle.std.proofs.Common.{sym, ne_eqb, ltb-true, lt-ltb}
use Rattle.std.proofs.lemmas.Bool.{eqb-false, not-true}
use Rattle.laws.specs.Tests.{and_left, and_right, and_both}
use Rattle.laws.specs.Every.{every_at, every_all}
use Rattle.lit.specs.Lits.{index}
use Rattle.formula.specs.Clauses.{var_below, vars_below}
use Rattle.formula.specs.Checks.{differ, new_at, no_duplicates, check_clause_invariant}
use Rattle.formula.specs.Distinct.{Distinct}

-- the test of two literals
pub differ_facts : (codes : List ℕ) (i j : ℕ) → (differ codes i j ≡ true) ↔ (index (get_or codes i 0) ≡ index (get_or codes j 0) → ⊥)
unfolding differ
differ_facts codes i j = (λ e. eqb-false _ _ (not-true _ e), λ d. rw (ne_eqb _ _ d))

pub no_duplicates_facts : (codes : List ℕ) → (no_duplicates codes ≡ true) ↔ Distinct codes
unfolding no_duplicates new_at
no_duplicates_facts codes = (
  λ e i j h b same. (differ_facts codes j i).0 (every_at (differ codes j) j i (every_at (new_at codes) (length codes) j e b) h) (sym same),
  λ d. every_all (new_at codes) (length codes) (λ j b. every_all (differ codes j) j (λ i h. (differ_facts codes j i).1 (λ same. d i j h b (sym same)))),
)

pub check_clause_facts : (n : ℕ) (codes : List ℕ) → (check_clause_invariant n codes ≡ true) ↔ (((i : ℕ) → i < length codes → index (get_or codes i 0) < n) × Distinct codes)
unfolding check_clause_invariant vars_below var_below
check_clause_facts n codes = (
  λ e. (λ i h. ltb-true _ _ (every_at (var_below n codes) (length codes) i (and_left (vars_below n codes) _ e) h), (no_duplicates_facts codes).0 (and_right (vars_below n codes) _ e)),
  λ p. and_both (every_all (var_below n codes) (length codes) (λ i h. lt-ltb _ _ (p.0 i h))) ((no_duplicates_facts codes).1 p.1),
)
