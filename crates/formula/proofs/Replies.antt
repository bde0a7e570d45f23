-- What the three calls reply, in numbers: a status, and the reply or NONE. Assumes nothing.
use Rattle.std.specs.Prelude.{ℕ, ◌≡◌, ◌≢◌, refl, Bool, true, false, cond, List, [], ◌∷◌, Result, Ok, Err, ltb}
use Rattle.std.proofs.Common.{◌∙◌, ap, ne_eqb, arith}
use Rattle.lit.specs.Numbers.{NONE, max_vars, many_vars}
use Rattle.lit.specs.Refusals.{refusal_number, status_of, refusal_above}
use Rattle.lit.specs.declared.Refusal.{Refusal}
use Rattle.lit.specs.declared.Refusal.TheVariants.{ManyVars}
use Rattle.formula.specs.Clauses.{clauses}
use Rattle.formula.specs.Checks.{no_duplicates, check_clause_invariant, check_formula_invariant, check_vars, check_counts, list_refusal, unless_refused, no_duplicates_call, check_clause_invariant_call, check_formula_invariant_call, truth_number, sat_number, numbers_of, tested_numbers, checked_numbers}
use Rattle.formula.specs.Replies.{behind_four, unless}

module _ {A : Type 0} (number : A → ℕ) where
  -- a reply behind a check that passes or gives a refusal
  behind : (r : Result Unit Refusal) (a : A) → numbers_of number (unless_refused r (Ok a)) ≡ unless (status_of r) (number a)
  unfolding numbers_of
  behind (Ok u) a = refl
  behind (Err e) a = let some : refusal_number e ≢ 0 = omega (arith, refusal_above e) in rw (ne_eqb _ _ some)

  -- the test on the number of variables comes first
  behind_vars : (n : ℕ) (r : Result A Refusal) → numbers_of number (unless_refused (check_vars n) r) ≡ behind_four n (numbers_of number r)
  unfolding check_vars numbers_of
  behind_vars n r = go (ltb max_vars n)
    where
      go : (b : Bool) → numbers_of number (unless_refused (cond b (Err ManyVars) (Ok tt)) r) ≡ cond b (many_vars, NONE) (numbers_of number r)
      go true = refl
      go false = refl

pub no_duplicates_replies : (codes : List ℕ) (count : ℕ)
    → tested_numbers (no_duplicates_call codes count) ≡ unless (list_refusal codes (count ∷ []) count 1) (truth_number (no_duplicates codes))
unfolding no_duplicates_call list_refusal
no_duplicates_replies codes count = behind truth_number (check_counts codes (count ∷ []) count 1) _

pub check_clause_replies : (n : ℕ) (codes : List ℕ) (count : ℕ)
    → tested_numbers (check_clause_invariant_call n codes count) ≡ behind_four n (unless (list_refusal codes (count ∷ []) count 1) (truth_number (check_clause_invariant n codes)))
unfolding check_clause_invariant_call list_refusal
check_clause_replies n codes count = behind_vars truth_number n _ ∙ ap (behind_four n) (behind truth_number (check_counts codes (count ∷ []) count 1) _)

pub check_formula_replies : (n : ℕ) (lits ends : List ℕ) (literals count : ℕ)
    → checked_numbers (check_formula_invariant_call n lits ends literals count) ≡ behind_four n (unless (list_refusal lits ends literals count) (sat_number (check_formula_invariant n (clauses lits ends))))
unfolding check_formula_invariant_call list_refusal
check_formula_replies n lits ends literals count = behind_vars sat_number n _ ∙ ap (behind_four n) (behind sat_number (check_counts lits ends literals count) _)
