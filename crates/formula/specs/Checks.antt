-- The three checks of the source, `no_duplicates`, `check_clause_invariant` (clause.rs) and `check_formula_invariant` (formula.rs), and the
-- replies of the calls that ask for them.
use Rattle.std.specs.Prelude.{ℕ, Bool, ◌&&◌, not, cond, List, [], ◌∷◌, Result, Ok, Err, length, get_or, ltb, eqb}
use Rattle.laws.specs.Every.{every}
use Rattle.lit.specs.Numbers.{NONE, max_vars}
use Rattle.lit.specs.Refusals.{refusal_number, status_of}
use Rattle.lit.specs.declared.Refusal.{Refusal}
use Rattle.lit.specs.declared.Refusal.TheVariants.{ManyVars, BadLength, BadClauses}
use Rattle.lit.specs.Lits.{index}
use Rattle.formula.specs.declared.checks.SatResult.{SatResult}
use Rattle.formula.specs.declared.checks.SatResult.TheVariants as sat
use Rattle.formula.specs.declared.checks.SatResult.TheVariants.{Sat, Unsat, Unknown}
use Rattle.formula.specs.Clauses.{vars_below, list_ok, clauses}

-- the test of `no_duplicates`: literals i and j have different variables; its inner loop, over j below i; its outer loop
unfoldable pub differ : List ℕ → ℕ → ℕ → Bool
differ codes i j = not (eqb (index (get_or codes i 0)) (index (get_or codes j 0)))

unfoldable pub new_at : List ℕ → ℕ → Bool
new_at codes i = every (differ codes i) i

unfoldable pub no_duplicates : List ℕ → Bool
no_duplicates codes = every (new_at codes) (length codes)

-- `check_clause_invariant`
unfoldable pub check_clause_invariant : ℕ → List ℕ → Bool
check_clause_invariant n codes = vars_below n codes && no_duplicates codes

-- the loop of `check_formula_invariant`
unfoldable pub check_each : ℕ → List (List ℕ) → SatResult
check_each n [] = Unknown
check_each n (c ∷ cs) = cond (not (check_clause_invariant n c)) sat.Err (cond (eqb (length c) 0) Unsat (check_each n cs))

-- `check_formula_invariant`. Its first test, `num_vars >= usize::MAX / 2`, never holds: refusal 4 comes first
unfoldable pub check_formula_invariant : ℕ → List (List ℕ) → SatResult
check_formula_invariant n cs = cond (eqb (length cs) 0) Sat (cond (eqb n 0) sat.Err (check_each n cs))

-- A number of variables: refusal 4 comes first.
unfoldable pub check_vars : ℕ → Result Unit Refusal
check_vars n = cond (ltb max_vars n) (Err ManyVars) (Ok tt)

-- A clause list with its stated counts, variables left aside: refusal 5, then 6. And the number of the refusal, or 0 for none.
unfoldable pub check_counts : List ℕ → List ℕ → ℕ → ℕ → Result Unit Refusal
check_counts lits ends literals clauses =
    cond (not (eqb (length lits) literals && eqb (length ends) clauses)) (Err BadLength)
    (cond (not (list_ok lits ends)) (Err BadClauses) (Ok tt))

unfoldable pub list_refusal : List ℕ → List ℕ → ℕ → ℕ → ℕ
list_refusal lits ends literals clauses = status_of (check_counts lits ends literals clauses)

-- The three calls. One clause's codes are a list of that clause alone.
abbrev pub unless_refused : {A : Type 0} → Result Unit Refusal → Result A Refusal → Result A Refusal
unless_refused (Ok u) x = x
unless_refused (Err e) x = Err e

unfoldable pub no_duplicates_call : List ℕ → ℕ → Result Bool Refusal
no_duplicates_call codes count = unless_refused (check_counts codes (count ∷ []) count 1) (Ok (no_duplicates codes))

unfoldable pub check_clause_invariant_call : ℕ → List ℕ → ℕ → Result Bool Refusal
check_clause_invariant_call n codes count =
    unless_refused (check_vars n)
    (unless_refused (check_counts codes (count ∷ []) count 1) (Ok (check_clause_invariant n codes)))

unfoldable pub check_formula_invariant_call : ℕ → List ℕ → List ℕ → ℕ → ℕ → Result SatResult Refusal
check_formula_invariant_call n lits ends literals count =
    unless_refused (check_vars n)
    (unless_refused (check_counts lits ends literals count) (Ok (check_formula_invariant n (clauses lits ends))))

-- The numbers: status 0 and the reply, or the refusal and NONE. False and true are 0 and 1; the answers of a formula are numbered in
-- document 01's order.
abbrev pub truth_number : Bool → ℕ
truth_number b = cond b 1 0

unfoldable pub sat_number : SatResult → ℕ
sat_number sat.Err = 0
sat_number Sat = 1
sat_number Unsat = 2
sat_number Unknown = 3

unfoldable pub numbers_of : {A : Type 0} → (A → ℕ) → Result A Refusal → ℕ × ℕ
numbers_of number (Err e) = (refusal_number e, NONE)
numbers_of number (Ok a) = (0, number a)

abbrev pub tested_numbers : Result Bool Refusal → ℕ × ℕ
tested_numbers r = numbers_of truth_number r

abbrev pub checked_numbers : Result SatResult Refusal → ℕ × ℕ
checked_numbers r = numbers_of sat_number r
