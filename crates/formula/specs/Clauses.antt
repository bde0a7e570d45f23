-- The clause list of document 01: a flat list of codes, `lits`, and the list of clause ends, `ends`.
use Rattle.std.specs.Prelude.{ℕ, ◌+◌, ◌-◌, ◌≤◌, ◌<◌, Bool, ◌&&◌, List, [], ◌∷◌, length, get_or, take, drop, leb, ltb, eqb}
use Rattle.laws.specs.Every.{every}
use Rattle.lit.specs.Numbers.{max_clauses, max_literals}
use Rattle.lit.specs.Lits.{check_lit_invariant}

-- where clause i starts: at 0, or where the one before it ends. Past the last clause it is the last end, and 0 without clauses
abbrev pub start : List ℕ → ℕ → ℕ
start ends i = get_or (0 ∷ ends) i 0

-- the codes from one place up to another
abbrev pub part : ℕ → ℕ → List ℕ → List ℕ
part from to lits = take (to - from) (drop from lits)

-- the codes of clause i
abbrev pub clause : List ℕ → List ℕ → ℕ → List ℕ
clause lits ends i = part (start ends i) (get_or ends i 0) lits

-- the clauses, each as its codes
unfoldable pub clauses_from : ℕ → List ℕ → List ℕ → List (List ℕ)
clauses_from from lits [] = []
clauses_from from lits (e ∷ es) = part from e lits ∷ clauses_from e lits es

abbrev pub clauses : List ℕ → List ℕ → List (List ℕ)
clauses lits ends = clauses_from 0 lits ends

-- end i is not below the end before it
unfoldable pub no_fall_at : List ℕ → ℕ → Bool
no_fall_at ends i = leb (start ends i) (get_or ends i 0)

-- ends never fall; the last equals the literal count, which is 0 without clauses
unfoldable pub ends_ok : List ℕ → ℕ → Bool
ends_ok ends literals = every (no_fall_at ends) (length ends) && eqb (start ends (length ends)) literals

-- what refusal 6 asks of a clause list, with variables left aside
unfoldable pub list_ok : List ℕ → List ℕ → Bool
list_ok lits ends = leb (length ends) max_clauses && leb (length lits) max_literals && ends_ok ends (length lits)

-- `check_lit_invariant` of the code at place i, and of each code
unfoldable pub var_below : ℕ → List ℕ → ℕ → Bool
var_below n codes i = check_lit_invariant (get_or codes i 0) n

unfoldable pub vars_below : ℕ → List ℕ → Bool
vars_below n codes = every (var_below n codes) (length codes)

-- what it asks over n variables
unfoldable pub clauses_ok : ℕ → List ℕ → List ℕ → Bool
clauses_ok n lits ends = list_ok lits ends && vars_below n lits

-- what it asks of a new clause, where the list has so many clauses and literals already
unfoldable pub clause_fits : ℕ → ℕ → ℕ → List ℕ → Bool
clause_fits n clauses literals codes = ltb clauses max_clauses && leb (literals + length codes) max_literals && vars_below n codes

-- what reading clause i needs
pub record ClauseAt (lits ends : List ℕ) (i : ℕ) : Type 0 where
  pub one : i < length ends
  pub rises : start ends i ≤ get_or ends i 0
  pub within : get_or ends i 0 ≤ length lits
