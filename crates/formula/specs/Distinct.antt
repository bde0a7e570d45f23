-- What `no_duplicates` says: no two literals of the clause have the same variable; and `check_clause_invariant`: their variables are below n, too. Assumes nothing.
use Rattle.std.specs.Prelude.{ℕ, ◌<◌, ◌≡◌, List, length, get_or}
use Rattle.lit.specs.Lits.{index}

abbrev pub Distinct : List ℕ → Type 0
Distinct codes = (i j : ℕ) → i < j → j < length codes → index (get_or codes i 0) ≡ index (get_or codes j 0) → ⊥
