-- Marks, a number for each variable, by which the variables of a clause are told apart in one pass. Assumes nothing.
use Rattle.std.specs.Prelude.{ℕ, ◌≤◌, ◌<◌, List, length, get_or}

-- room for n variables, none of which has the mark yet, or a later one
pub record Unmarked (n mark : ℕ) (marks : List ℕ) : Type 0 where
  pub room : n ≤ length marks
  pub below : (v : ℕ) → get_or marks v 0 < mark
