-- The clause lines of a sheet, read and not answered: the clause list that they leave. Assumes nothing.
use Rattle.std.specs.Prelude.{ℕ, ◌≡◌, List, take}
use Rattle.std.proofs.Math.ListN.{length}
use Rattle.sheet.specs.declared.clauses.Section.{Section}
use Rattle.sheet.specs.Sheet.{ClauseList, clause_lines, listed}
use Rattle.sheet.specs.Stages.{Stage, reading, in_heap, in_list}
use Rattle.sheet.specs.Running.{lines_from, Ready}

-- the clause list at the front of the slices, and the one that the lines from there on make of it
abbrev pub front : List ℕ → List ℕ → Section → ClauseList
front lits ends s = (take s.literals lits, take s.clauses ends)

abbrev pub listed_from : ℕ → List ℕ → List ℕ → List ℕ → Section → ClauseList
listed_from n sheet lits ends s = listed n (front lits ends s) (clause_lines (lines_from sheet s.place.from))

-- Clause lines are read, from s on up to u: those that are left make the same list, and no slice has changed its length.
pub record Counted (n : ℕ) (sheet out : List ℕ) (s : Section) (lits ends : List ℕ) (u : Section) (lits' ends' : List ℕ) : Type 0 where
  pub ready : Ready n sheet u out lits' ends'
  pub list : listed_from n sheet lits' ends' u ≡ listed_from n sheet lits ends s
  pub lits_same : length lits' ≡ length lits
  pub ends_same : length ends' ≡ length ends

-- the clause list of a stage
abbrev pub list_of : Stage → ClauseList
list_of (reading mode n lits ends) = (lits, ends)
list_of (in_heap n lits ends s) = (lits, ends)
list_of (in_list n lits ends s) = (lits, ends)
