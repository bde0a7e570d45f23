-- Clause lines: what each comes to on the clause list at the front of the slices, and where the section ends. Assumes nothing.
use Rattle.formula.specs.Good.{GoodClauses}
use Rattle.sheet.specs.Stages.{Stage, reading, in_heap, in_list}

-- the clause list of a stage among the clause lines is good
abbrev pub GoodStage : Stage → Type 0
GoodStage (reading mode n lits ends) = GoodClauses n lits ends
GoodStage (in_heap n lits ends s) = Unit {0}
GoodStage (in_list n lits ends s) = Unit {0}
