-- What a run that saves its session leaves: answers, and a text.
use Rattle.std.specs.Prelude.{ℕ, List, []}
use Rattle.saved_text.specs.Saved.{text_of}
use Rattle.forms.specs.Written.{Wrote}
use Rattle.saved_state.specs.Written.{saved_heap, saved_list}
use Rattle.sheet.specs.declared.Place.{Place}
use Rattle.sheet.specs.Stages.{Stage, reading, in_heap, in_list, opened, stage_behind}
use Rattle.sheet.specs.Running.{lines_from, Ended}
use Rattle.saved_run.specs.declared.Both.{Both}

-- the text of the session at a stage; among clause lines it is the fresh one
abbrev text_in : Stage → List ℕ
text_in (reading mode n lits ends) = []
text_in (in_heap n lits ends s) = text_of (saved_heap n lits ends s.trail s.chooser)
text_in (in_list n lits ends s) = text_of (saved_list n lits ends s.trail s.chooser)

abbrev pub stage_text : Stage → List ℕ
stage_text (reading mode n lits ends) = text_in (opened mode n lits ends)
stage_text (in_heap n lits ends s) = text_in (in_heap n lits ends s)
stage_text (in_list n lits ends s) = text_in (in_list n lits ends s)

-- the lines that are left are answered, and the text of the session behind them is written
pub record Saves (sheet : List ℕ) (p : Place) (stage : Stage) (out text : List ℕ) (r : Both) (out' text' : List ℕ) : Type 0 where
  pub answers : Ended sheet p stage out r.answers out'
  pub saved : Wrote 0 (stage_text (stage_behind stage (lines_from sheet p.from))) text text' r.text
