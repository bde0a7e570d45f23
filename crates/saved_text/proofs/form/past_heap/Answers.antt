-- `saved_text::form::past_heap` meets its contract: row behind row.
use Rattle.saved_text.specs.FormLaws.{past_then, past_bad}
use mathlib.Core.Path.{refl}
use Rattle.saved_text.proofs.form.past_heap.Goals as goal

pub returns-in_err-activities : goal.returns-in_err-activities
returns-in_err-activities c = rw c.from_residual.ensures (past_bad _ _ (rw c.in_err-activities.was at c.past_row.ensures))

pub returns-in_err-switches : goal.returns-in_err-switches
returns-in_err-switches c = rw c.from_residual-in_err-switches.ensures (past_then refl (rw c.in_ok-activities.was at c.past_row.ensures) (past_bad _ _ (rw c.in_err-switches.was at c.past_row-2.ensures)))

pub returns : goal.returns
returns c = past_then refl (rw c.in_ok-activities.was at c.past_row.ensures) (past_then refl (rw c.in_ok-switches.was at c.past_row-2.ensures) c.past_row-3.ensures)
