-- `saved_text::form::past_trail` meets its contract: row behind row.
use Rattle.saved_text.specs.FormLaws.{past_then, past_bad}
use mathlib.Core.Path.{refl}
use Rattle.saved_text.proofs.form.past_trail.Goals as goal

pub returns-in_err-levels : goal.returns-in_err-levels
returns-in_err-levels c = rw c.from_residual.ensures (past_bad _ _ (rw c.in_err-levels.was at c.past_row.ensures))

pub returns-in_err-reasons : goal.returns-in_err-reasons
returns-in_err-reasons c = rw c.from_residual-in_err-reasons.ensures (past_then refl (rw c.in_ok-levels.was at c.past_row.ensures) (past_bad _ _ (rw c.in_err-reasons.was at c.past_row-2.ensures)))

pub returns : goal.returns
returns c = past_then refl (rw c.in_ok-levels.was at c.past_row.ensures) (past_then refl (rw c.in_ok-reasons.was at c.past_row-2.ensures) c.past_row-3.ensures)
