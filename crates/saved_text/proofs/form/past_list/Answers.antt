-- `saved_text::form::past_list` meets its contract: row behind row.
use Rattle.saved_text.specs.FormLaws.{past_then, past_bad}
use mathlib.Core.Path.{refl}
use Rattle.saved_text.proofs.form.past_list.Goals as goal

pub returns-in_err-stamps : goal.returns-in_err-stamps
returns-in_err-stamps c = rw c.from_residual.ensures (past_bad _ _ (rw c.in_err-stamps.was at c.past_row.ensures))

pub returns-in_err-behind : goal.returns-in_err-behind
returns-in_err-behind c = rw c.from_residual-in_err-behind.ensures (past_then refl (rw c.in_ok-stamps.was at c.past_row.ensures) (past_bad _ _ (rw c.in_err-behind.was at c.past_row-2.ensures)))

pub returns : goal.returns
returns c = past_then refl (rw c.in_ok-stamps.was at c.past_row.ensures) (past_then refl (rw c.in_ok-behind.was at c.past_row-2.ensures) c.past_row-3.ensures)
