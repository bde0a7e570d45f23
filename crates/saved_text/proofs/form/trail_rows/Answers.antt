-- `saved_text::form::trail_rows` meets its contract: the line that is counted, and those behind it.
use Rattle.saved_text.specs.FormLaws.{head_bad, head_stopped, head_read, alone}
use mathlib.Core.Path.{refl}
use Rattle.saved_text.proofs.form.trail_rows.Goals as goal

pub returns-in_err-codes : goal.returns-in_err-codes
returns-in_err-codes c = rw c.from_residual.ensures (head_bad _ _ (rw c.in_err-codes.was at c.read_row.ensures))

pub past_trail-requires : goal.past_trail-requires
past_trail-requires c = (c.read_row.ensures.sound _ c.in_ok-codes.was).within

pub returns-in_err-behind : goal.returns-in_err-behind
returns-in_err-behind c = rw c.from_residual-in_err-behind.ensures (head_stopped _ _ (rw c.in_ok-codes.was at c.read_row.ensures) (rw c.in_err-behind.was at c.past_trail.ensures))

pub returns : goal.returns
returns c = rw (← alone _ c.past_trail.auto.curr) (head_read _ _ (rw c.in_ok-codes.was at c.read_row.ensures) tt refl (rw c.in_ok-behind.was at c.past_trail.ensures))
