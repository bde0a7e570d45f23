-- `saved_text::form::list_rows` meets its contract: the line of the order, and those behind it.
use Rattle.saved_text.specs.FormLaws.{head_bad, head_stopped, head_read, alone}
use mathlib.Core.Path.{sym}
use Rattle.saved_text.proofs.form.list_rows.Goals as goal

pub returns-in_err-numbers : goal.returns-in_err-numbers
returns-in_err-numbers c = rw c.from_residual.ensures (head_bad _ _ (rw c.in_err-numbers.was at c.read_row.ensures))

pub past_list-requires : goal.past_list-requires
past_list-requires c = (c.read_row.ensures.sound _ c.in_ok-numbers.was).within

pub returns-in_err-behind : goal.returns-in_err-behind
returns-in_err-behind c = rw c.from_residual-in_err-behind.ensures (head_stopped _ _ (rw c.in_ok-numbers.was at c.read_row.ensures) (rw c.in_err-behind.was at c.past_list.ensures))

pub returns : goal.returns
returns c = rw (← alone c.past_list.new.timestamp c.past_list.auto.timestamp, ← alone _ c.past_list.auto.search) (head_read _ _ (rw c.in_ok-numbers.was at c.read_row.ensures) c.if-numbers-n.false (sym c.if-numbers-n.false) (rw c.in_ok-behind.was at c.past_list.ensures))
