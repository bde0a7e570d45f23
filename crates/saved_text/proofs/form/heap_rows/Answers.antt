-- `saved_text::form::heap_rows` meets its contract: the line that is counted, and those behind it.
use Rattle.saved_text.specs.FormLaws.{head_bad, head_stopped, head_read, two}
use mathlib.Core.Path.{refl}
use Rattle.saved_text.proofs.form.heap_rows.Goals as goal

pub returns-in_err-numbers : goal.returns-in_err-numbers
returns-in_err-numbers c = rw c.from_residual.ensures (head_bad _ _ (rw c.in_err-numbers.was at c.read_row.ensures))

pub past_heap-requires : goal.past_heap-requires
past_heap-requires c = (c.read_row.ensures.sound _ c.in_ok-numbers.was).within

pub returns-in_err-behind : goal.returns-in_err-behind
returns-in_err-behind c = rw c.from_residual-in_err-behind.ensures (head_stopped _ _ (rw c.in_ok-numbers.was at c.read_row.ensures) (rw c.in_err-behind.was at c.past_heap.ensures))

pub returns : goal.returns
returns c = rw (← two _ c.past_heap.auto.step) (head_read _ _ (rw c.in_ok-numbers.was at c.read_row.ensures) tt refl (rw c.in_ok-behind.was at c.past_heap.ensures))
