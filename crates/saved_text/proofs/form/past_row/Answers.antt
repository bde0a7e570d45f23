-- `saved_text::form::past_row` meets its contract: a line that was read, with so many numbers, is the row.
use Rattle.saved_text.specs.FormLaws.{row_bad, row_miscounted, row_past}
use Rattle.saved_text.proofs.form.past_row.Goals as goal

pub returns-in_err-numbers : goal.returns-in_err-numbers
returns-in_err-numbers g c = rw c.from_residual.ensures (row_bad _ (rw c.in_err-numbers.was at c.read_row.ensures))

pub returns-then-numbers-count : goal.returns-then-numbers-count
returns-then-numbers-count g c = row_miscounted _ (rw c.in_ok-numbers.was at c.read_row.ensures) c.if-numbers-count.true

pub returns : goal.returns
returns g c = row_past _ (rw c.in_ok-numbers.was at c.read_row.ensures) c.if-numbers-count.false
