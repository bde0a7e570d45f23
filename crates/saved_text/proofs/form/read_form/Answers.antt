-- `saved_text::form::read_form` meets its contract: the first line, and what stands behind it.
use Rattle.saved_text.specs.FormLaws.{form_read}
use Rattle.saved_text.proofs.form.read_form.Goals as goal

pub returns : goal.returns
returns c = form_read (rw c.in_ok-first.was at c.opening.ensures) c.behind_first.ensures
