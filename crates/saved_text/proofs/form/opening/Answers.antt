-- `saved_text::form::opening` meets its contract: the first line goes up to the first newline.
use Prim.Native.Nat.{◌<◌}
use Rattle.forms.specs.Text.{newline}
use Rattle.forms.specs.TextLaws.{find_length}
use Rattle.forms.specs.Words.{never}
use Rattle.saved_text.specs.FormLaws.{opened_by, first_told, opening_bad}
use lib.ListN.{length}
use lib.Seq.{length-take-le}
use mathlib.Core.Path.{refl, sym, ap, ◌∙◌}
use native.Mathlib.Omega.{arith}
use Rattle.saved_text.proofs.form.opening.Goals as goal
use Rattle.saved_text.proofs.form.opening.Goals.{Else-end-text}

-- where the first newline stands
found : (c : Else-end-text) → c.find-end.result < length c.args.text.now
found c = omega (arith, c.find-end.ensures, find_length newline c.args.text.now, c.if-end-text.false)

pub returns-then-end-text : goal.returns-then-end-text
returns-then-end-text c = opening_bad _ _ c.find-end.ensures (λ o h e. omega (arith, c.if-end-text.true))

pub slice_bounds-read_first-end : goal.slice_bounds-read_first-end
slice_bounds-read_first-end c = sym (length-take-le _ _ (omega (arith, found (goal.at.slice_bounds-read_first-end c).Else-end-text)))

pub overflow_add-result : goal.overflow_add-result
overflow_add-result c = omega (arith, found (goal.at.overflow_add-result c).Else-end-text, c.well_formed)

pub returns-in_err-first : goal.returns-in_err-first
returns-in_err-first c = rw c.from_residual.ensures (opening_bad _ _ c.find-end.ensures (λ o h e. never (sym (first_told _ ∙ ap opened_by (sym c.read_first.ensures ∙ c.in_err-first.was)) ∙ e)))

pub returns : goal.returns
returns c = record { end = _; is_end = c.find-end.ensures; place = refl; found = found (goal.at.returns c).Else-end-text; line = first_told _ ∙ ap opened_by (sym c.read_first.ensures ∙ c.in_ok-first.was) }
