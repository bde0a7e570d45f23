-- `forms::one_number` meets its contract: behind the tab stands one field, or a tab that no number takes.
use Rattle.std.proofs.Common.{ℕ, ◌≤◌, List, length, sym, refl, ap, ◌∙◌}
use Rattle.forms.specs.Text.{number}
use Rattle.laws.specs.Options.{as_code}
use Rattle.forms.specs.Forms.{one}
use Rattle.forms.specs.Behind.{tabbed_long, untabbed}
use Rattle.lit.specs.Numbers.{NONE}
use Rattle.forms.specs.Laws.{number_tab}
use Rattle.laws.specs.Parts.{to_end}
use Rattle.forms.specs.Lines.{one_behind}
use Rattle.forms.proofs.one_number.Goals as goal
use Rattle.forms.proofs.one_number.Goals.{Else-not-has_fields}

pub returns-then-not-has_fields : goal.returns-then-not-has_fields
returns-then-not-has_fields c = sym (ap as_code (untabbed c.args.line.now (one number) refl (sym c.has_fields.ensures ∙ c.if-not-has_fields.true)))

long : (c : Else-not-has_fields) → 2 ≤ length c.args.line.now
long c = tabbed_long c.args.line.now (sym c.has_fields.ensures ∙ c.if-not-has_fields.false)

pub slice_bounds-number-count : goal.slice_bounds-number-count
slice_bounds-number-count c = long c

pub slice_bounds-number-start : goal.slice_bounds-number-start
slice_bounds-number-start c = long c

pub returns : goal.returns
returns c =
    let line = c.args.line.now in
    c.number.ensures
    ∙ ap (λ (bs : List ℕ). as_code (number bs)) (to_end 2 line)
    ∙ sym (ap as_code (one_behind line (sym c.has_fields.ensures ∙ c.if-not-has_fields.false) number (number_tab NONE)))
