-- `forms::text::number` meets its contract: a field that is digits and nothing else.
use Rattle.std.proofs.Common.{◌≡◌, ◌+◌, sym, ap, ◌∙◌, arith}
use mathlib.Core.Option.{some}
use Rattle.laws.specs.Options.{as_code}
use Rattle.lit.specs.Numbers.{NONE}
use Rattle.forms.specs.Text.{number}
use Rattle.forms.specs.Reading.{digit_run, run, run_whole, run_part, run_nothing}
use Rattle.forms.specs.Told.{field_is, field_nothing}
use Rattle.forms.specs.Words.{number_within}
use Rattle.forms.proofs.text.number.Goals as goal
use Rattle.forms.proofs.text.number.Goals.{In_ok-value}

-- the number of the digits in front, and where they end
told : (c : In_ok-value) → let field = c.args.field.now in (number (run field) ≡ some c.in_ok-value.field-0.value) × (c.in_ok-value.field-0.end ≡ 0 + digit_run field)
told c = field_is _ _ (sym c.in_ok-value.ensures)

pub returns-in_err-value : goal.returns-in_err-value
returns-in_err-value c = c.from_residual.ensures ∙ sym (ap as_code (run_nothing NONE c.args.field.now (field_nothing _ _ (sym c.in_err-value.ensures))))

pub returns-then-end-field : goal.returns-then-end-field
returns-then-end-field c = sym (ap as_code (run_part NONE c.args.field.now (omega (arith, (told (goal.at.returns-then-end-field c).In_ok-value).1, c.if-end-field.true))))

pub overflow_cast-result : goal.overflow_cast-result
overflow_cast-result c = omega (arith, number_within NONE _ _ (told (goal.at.overflow_cast-result c).In_ok-value).0)

pub returns : goal.returns
returns c =
    let is = told (goal.at.returns c).In_ok-value in
    sym (ap as_code (sym (run_whole NONE c.args.field.now (omega (arith, is.1, c.if-end-field.false))) ∙ is.0))
