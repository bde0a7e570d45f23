-- `forms::text::number_at` meets its contract: digits up to a tab or the end are the field, and a field with another byte in it is no number.
use Rattle.std.proofs.Common.{◌≡◌, ℕ, ◌+◌, get_or, drop, sym, ap, ◌∙◌, arith, length-drop, get_or-drop, Some}
use mathlib.Core.Option.{some}
use Rattle.forms.specs.Text.{tab, number_up_to}
use Rattle.forms.specs.Reading.{digit_run, run, field_run, field_other, field_none}
use Rattle.forms.specs.TextRead.{field_of}
use Rattle.forms.specs.Told.{field_is, field_nothing}
use Rattle.forms.proofs.text.number_at.Goals as goal
use Rattle.forms.proofs.text.number_at.Goals.{In_ok-field, else-field-bytes-via-then-field-bytes+else-bytes-field-ne-TAB, else-field-bytes-via-else-field-bytes}

-- the number that was read, and the place behind its digits
told : (c : In_ok-field) → let a = c.args in
    (number_up_to a.top (run (drop a.at a.bytes.now)) ≡ some c.in_ok-field.field.value) × (c.in_ok-field.field.end ≡ a.at + digit_run (drop a.at a.bytes.now))
told c = field_is _ _ (sym c.in_ok-field.ensures)

pub returns-in_err-field : goal.returns-in_err-field
returns-in_err-field c =
    let a = c.args in
    c.from_residual.ensures ∙ sym (ap (field_of _) (field_none a.top (drop a.at a.bytes.now) (field_nothing _ _ (sym c.in_err-field.ensures))))

pub returns-then-bytes-field-ne-TAB : goal.returns-then-bytes-field-ne-TAB
returns-then-bytes-field-ne-TAB c =
    let a = c.args in
    let bs = drop a.at a.bytes.now in
    let is = told (goal.at.returns-then-bytes-field-ne-TAB c).In_ok-field in
    let there : get_or bs (digit_run bs) 0 ≡ get_or a.bytes.now (a.at + digit_run bs) 0 = get_or-drop a.at a.bytes.now (digit_run bs) 0 in
    let other : get_or a.bytes.now c.in_ok-field.field.end 0 ≡ tab → ⊥ = c.if-bytes-field-ne-TAB.true in
    sym (ap (field_of _) (field_other a.top bs (omega (arith, is.1, length-drop a.at a.bytes.now, c.if-field-bytes.true)) (λ e. other (ap (λ (k : ℕ). get_or a.bytes.now k 0) is.1 ∙ sym there ∙ e))))

pub returns : goal.returns
returns c =
    let a = c.args in
    let bs = drop a.at a.bytes.now in
    let is = told (goal.at.returns c).In_ok-field in
    let there : get_or bs (digit_run bs) 0 ≡ get_or a.bytes.now (a.at + digit_run bs) 0 = get_or-drop a.at a.bytes.now (digit_run bs) 0 in
    let f = field_run a.top bs (λ l. elim c.else-field-bytes.branch [ else-field-bytes-via-then-field-bytes+else-bytes-field-ne-TAB w ↦ there ∙ rw (← is.1) w.if-bytes-field-ne-TAB.false | else-field-bytes-via-else-field-bytes w ↦ absurd (omega (arith, is.1, length-drop a.at a.bytes.now, w.if-field-bytes.false)) ]) in
    rw (f.0, is.0) (ap (λ (k : ℕ). Some (record { value = c.in_ok-field.field.value; end = k })) is.1)
