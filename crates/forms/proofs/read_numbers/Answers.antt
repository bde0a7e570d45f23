-- `forms::read_numbers` meets its contract: each turn reads the field up to the next tab, and what is left still decides.
use Rattle.std.proofs.Common.{◌≡◌, ◌+◌, ◌≤◌, length, take, drop, sym, ◌∙◌, arith, length-drop}
use mathlib.Core.Option.{some}
use Rattle.lit.specs.Numbers.{NONE}
use Rattle.forms.specs.Text.{tab, find, number}
use Rattle.forms.specs.TextLaws.{find_length}
use Rattle.forms.specs.Counting.{count_none, count_last, count_next}
use Rattle.forms.specs.Words.{number_within}
use Rattle.forms.specs.Told.{field_is, field_nothing}
use Rattle.forms.proofs.read_numbers.Goals as goal
use Rattle.forms.proofs.read_numbers.Goals.{At-loop-value, In_ok-value}

-- the number that was read is the field's, and the field ends at the next tab
told : (c : In_ok-value) → let at = c.loop-value.at in let left = drop at c.args.bytes.now in
    (number (take (find tab left) left) ≡ some c.in_ok-value.field-0.value) × (c.in_ok-value.field-0.end ≡ at + find tab left)
told c = field_is _ _ (sym c.number_at.ensures ∙ c.in_ok-value.was)

up_to : (c : At-loop-value) → let bytes = c.args.bytes.now in c.loop-value.at + find tab (drop c.loop-value.at bytes) ≤ length bytes
up_to c =
    let bytes = c.args.bytes.now in
    omega (arith, find_length tab (drop c.loop-value.at bytes), length-drop c.loop-value.at bytes, c.loop-value.invariant.1.within)

pub returns-in_err-value : goal.returns-in_err-value
returns-in_err-value c =
    rw c.from_residual.ensures (count_none c.args.bytes.now c.loop-value.out c.loop-value.n c.loop-value.at c.loop-value.invariant.1 (field_nothing _ _ (sym c.number_at.ensures ∙ c.in_err-value.was)))

pub overflow_cast-value : goal.overflow_cast-value
overflow_cast-value c = omega (arith, number_within NONE _ _ (told (goal.at.overflow_cast-value c).In_ok-value).0)

pub returns-then-end-bytes : goal.returns-then-end-bytes
returns-then-end-bytes c =
    let bytes = c.args.bytes.now in
    let is = told (goal.at.returns-then-end-bytes c).In_ok-value in
    rw c.put.ensures
    (count_last bytes c.loop-value.out c.loop-value.n c.loop-value.at c.loop-value.invariant.1 c.in_ok-value.field-0.value is.0 (omega (arith, is.1, c.if-end-bytes.true, length-drop c.loop-value.at bytes)))

pub overflow_add-at : goal.overflow_add-at
overflow_add-at c = omega (arith, (told (goal.at.overflow_add-at c).In_ok-value).1, up_to (goal.at.overflow_add-at c).At-loop-value, c.if-end-bytes.false, c.well_formed)

pub loop-value-smaller : goal.loop-value-smaller
loop-value-smaller c = omega (arith, (told (goal.at.loop-value-smaller c).In_ok-value).1, up_to (goal.at.loop-value-smaller c).At-loop-value, c.if-end-bytes.false)

pub loop-value-preserved : goal.loop-value-preserved
loop-value-preserved c =
    let bytes = c.args.bytes.now in
    let is = told (goal.at.loop-value-preserved c).In_ok-value in
    let p = c.put in (
      p.auto.out ∙ c.loop-value.invariant.0,
      rw (p.ensures, is.1)
          (count_next bytes c.loop-value.out c.loop-value.n c.loop-value.at c.loop-value.invariant.1 c.in_ok-value.field-0.value is.0 (omega (arith, is.1, up_to (goal.at.loop-value-preserved c).At-loop-value, c.if-end-bytes.false, length-drop c.loop-value.at bytes))),
    )
