-- `forms::text::put_long` meets its contract: the decimals 18 left, written before the place, still give the whole number's.
use Rattle.std.proofs.Common.{◌≡◌, ◌+◌, ◌-◌, ◌/◌, ◌%◌, length, sym, refl, ◌∙◌, arith, length-set}
use Rattle.forms.specs.Letters.{digit_zero}
use Rattle.forms.specs.TextLaws.{decimals, decimals_length, decimals_last_first, put_decimal, digits_some}
use Rattle.forms.proofs.text.put_long.Goals as goal

pub loop-left-init : goal.loop-left-init
loop-left-init c = ((omega arith, omega arith), (omega arith, (omega arith, refl)))

pub overflow_sub-i : goal.overflow_sub-i
overflow_sub-i c = omega (arith, digits_some 19 c.loop-left.left)

pub bounds-out-i : goal.bounds-out-i
bounds-out-i c = omega (arith, digits_some 19 c.loop-left.left)

pub loop-left-preserved : goal.loop-left-preserved
loop-left-preserved c =
    let a = c.args in
    let at = c.loop-left in
    let e : at.i - 1 ≡ a.at + length (decimals 18 (at.left / 10)) = omega (arith, decimals_length 18 at.left (omega arith) (omega arith)) in
    let w = sym (decimals_last_first 18 a.at at.left at.out (omega arith) (omega arith)) ∙ at.invariant.1.1.1 in
    ((omega arith, omega arith), (e, (length-set at.out (at.i - 1) (digit_zero + at.left % 10) ∙ at.invariant.1.1.0, rw e w)))

pub bounds-out-at : goal.bounds-out-at
bounds-out-at c = omega (arith, digits_some 19 c.args.v)

pub returns : goal.returns
returns c =
    let a = c.args in
    let at = c.loop-left in
    record { buffer = put_decimal 18 a.at at.left at.out (omega arith) ∙ at.invariant.1.1.1; place = omega arith }
