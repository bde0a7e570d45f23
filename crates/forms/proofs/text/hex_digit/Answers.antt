-- `forms::text::hex_digit` meets its contract: one difference is small at a digit, the other at a letter.
use Rattle.std.proofs.Common.{◌≡◌, ◌+◌, sym, ◌∙◌, arith}
use Rattle.forms.specs.Letters.{digit_zero, digit_a}
use Rattle.forms.specs.Reading.{hex_low, hex_high, hex_none}
use Rattle.forms.proofs.text.hex_digit.Goals as goal
use Rattle.forms.proofs.text.hex_digit.Goals.{else-high-lt6, then-high-lt6}

pub returns-then-low-lt10 : goal.returns-then-low-lt10
returns-then-low-lt10 c =
    let b = c.args.b in
    let low = c.wrapping_sub_u8-low in
    let is : b ≡ low.result + digit_zero = omega (arith, low.ensures, c.if-low-lt10.true) in
    omega (arith, is, hex_low b (omega (arith, is)) (omega (arith, is, c.if-low-lt10.true)))

pub returns-else-low-lt10 : goal.returns-else-low-lt10
returns-else-low-lt10 c =
    let b = c.args.b in
    let low = c.wrapping_sub_u8-low in
    let high = c.wrapping_sub_u8-high in
    elim c.if-high-lt6.branch [ then-high-lt6 w ↦ let is : b ≡ high.result + digit_a = omega (arith, high.ensures, w.if-high-lt6.true) in omega (arith, is, w.d-is, hex_high b (omega (arith, is)) (omega (arith, is, w.if-high-lt6.true))) | else-high-lt6 w ↦ w.d-is ∙ sym (hex_none b (λ l h. omega (arith, low.ensures, c.if-low-lt10.false, l, h)) (λ l h. omega (arith, high.ensures, w.if-high-lt6.false, l, h))) ]
