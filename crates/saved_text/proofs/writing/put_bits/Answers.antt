-- `saved_text::writing::put_bits` meets its contract: the digits left, written before the place, still give the whole pattern's.
use Prim.Native.Nat.{◌+◌, ◌-◌, suc}
use mathlib.Core.Path.{◌≡◌, ◌∙◌, sym}
use native.Mathlib.Omega.{arith}
use lib.ListN.{length-set}
use Rattle.saved_text.specs.Length.{bits_length}
use Rattle.saved_text.specs.Written.{bits_last, bits_none}
use Rattle.saved_text.proofs.writing.put_bits.Goals as goal

pub loop-i-preserved : goal.loop-i-preserved
loop-i-preserved c =
    let at = c.args.at in
    let l = c.loop-i in
    let k = 15 - l.i in
    let more : 16 - l.i ≡ suc k = omega arith in
    let last : 16 - (l.i + 1) ≡ k = omega arith in
    (length-set l.out (at + k) c.hex_byte.result ∙ l.invariant.0, rw (last, c.hex_byte.ensures) (sym (bits_last k at l.left l.out) ∙ (rw more at l.invariant.1)))

pub returns : goal.returns
returns c =
    let l = c.loop-i in
    let a = c.args in
    let none : 16 - l.i ≡ 0 = omega arith in
    record { buffer = sym (bits_none a.at l.left l.out) ∙ (rw none at l.invariant.1); place = omega (arith, bits_length 16 a.v) }
