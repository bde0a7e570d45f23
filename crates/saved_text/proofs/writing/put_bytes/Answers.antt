-- `saved_text::writing::put_bytes` meets its contract: what was written is the bytes passed.
use Prim.Native.Nat.{◌+◌}
use mathlib.Core.Path.{◌≡◌, refl}
use native.Mathlib.Omega.{arith}
use native.Mathlib.Numerals.{add-one}
use lib.ListN.{get_or}
use lib.Seq.{take-suc}
use Rattle.forms.specs.Text.{written}
use Rattle.forms.specs.Written.{put_one}
use Rattle.saved_text.proofs.writing.put_bytes.Goals as goal

pub loop-i-init : goal.loop-i-init
unfolding written
loop-i-init c = (omega arith, record { buffer = refl; place = refl })

pub loop-i-preserved : goal.loop-i-preserved
loop-i-preserved c =
    let l = c.loop-i in
    let a = c.args in
    let i = l.i in
    let e : a.at + (i + 1) ≡ a.at + i + 1 = omega arith in
    (omega arith, rw (e, add-one i, take-suc a.word.now i 0 (omega arith)) (put_one (get_or a.word.now i 0) l.invariant.1))
