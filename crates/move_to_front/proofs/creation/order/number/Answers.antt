-- The loop's invariant: the first i places hold their own numbers, the others what they held.
use Prim.Native.Nat.{◌<◌}
use mathlib.Core.Path.{◌≡◌, refl, ◌∙◌}
use native.Mathlib.Omega.{arith}
use lib.ListN.{length, length-set}
use Rattle.laws.specs.InPlace.{up_to, counted_next, counted_end}
use Rattle.move_to_front.proofs.creation.order.number.Goals as goal

pub loop-i-init : goal.loop-i-init
unfolding up_to
loop-i-init c = (refl, refl)

pub loop-i-preserved : goal.loop-i-preserved
loop-i-preserved c =
    let h : c.loop-i.i < length c.args.s.now = omega arith in
    (simp length-set c.loop-i.invariant.0, rw c.loop-i.invariant.1 (counted_next c.args.s.now c.loop-i.i h))

pub returns : goal.returns
returns c = let e : c.loop-i.i ≡ length c.args.s.now = omega arith in c.loop-i.invariant.1 ∙ rw e (counted_end c.args.s.now _ refl)
