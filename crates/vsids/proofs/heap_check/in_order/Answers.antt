-- `in_order` meets its contract. The loop's invariant: nothing was counted exactly where every element below i is its place's number.
use mathlib.Core.Path.{refl}
use native.Mathlib.Omega.{arith}
use borrow.Author.Tests.{eq-eqb, ne_eqb}
use Rattle.laws.specs.Every.{every}
use Rattle.vsids.specs.Untouched.{own_place}
use Rattle.vsids.proofs.heap_check.Branches.{passes_uncounted, failure_counted}
use Rattle.vsids.proofs.heap_check.in_order.Goals as goal
use Rattle.vsids.proofs.heap_check.in_order.Goals.{else-x-i, then-x-i}

pub loop-i-init : goal.loop-i-init
unfolding every
loop-i-init c = (omega arith, refl)

pub loop-i-preserved : goal.loop-i-preserved
loop-i-preserved c =
    let l = c.loop-i in
    let p = own_place c.args.a.now in
    elim c.if-x-i.branch [ then-x-i w ↦ (omega (arith, w.moved-is, l.invariant.0), failure_counted p l.i l.moved w.moved-is (ne_eqb _ _ w.if-x-i.true)) | else-x-i w ↦ (omega (arith, w.moved-is, l.invariant.0), passes_uncounted p l.i l.invariant.1 w.moved-is (eq-eqb _ _ w.if-x-i.false)) ]
