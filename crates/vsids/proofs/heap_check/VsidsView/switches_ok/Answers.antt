-- `switches_ok` meets its contract. The loop's invariant: the greatest switch so far is on or off exactly where all of them are.
use mathlib.Core.Path.{refl}
use native.Mathlib.Omega.{arith}
use Rattle.laws.specs.Every.{every}
use Rattle.vsids.proofs.heap_check.Branches.{greater_taken, other_left}
use Rattle.vsids.proofs.heap_check.VsidsView.switches_ok.Goals as goal
use Rattle.vsids.proofs.heap_check.VsidsView.switches_ok.Goals.{else-d-most, then-d-most}

pub loop-d-init : goal.loop-d-init
unfolding every
loop-d-init c = refl

pub loop-d-preserved : goal.loop-d-preserved
loop-d-preserved c =
    let l = c.loop-d in
    let d = c.args.self.decision.now in
    elim c.if-d-most.branch [ then-d-most w ↦ greater_taken d l.d-index l.most l.invariant w.most-is w.if-d-most.true | else-d-most w ↦ other_left d l.d-index l.most l.invariant w.most-is (omega (arith, w.if-d-most.false)) ]
