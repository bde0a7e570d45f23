-- `activities_within` meets its contract. The loop's invariant: nothing was counted exactly where every activity so far is in range.
use mathlib.Core.Path.{refl, sym, ◌∙◌}
use native.Mathlib.Omega.{arith}
use Rattle.laws.specs.Every.{every}
use Rattle.vsids.specs.Untouched.{activity_within}
use Rattle.vsids.proofs.heap_check.Branches.{passes_uncounted, failure_counted}
use Rattle.vsids.proofs.heap_check.activities_within.Goals as goal
use Rattle.vsids.proofs.heap_check.activities_within.Goals.{else-not-within, then-not-within}

pub loop-a-init : goal.loop-a-init
unfolding every
loop-a-init c = (omega arith, refl)

pub loop-a-preserved : goal.loop-a-preserved
loop-a-preserved c =
    let l = c.loop-a in
    let p = activity_within c.args.hi c.args.activity.now in
    let t = c.within.ensures in
    elim c.if-not-within.branch [ then-not-within w ↦ (omega (arith, w.outside-is, l.invariant.0), failure_counted p l.a-index l.outside w.outside-is (sym t ∙ w.if-not-within.true)) | else-not-within w ↦ (omega (arith, w.outside-is, l.invariant.0), passes_uncounted p l.a-index l.invariant.1 w.outside-is (sym t ∙ w.if-not-within.false)) ]
