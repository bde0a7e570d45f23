-- `outside_ok` meets its contract. The loop's invariant: of the variables below v those without a position are counted, and nothing else is counted exactly
-- where each of them is settled.
use mathlib.Core.Path.{◌≡◌, refl, sym, ◌∙◌}
use native.Mathlib.Omega.{arith}
use borrow.Author.Tests.{eq-eqb, ne_eqb}
use lib.ListN.{length}
use Rattle.laws.specs.Every.{every}
use Rattle.laws.specs.Some.{count, count_one, count_none}
use Rattle.vsids.specs.Outside.{outside_at, settled_at, outside_ok}
use Rattle.vsids.proofs.heap_check.Branches.{passes_uncounted, failure_counted}
use Rattle.vsids.proofs.heap_check.VsidsView.outside_ok.Goals as goal
use Rattle.vsids.proofs.heap_check.VsidsView.outside_ok.Goals.{else-place, else-not-settled, then-place, then-not-settled}

pub loop-v-init : goal.loop-v-init
unfolding every count
loop-v-init c = ((omega arith, omega arith), refl, refl)

pub loop-v-preserved : goal.loop-v-preserved
loop-v-preserved c =
    let l = c.loop-v in
    let s = c.args.self in
    let p = outside_at s.indices.now in
    let q = settled_at c.args.values.now s.indices.now s.decision.now in
    let t = c.settled.ensures in (
      (
        elim c.if-place.branch [ then-place w ↦ omega (arith, w.outside-is, l.invariant.0.0) | else-place w ↦ omega (arith, w.outside-is, l.invariant.0.0) ],
        elim c.if-not-settled.branch [ then-not-settled w ↦ omega (arith, w.open-is, l.invariant.0.1) | else-not-settled w ↦ omega (arith, w.open-is, l.invariant.0.1) ],
      ),
      elim c.if-place.branch [ then-place w ↦ omega (arith, w.outside-is, l.invariant.1, count_one p l.v (eq-eqb _ _ w.if-place.true)) | else-place w ↦ omega (arith, w.outside-is, l.invariant.1, count_none p l.v (ne_eqb _ _ w.if-place.false)) ],
      elim c.if-not-settled.branch [ then-not-settled w ↦ failure_counted q l.v l.«open» w.open-is (sym t ∙ w.if-not-settled.true) | else-not-settled w ↦ passes_uncounted q l.v l.invariant.2 w.open-is (sym t ∙ w.if-not-settled.false) ],
    )

pub returns-then-open-eq0 : goal.returns-then-open-eq0
unfolding outside_ok
returns-then-open-eq0 c =
    let l = c.loop-v in
    let e : l.v ≡ length c.args.self.indices.now = omega arith in
    rw (sym (rw e at l.invariant.2) ∙ eq-eqb l.«open» 0 c.if-open-eq0.true, rw e at l.invariant.1)

pub returns-else-open-eq0 : goal.returns-else-open-eq0
unfolding outside_ok
returns-else-open-eq0 c =
    let l = c.loop-v in
    let e : l.v ≡ length c.args.self.indices.now = omega arith in
    let z = ne_eqb l.«open» 0 c.if-open-eq0.false in
    rw (sym (rw e at l.invariant.2) ∙ z, z)
