-- `saved_state::loading::open_levels` meets its contract. The loop's invariant: the opened levels before place i stand at the front.
use mathlib.Core.Path.{◌∙◌}
use native.Mathlib.Omega.{arith}
use Rattle.saved_state.specs.Loops.{opened_same, opened_next, opened_end}
use Rattle.saved_state.proofs.loading.open_levels.Goals as goal
use Rattle.saved_state.proofs.loading.open_levels.Goals.{else-level-next, then-level-next}

pub loop-i-preserved : goal.loop-i-preserved
loop-i-preserved c =
    let o = c.loop-i.invariant in
    elim c.if-level-next.branch [ then-level-next w ↦ rw (w.opened-is, w.level-is, w.count-is) (opened_next o (omega arith) w.if-level-next.true) | else-level-next w ↦ rw (w.opened-is, w.level-is, w.count-is) (opened_same o (omega arith) w.if-level-next.false) ]

pub returns : goal.returns
returns c = let e = opened_end c.loop-i.invariant (omega arith) in (e.0 ∙ rw c.fill.ensures.len, e.1)
