-- `saved_state::loading::stamps` meets its contract. The loop's invariant: storing on from the variable at place i gives the whole.
use mathlib.Core.Path.{refl}
use native.Mathlib.Omega.{arith}
use Rattle.saved_state.specs.Loops.{along_next, along_end}
use Rattle.saved_state.proofs.loading.stamps.Goals as goal

pub loop-i-preserved : goal.loop-i-preserved
loop-i-preserved c = along_next c.loop-i.invariant _ _ 0 (omega arith) refl refl

pub returns : goal.returns
returns c = along_end c.loop-i.invariant (c.fill.ensures.after (λ y e. e)) (omega arith)
