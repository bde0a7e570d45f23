-- `saved_state::loading::store` meets its contract. The loop's invariant: storing on from the literal at place i gives the whole.
use mathlib.Core.Path.{refl}
use native.Mathlib.Omega.{arith}
use Rattle.saved_state.specs.Loops.{along_end, codes_start, codes_next}
use Rattle.saved_state.proofs.loading.store.Goals as goal

pub loop-i-init : goal.loop-i-init
loop-i-init c =
    codes_start c.args.codes.now c.fill.ensures.len (omega arith) c.requires.1

pub loop-i-preserved : goal.loop-i-preserved
loop-i-preserved c = rw c.index.ensures (codes_next c.args.codes.now c.loop-i.invariant (omega arith) _ 0 refl)

pub returns : goal.returns
returns c = along_end c.loop-i.invariant (c.fill.ensures.after (λ y e. e)) (omega arith)
