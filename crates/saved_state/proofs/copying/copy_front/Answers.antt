-- `saved_state::copying::copy_front` meets its contract. The loop's invariant: the first i places are copied.
use mathlib.Core.Path.{refl}
use Rattle.std.proofs.Common.{rules}
use native.Mathlib.Omega.{arith}
use Rattle.saved_state.specs.Loops.{front_start, front_next, front_end}
use Rattle.saved_state.proofs.copying.copy_front.Goals as goal

pub loop-i-init : goal.loop-i-init
loop-i-init g c = front_start (search rules) refl

pub loop-i-preserved : goal.loop-i-preserved
loop-i-preserved g c =
    let f = c.loop-i.invariant in
    front_next c.index-front-i.result c.index-front-i.result f (omega (arith, f.whole)) c.index-front-i.is

pub returns : goal.returns
returns g c = let f = c.loop-i.invariant in front_end f (omega (arith, f.whole))
