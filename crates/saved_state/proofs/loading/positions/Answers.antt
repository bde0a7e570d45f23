-- `saved_state::loading::positions` meets its contract. The loop's invariant: storing on from the member at place i gives the whole.
use mathlib.Core.Path.{refl, sym}
use native.Mathlib.Omega.{arith}
use lib.ListN.{length}
use Rattle.laws.specs.InPlace.{length_up_to, get_or_up_to}
use Rattle.saved_state.specs.Loops.{along_start, along_next, along_end}
use Rattle.saved_state.proofs.loading.positions.Goals as goal

pub loop-i-init : goal.loop-i-init
loop-i-init c = along_start c.fill.ensures.len refl (omega (arith, length_up_to (length c.args.members.now))) c.requires.1

pub loop-i-preserved : goal.loop-i-preserved
loop-i-preserved c = along_next c.loop-i.invariant _ _ 0 (omega arith) refl (sym (get_or_up_to (length c.args.members.now) _ (omega arith)))

pub returns : goal.returns
returns c = along_end c.loop-i.invariant (c.fill.ensures.after (λ y e. e)) (omega arith)
