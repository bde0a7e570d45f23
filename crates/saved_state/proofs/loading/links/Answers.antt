-- `saved_state::loading::links` meets its contract. The loop's invariant: storing on from the variable at place i gives the whole, of either slice; the variable before it is at hand.
use mathlib.Core.Path.{refl, sym, ◌∙◌}
use native.Mathlib.Omega.{arith}
use native.Mathlib.Numerals.{add-one}
use Rattle.saved_state.specs.Loops.{along_next, along_end, behind_at}
use Rattle.saved_state.proofs.loading.links.Goals as goal

pub loop-i-preserved : goal.loop-i-preserved
loop-i-preserved c =
    let order = c.args.order.now in
    let at = c.loop-i in
    (along_next at.invariant.0 _ _ 0 (omega arith) refl (c.variable.ensures ∙ sym (behind_at order at.i (omega arith))), along_next at.invariant.1 _ _ 0 (omega arith) refl at.invariant.2, rw add-one)

pub returns : goal.returns
returns c = (along_end c.loop-i.invariant.0 (c.fill.ensures.after (λ y e. e)) (omega arith), along_end c.loop-i.invariant.1 (c.fill-2.ensures.after (λ y e. e) ∙ rw c.requires.0) (omega arith))
