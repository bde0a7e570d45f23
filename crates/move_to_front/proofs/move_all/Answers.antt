-- The loop's invariant: moving on from the index gives the goal, and the list stays safe.
use Prim.Native.Nat.{◌≤◌, ◌<◌}
use mathlib.Core.Path.{sym, ◌∙◌}
use native.Mathlib.Omega.{arith}
use lib.ListN.{length}
use Rattle.vmtf.specs.Laws.{moves_step, moves_end, move_safe}
use Rattle.move_to_front.proofs.move_all.Goals as goal

pub loop-v-preserved : goal.loop-v-preserved
loop-v-preserved c =
    let v = c.loop-v.invariant in
    let h : c.loop-v.v-index < length c.args.vars.now = omega arith in
    let e = c.move_to_front.ensures in
    let s = e.same_slices in
    (rw e.moved (move_safe v.0 (c.requires.vars _ h)), rw e.moved (sym (moves_step _ _ _ h) ∙ v.1), (v.2.0 ∙ s.0, v.2.1 ∙ s.1, v.2.2 ∙ s.2))

pub returns-clause-moved : goal.returns-clause-moved
returns-clause-moved c = let h : length c.args.vars.now ≤ c.loop-v.v-index = omega arith in sym (moves_end _ _ _ h) ∙ c.loop-v.invariant.1
