-- The loop's invariant: linking on from place i gives the goal.
use Prim.Native.Nat.{◌≤◌, ◌<◌}
use mathlib.Core.Path.{sym, ◌∙◌}
use native.Mathlib.Omega.{arith}
use lib.ListN.{length, length-set}
use Rattle.vmtf.specs.Laws.{link_step, link_end}
use Rattle.move_to_front.proofs.creation.link.Goals as goal

pub loop-i-preserved : goal.loop-i-preserved
loop-i-preserved c =
    let v = c.loop-i.invariant in
    let h : c.loop-i.i < length c.args.order.now = omega arith in
    (simp length-set v.0, simp length-set v.1, rw c.var_at.ensures (sym (link_step _ _ _ _ h) ∙ v.2), v.3)

pub returns-clause-linked : goal.returns-clause-linked
returns-clause-linked c = let h : length c.args.order.now ≤ c.loop-i.i = omega arith in sym (link_end _ _ _ _ h) ∙ c.loop-i.invariant.2
