-- `trail::back::backsteps` meets its contract: the steps that are left lead from here to where k steps lead from the start.
use Rattle.std.proofs.Common.{◌≡◌, ◌-◌, arith}
use native.Mathlib.Nat.{sub-zero}
use Rattle.trail.specs.Trail.{backsteps}
use Rattle.trail.proofs.Going.{undo_more}
use Rattle.trail.proofs.back.backsteps.Goals as goal

pub loop-init : goal.loop-init
loop-init c = record { room = c.requires.room; enough = omega arith; rest = rw sub-zero }

pub loop-preserved : goal.loop-preserved
loop-preserved c = undo_more c.loop.invariant (omega arith) _ c.backstep-t.ensures

pub returns : goal.returns
unfolding backsteps
returns c = let e : c.args.k - c.loop.counter ≡ 0 = omega arith in rw e at c.loop.invariant.rest
