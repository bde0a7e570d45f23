-- `bump_variable` meets its contract: after `add_step` a member moves up, and another variable stays.
use mathlib.Core.Path.{sym, ◌∙◌}
use native.Mathlib.Omega.{arith}
use Rattle.heap.specs.Walks.{room_fewer}
use Rattle.vsids.proofs.bump_variable.Goals as goal

pub decrease-requires : goal.decrease-requires
decrease-requires c =
    let l = c.requires.placed c.args.var c.requires.var_in_bounds (sym c.in_heap.ensures ∙ c.if-in_heap.true) in
    record { var_in_bounds = omega (arith, c.requires.room.indices_long, c.requires.var_in_bounds); room = rw c.add_step-step.auto.activity (room_fewer c.requires.room _ (omega (arith, l))) }
