-- `bump_reason_literals` meets its contract. The loop's invariant: bumping the literals from place i on gives the goal, whatever the switches.
use Prim.Native.Nat.{ℕ, ◌≤◌}
use mathlib.Core.Path.{refl, ap, ◌∙◌}
use mathlib.Core.List.{[]}
use native.Mathlib.Omega.{arith}
use lib.ListN.{length, drop_of_length-le}
use Rattle.vsids.specs.Vsids.{vsids_of, bump_variable, bump_all}
use Rattle.vsids.proofs.Loops.{bumping}
use Rattle.vsids.proofs.bump_reason_literals.Goals as goal

pub loop-i-init : goal.loop-i-init
loop-i-init c d = record { safe = record { long = refl; room = c.requires.room; placed = c.requires.placed }; rest = refl }

pub bump_variable-state-requires : goal.bump_variable-state-requires
bump_variable-state-requires c =
    let l = c.loop-i in
    let b = (l.invariant []).safe in
    record { room = rw b.long b.room; placed = rw b.long b.placed; var_in_bounds = rw (b.long, c.index.ensures) (c.requires.by_index l.i (omega arith)) }

pub loop-i-preserved : goal.loop-i-preserved
loop-i-preserved c d =
    let l = c.loop-i in
    bumping (l.invariant d) (omega arith) (c.requires.by_index l.i (omega arith)) (c.bump_variable-state.ensures d ∙ ap (λ (v : ℕ). bump_variable v (vsids_of l.activity l.heap l.indices d l.state)) c.index.ensures)

pub returns : goal.returns
unfolding bump_all
returns c d =
    let l = c.loop-i in
    let e : length c.args.clause.now ≤ l.i = omega arith in
    rw (drop_of_length-le c.args.clause.now e) at (l.invariant d).rest
