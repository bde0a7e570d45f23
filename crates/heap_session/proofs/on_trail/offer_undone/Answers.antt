-- `offer_undone` meets its contract. The loop's invariant: offering the variables that are left gives the goal.
use Prim.Native.Nat.{ℕ, ◌-◌}
use mathlib.Core.Path.{refl, ap, ◌∙◌}
use native.Mathlib.Omega.{arith}
use borrow.Author.Rules.{rules}
use Rattle.vsids.specs.Vsids.{insert}
use Rattle.vsids.specs.Memory.{vsids_in}
use Rattle.vsids.proofs.Kept.{good_room, good_free}
use Rattle.heap_session.proofs.on_trail.Going.{offering, offered_all}
use Rattle.heap_session.proofs.on_trail.offer_undone.Goals as goal

pub loop-i-init : goal.loop-i-init
loop-i-init c = (record { above = c.requires.from_le_to.0; under = omega arith; long = refl; good = c.requires.for_values; rest = refl }, search rules)

pub insert-requires-clause-room : goal.insert-requires-clause-room
insert-requires-clause-room c = let v = c.loop-i.invariant.0 in rw v.long (good_room v.good.1)

pub insert-requires-clause-var_in_bounds : goal.insert-requires-clause-var_in_bounds
insert-requires-clause-var_in_bounds c =
    let v = c.loop-i.invariant.0 in
    rw (v.long, c.index.ensures) (c.requires.from_le_to.1.1 (c.loop-i.i - 1) (omega (arith, v.under)), v.good.1.switches)

pub insert-requires-clause-len_in_bounds : goal.insert-requires-clause-len_in_bounds
insert-requires-clause-len_in_bounds c =
    let v = c.loop-i.invariant.0 in
    rw (v.long, c.index.ensures) (good_free v.good.1 _ (c.requires.from_le_to.1.1 (c.loop-i.i - 1) (omega (arith, v.under))))

pub loop-i-preserved : goal.loop-i-preserved
loop-i-preserved c =
    let l = c.loop-i in
    let v = l.invariant.0 in (
      offering v (omega arith) (omega (arith, v.under, c.requires.from_le_to.1.0)) (c.requires.from_le_to.1.1 (l.i - 1) (omega (arith, v.under))) _ (c.insert.ensures.inserted ∙ ap (λ (u : ℕ). insert u (vsids_in l.h)) c.index.ensures),
      search rules,
    )

pub returns-clause-offered : goal.returns-clause-offered
returns-clause-offered c = offered_all c.loop-i.invariant.0 (omega arith)
