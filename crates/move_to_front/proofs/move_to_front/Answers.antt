-- `move_to_front`: relinking keeps what safety needs of the links, so the stamps may be renumbered behind it.
use mathlib.Core.Path.{ap, ◌∙◌}
use lib.ListN.{length}
use borrow.Author.Tests.{eq-eqb, ne_eqb}
use Rattle.vmtf.specs.Vmtf.{Safe, vmtf_in, tick, move_to_front}
use Rattle.vmtf.specs.Laws.{relink_safe}
use Rattle.move_to_front.proofs.move_to_front.Goals as goal

pub tick-requires : goal.tick-requires
tick-requires c =
    let m : Safe (length c.args.list.now.next.now) (vmtf_in c.relink.new.list) = rw c.relink.ensures.relinked (relink_safe c.requires.safe c.requires.tomove_in_bounds c.if-tomove-list.true) in
    rw m.ts_long m.links

pub returns-then-tomove-list-clause-moved : goal.returns-then-tomove-list-clause-moved
unfolding move_to_front
returns-then-tomove-list-clause-moved c = rw (ne_eqb _ _ c.if-tomove-list.true) (c.tick.ensures.ticked ∙ ap tick c.relink.ensures.relinked)

pub returns-else-tomove-list-clause-moved : goal.returns-else-tomove-list-clause-moved
unfolding move_to_front
returns-else-tomove-list-clause-moved c = rw (eq-eqb _ _ c.if-tomove-list.false)
