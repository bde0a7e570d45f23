use mathlib.Core.Path.{◌≡◌}
use lib.ListN.{length, drop}
use Rattle.lit.specs.Numbers.{NONE}
use Rattle.vmtf.specs.Vmtf.{vmtf_in, SameSlices, Even, link_from}
use Rattle.move_to_front.proofs.creation.link.Given as goal

abbrev pub invariant-loop-i : goal.invariant-loop-i
invariant-loop-i l =
    (length l.list.next.now ≡ length l.initial.list.next.now) × Even (vmtf_in l.list)
    × (link_from l.before (drop l.i l.order) (vmtf_in l.list) ≡ link_from NONE l.order (vmtf_in l.initial.list))
    × SameSlices l.initial.list l.list
