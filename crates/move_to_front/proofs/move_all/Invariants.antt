use mathlib.Core.Path.{◌≡◌}
use lib.ListN.{length, drop}
use Rattle.vmtf.specs.Vmtf.{vmtf_in, SameSlices, move_all, Safe}
use Rattle.move_to_front.proofs.move_all.Given as goal

abbrev pub invariant-loop-v : goal.invariant-loop-v
invariant-loop-v l = Safe (length l.initial.list.next.now) (vmtf_in l.list) × (move_all (drop l.v-index l.vars) (vmtf_in l.list) ≡ move_all l.vars (vmtf_in l.initial.list)) × SameSlices l.initial.list l.list
