use lib.ListN.{length}
use Rattle.heap.specs.Memory.{SameSlices}
use Rattle.vsids.specs.Vsids.{vsids_of, get_next}
use Rattle.vsids.proofs.Loops.{Seeking}
use Rattle.vsids.proofs.get_next.Given as goal

abbrev pub invariant-loop-len : goal.invariant-loop-len
invariant-loop-len l =
    let p = l.initial.places in
    Seeking l.values (length l.activity) (get_next l.values (vsids_of l.activity p.heap.now p.indices.now l.decision (record { len = l.initial.len; step = l.step }))) (vsids_of l.activity l.places.heap.now l.places.indices.now l.decision (record { len = l.len; step = l.step }))
    × SameSlices p l.places

abbrev pub decreases-loop-len : goal.decreases-loop-len
decreases-loop-len l = l.len
