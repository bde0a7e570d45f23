use lib.ListN.{length}
use Rattle.trail.specs.Undone.{between}
use Rattle.vsids.specs.Memory.{vsids_in, SameSlices}
use Rattle.heap_session.specs.Memory.{insert_all}
use Rattle.heap_session.proofs.on_trail.Going.{Offering}
use Rattle.heap_session.proofs.on_trail.offer_undone.Given as goal

abbrev pub invariant-loop-i : goal.invariant-loop-i
invariant-loop-i l =
    let s = l.initial.h in
    Offering (length s.activity.now) l.codes l.from l.to (insert_all (between l.codes l.from l.to) (vsids_in s)) l.i (vsids_in l.h) × SameSlices s l.h
