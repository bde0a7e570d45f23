use lib.ListN.{length}
use Rattle.heap.specs.Heap.{comes_first}
use Rattle.vsids.specs.Vsids.{places}
use Rattle.vsids.specs.View.{vsids_seen}
use Rattle.vsids.specs.Check.{member_ok}
use Rattle.laws.specs.Every.{Passed}
use Rattle.vsids.proofs.heap_check.VsidsView.members_ok.Given as goal

abbrev pub invariant-loop-i : goal.invariant-loop-i
invariant-loop-i l = let h = vsids_seen l.self in Passed (member_ok (length h.activity) (comes_first h.activity) (places h)) h.len l.i
