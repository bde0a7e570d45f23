use Rattle.std.proofs.Common.{◌≡◌, length}
use Rattle.vmtf.specs.Vmtf.{first_open, from, Ends}
use Rattle.vmtf.proofs.first_open.Given as goal

abbrev pub invariant-loop-curr : goal.invariant-loop-curr
invariant-loop-curr l = Ends l.next l.curr × (first_open l.values (from l.next (length l.next) l.search) ≡ first_open l.values (from l.next (length l.next) l.curr))

abbrev pub decreases-loop-curr : goal.decreases-loop-curr
decreases-loop-curr l = length (from l.next (length l.next) l.curr)
