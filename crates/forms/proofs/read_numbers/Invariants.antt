use Rattle.std.proofs.Common.{◌≡◌, ◌-◌, length}
use Rattle.forms.specs.Counting.{SoFar}
use Rattle.forms.proofs.read_numbers.Given as goal

abbrev pub invariant-loop-value : goal.invariant-loop-value
invariant-loop-value l = (length l.out ≡ length l.initial.out) × SoFar l.bytes l.out l.n l.at

abbrev pub decreases-loop-value : goal.decreases-loop-value
decreases-loop-value l = length l.bytes - l.at
