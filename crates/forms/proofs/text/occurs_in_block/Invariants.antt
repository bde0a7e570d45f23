use Rattle.std.proofs.Common.{◌≡◌, ◌≤◌, ◌+◌, drop}
use Rattle.forms.specs.Text.{occurs}
use Rattle.forms.proofs.text.occurs_in_block.Given as goal

abbrev pub invariant-loop-x : goal.invariant-loop-x
invariant-loop-x l = (l.count ≤ l.x-index) × (occurs l.b l.bytes ≡ l.count + occurs l.b (drop l.x-index l.bytes))
