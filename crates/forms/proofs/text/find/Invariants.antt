use Rattle.std.proofs.Common.{◌≡◌, ◌+◌, drop}
use Rattle.forms.specs.Text.{find}
use Rattle.forms.proofs.text.find.Given as goal

abbrev pub invariant-loop-i : goal.invariant-loop-i
invariant-loop-i l = find l.b l.bytes ≡ l.i + find l.b (drop l.i l.bytes)
