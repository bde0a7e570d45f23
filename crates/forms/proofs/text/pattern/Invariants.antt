use Rattle.std.proofs.Common.{◌≡◌, ◌<◌, ◌≤◌, ◌^◌, drop}
use mathlib.Core.Option.{none}
use Rattle.forms.specs.Text.{pattern}
use Rattle.forms.specs.Reading.{pattern_from}
use Rattle.forms.proofs.text.pattern.Given as goal

abbrev pub invariant-loop-b : goal.invariant-loop-b
invariant-loop-b l = (l.v < 16 ^ l.b-index) × (l.worst < 16 → pattern l.field ≡ pattern_from l.v (drop l.b-index l.field)) × (16 ≤ l.worst → pattern l.field ≡ none)
