use Rattle.std.proofs.Common.{◌≡◌, ◌+◌, ◌≤◌, length}
use Rattle.forms.specs.Text.{written}
use Rattle.forms.specs.TextLaws.{decimals}
use Rattle.forms.proofs.text.put_long.Given as goal

abbrev pub invariant-loop-left : goal.invariant-loop-left
invariant-loop-left l =
    ((l.left ≤ l.v) × (l.i ≤ l.at + length (decimals 18 l.v))) × ((l.i ≡ l.at + length (decimals 18 l.left)) × ((length l.out ≡ length l.initial.out) × (written l.at (decimals 18 l.left) l.out ≡ written l.at (decimals 18 l.v) l.initial.out)))

abbrev pub decreases-loop-left : goal.decreases-loop-left
decreases-loop-left l = l.left
