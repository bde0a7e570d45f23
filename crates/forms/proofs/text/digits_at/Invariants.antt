use Rattle.std.proofs.Common.{◌≡◌, ◌+◌, ◌-◌, ◌<◌, ◌≤◌, get_or, length}
use Rattle.forms.specs.Letters.{digit_zero}
use Rattle.forms.proofs.Digits.{Left}
use Rattle.forms.proofs.text.digits_at.Given as goal

-- a zero in front has nothing behind it yet
abbrev pub invariant-loop-end : goal.invariant-loop-end
invariant-loop-end l = Left l.bytes l.at l.top l.value l.end × (l.at < l.end) × (l.value ≤ l.top) × (get_or l.bytes l.at 0 ≡ digit_zero → l.end ≡ l.at + 1)

abbrev pub decreases-loop-end : goal.decreases-loop-end
decreases-loop-end l = length l.bytes - l.end
