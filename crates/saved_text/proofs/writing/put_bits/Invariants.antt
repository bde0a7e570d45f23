use Prim.Native.Nat.{◌-◌}
use mathlib.Core.Path.{◌≡◌}
use lib.ListN.{length}
use Rattle.forms.specs.Text.{written}
use Rattle.forms.specs.Spelling.{hex}
use Rattle.saved_text.proofs.writing.put_bits.Given as goal

abbrev pub invariant-loop-i : goal.invariant-loop-i
invariant-loop-i l = (length l.out ≡ length l.initial.out) × (written l.at (hex (16 - l.i) l.left) l.out ≡ written l.at (hex 16 l.v) l.initial.out)
