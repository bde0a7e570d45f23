-- `saved_text::writing::reason_length` meets its contract: the dash is one byte, and a whole number's digits are those of 64 bits.
use mathlib.Core.Path.{ap, ◌∙◌}
use native.Mathlib.Omega.{arith}
use borrow.Author.Tests.{eq-eqb, ne_eqb}
use lib.ListN.{length}
use Rattle.forms.specs.TextLaws.{whole_digits}
use Rattle.forms.specs.Spelling.{reason_text}
use Rattle.saved_text.proofs.writing.reason_length.Goals as goal

pub returns-then-v-eq-NONE : goal.returns-then-v-eq-NONE
unfolding reason_text
returns-then-v-eq-NONE c = rw (eq-eqb _ _ c.if-v-eq-NONE.true)

pub returns : goal.returns
unfolding reason_text
returns c =
    c.digit_count.ensures ∙ rw (ne_eqb _ _ c.if-v-eq-NONE.false) (ap length (whole_digits c.args.v (omega arith)))
