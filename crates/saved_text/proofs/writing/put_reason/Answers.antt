-- `saved_text::writing::put_reason` meets its contract: a dash, or the digits of a whole number.
use mathlib.Core.Path.{refl, ap}
use native.Mathlib.Omega.{arith}
use borrow.Author.Tests.{eq-eqb, ne_eqb}
use lib.ListN.{length}
use Rattle.forms.specs.Text.{written}
use Rattle.forms.specs.TextLaws.{whole_digits}
use Rattle.forms.specs.Spelling.{reason_text}
use Rattle.saved_text.proofs.writing.put_reason.Goals as goal

pub bounds-out-at : goal.bounds-out-at
unfolding reason_text
bounds-out-at c = let room = rw (eq-eqb _ _ c.if-v-eq-NONE.true) at c.requires in omega arith

pub returns-then-v-eq-NONE : goal.returns-then-v-eq-NONE
unfolding reason_text written
returns-then-v-eq-NONE c = rw (eq-eqb _ _ c.if-v-eq-NONE.true) (record { buffer = refl; place = refl })

pub put_number-requires : goal.put_number-requires
unfolding reason_text
put_number-requires c =
    let room = rw (ne_eqb _ _ c.if-v-eq-NONE.false) at c.requires in
    omega (arith, ap length (whole_digits c.args.v (omega arith)))

pub returns : goal.returns
unfolding reason_text
returns c =
    rw (ne_eqb _ _ c.if-v-eq-NONE.false, ← whole_digits c.args.v (omega arith)) c.put_number.ensures
