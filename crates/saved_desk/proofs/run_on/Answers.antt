-- `saved_desk::run_on` meets its contract: refusals 1 and 2, and the calls on what the text says.
use mathlib.Core.List.{map}
use native.Mathlib.Omega.{arith}
use lib.ListN.{length}
use Rattle.forms.specs.Text.{newline, lines}
use Rattle.lit.specs.declared.Refusal.TheVariants.{LongSheet, ShortBuffer}
use Rattle.forms.specs.TextLaws.{occurs_length}
use Rattle.forms.specs.Forms.{call_in}
use Rattle.sheet.proofs.Opening.{start_room}
use Rattle.saved_sheet.specs.Sheets.{held_in, carried_on, ran_on}
use Rattle.saved_desk.specs.Entry.{too_long, no_room, is_taken, comes_refused}
use Rattle.saved_desk.proofs.run_on.Goals as goal

pub returns-then-sheet : goal.returns-then-sheet
unfolding ran_on
returns-then-sheet c =
    comes_refused LongSheet c.args.answers.now c.args.text.now (too_long c.args.sheet.now (length c.args.answers.now) (carried_on (length c.args.text.now) (map call_in (lines c.args.sheet.now)) (held_in c.args.old.now)) c.if-sheet.true)

pub overflow_mul-count : goal.overflow_mul-count
overflow_mul-count c =
    omega (arith, c.occurs-count.ensures, occurs_length newline c.args.sheet.now, c.if-sheet.false)

pub returns-then-answers-count : goal.returns-then-answers-count
unfolding ran_on
returns-then-answers-count c =
    comes_refused ShortBuffer c.args.answers.now c.args.text.now (no_room c.args.sheet.now (length c.args.answers.now) (carried_on (length c.args.text.now) (map call_in (lines c.args.sheet.now)) (held_in c.args.old.now)) c.if-sheet.false (rw c.occurs-count.ensures at c.if-answers-count.true))

pub overflow_cast-count : goal.overflow_cast-count
overflow_cast-count c =
    omega (arith, c.occurs-count.ensures, occurs_length newline c.args.sheet.now, c.if-sheet.false)

pub on_text-requires : goal.on_text-requires
on_text-requires c =
    let count = c.occurs-count.ensures in
    rw count (start_room c.args.sheet.now c.args.answers.now c.if-sheet.false (rw count at c.if-answers-count.false))

pub returns : goal.returns
unfolding ran_on
returns c =
    rw (is_taken c.args.sheet.now (length c.args.answers.now) (carried_on (length c.args.text.now) (map call_in (lines c.args.sheet.now)) (held_in c.args.old.now)) c.if-sheet.false (rw c.occurs-count.ensures at c.if-answers-count.false)) c.on_text.ensures
