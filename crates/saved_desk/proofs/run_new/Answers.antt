-- `saved_desk::run_new` meets its contract: refusals 1 and 2, a sheet without lines, and the run from the first line on.
use mathlib.Core.Path.{refl, sym, ◌∙◌}
use native.Mathlib.Omega.{arith}
use lib.ListN.{length}
use Rattle.forms.specs.Text.{newline, lines, written}
use Rattle.lit.specs.declared.Refusal.TheVariants.{LongSheet, ShortBuffer}
use Rattle.forms.specs.TextLaws.{occurs_length}
use Rattle.sheet.specs.Sheet.{answered}
use Rattle.sheet.proofs.Opening.{start_room}
use Rattle.saved_sheet.specs.Sheets.{held_by, with_text_of, ran_new}
use Rattle.saved_desk.specs.New.{no_lines}
use Rattle.saved_desk.specs.Entry.{too_long, no_room, is_taken, comes_refused}
use Rattle.saved_desk.proofs.run_new.Goals as goal

pub returns-then-sheet : goal.returns-then-sheet
unfolding ran_new
returns-then-sheet c =
    comes_refused LongSheet c.args.answers.now c.args.text.now (too_long c.args.sheet.now (length c.args.answers.now) (with_text_of (length c.args.text.now) (answered (lines c.args.sheet.now)) (held_by (lines c.args.sheet.now))) c.if-sheet.true)

pub overflow_mul-count : goal.overflow_mul-count
overflow_mul-count c =
    omega (arith, c.occurs-count.ensures, occurs_length newline c.args.sheet.now, c.if-sheet.false)

pub returns-then-answers-count : goal.returns-then-answers-count
unfolding ran_new
returns-then-answers-count c =
    comes_refused ShortBuffer c.args.answers.now c.args.text.now (no_room c.args.sheet.now (length c.args.answers.now) (with_text_of (length c.args.text.now) (answered (lines c.args.sheet.now)) (held_by (lines c.args.sheet.now))) c.if-sheet.false (rw c.occurs-count.ensures at c.if-answers-count.true))

pub returns-then-count-eq0 : goal.returns-then-count-eq0
unfolding ran_new written
returns-then-count-eq0 c =
    rw (is_taken c.args.sheet.now (length c.args.answers.now) (with_text_of (length c.args.text.now) (answered (lines c.args.sheet.now)) (held_by (lines c.args.sheet.now))) c.if-sheet.false (rw c.occurs-count.ensures at c.if-answers-count.false), no_lines c.args.sheet.now (length c.args.text.now) (sym c.occurs-count.ensures ∙ c.if-count-eq0.true)) (refl, refl, refl)

pub overflow_cast-count : goal.overflow_cast-count
overflow_cast-count c =
    omega (arith, c.occurs-count.ensures, occurs_length newline c.args.sheet.now, c.if-sheet.false)

pub from_first-requires : goal.from_first-requires
from_first-requires c =
    let count = c.occurs-count.ensures in
    rw count (start_room c.args.sheet.now c.args.answers.now c.if-sheet.false (rw count at c.if-answers-count.false), omega (arith, count, c.if-count-eq0.false))

pub returns : goal.returns
unfolding ran_new
returns c =
    rw (is_taken c.args.sheet.now (length c.args.answers.now) (with_text_of (length c.args.text.now) (answered (lines c.args.sheet.now)) (held_by (lines c.args.sheet.now))) c.if-sheet.false (rw c.occurs-count.ensures at c.if-answers-count.false)) c.from_first.ensures
