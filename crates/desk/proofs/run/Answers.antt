-- `desk::run` meets its contract: refusals 1 and 2, a sheet without lines, and the answers.
use mathlib.Core.Path.{sym, ◌∙◌}
use native.Mathlib.Omega.{arith}
use Rattle.forms.specs.Text.{newline}
use Rattle.forms.specs.TextLaws.{occurs_length}
use Rattle.sheet.proofs.Opening.{start_room}
use Rattle.desk.specs.Ran.{ran_long, ran_no_room, ran_answers, ran_none, few_bytes}
use Rattle.desk.proofs.run.Goals as goal

pub returns-then-sheet : goal.returns-then-sheet
returns-then-sheet c = let both = ran_long c.args.sheet.now c.args.out.now c.args.positions.now c.if-sheet.true in record { fact = both.0; fact_2 = both.1 }

pub overflow_mul-count : goal.overflow_mul-count
overflow_mul-count c = omega (arith, c.occurs-count.ensures, occurs_length newline c.args.sheet.now, c.if-sheet.false)

pub returns-then-out-count : goal.returns-then-out-count
returns-then-out-count c = let both = ran_no_room c.args.sheet.now c.args.out.now c.args.positions.now c.if-sheet.false (rw c.occurs-count.ensures at c.if-out-count.true) in record { fact = both.0; fact_2 = both.1 }

pub returns-then-count-eq0 : goal.returns-then-count-eq0
returns-then-count-eq0 c =
    let count = c.occurs-count.ensures in
    let both = ran_none c.args.sheet.now c.args.out.now c.args.positions.now c.if-sheet.false (rw count at c.if-out-count.false) (sym count ∙ c.if-count-eq0.true) in record { fact = both.0; fact_2 = both.1 }

pub overflow_cast-count : goal.overflow_cast-count
overflow_cast-count c = omega (arith, c.occurs-count.ensures, occurs_length newline c.args.sheet.now, c.if-sheet.false)

pub answer_all-requires : goal.answer_all-requires
answer_all-requires c =
    let count = c.occurs-count.ensures in
    rw count (start_room c.args.sheet.now c.args.out.now c.if-sheet.false (rw count at c.if-out-count.false), omega (arith, count, c.if-count-eq0.false))

pub overflow_cast-result : goal.overflow_cast-result
overflow_cast-result c = omega (arith, c.answer_all.ensures.wrote.place, few_bytes c.args.sheet.now c.if-sheet.false)

pub returns : goal.returns
returns c = let both = ran_answers c.args.sheet.now c.args.out.now c.args.positions.now c.if-sheet.false (rw c.occurs-count.ensures at c.if-out-count.false) (c.answer_all.ensures.wrote, c.answer_all.ensures.same_from) in record { fact = both.0; fact_2 = both.1 }
