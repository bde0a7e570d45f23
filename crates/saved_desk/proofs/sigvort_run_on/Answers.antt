-- `saved_desk::sigvort_run_on` meets its contract: it is `run_on`, whose counts have 32 bits.
use native.Mathlib.Omega.{arith}
use lib.ListN.{length}
use Rattle.saved_sheet.specs.Sheets.{ran_on}
use Rattle.saved_desk.specs.Entry.{counts_small, gives_written, gives_refused}
use Rattle.saved_desk.proofs.Small.{on_small}
use Rattle.saved_desk.proofs.sigvort_run_on.Goals as goal

pub overflow_cast-written : goal.overflow_cast-written
overflow_cast-written c =
    let f = c.run_on-r in
    omega (arith, (counts_small c.args.answers.now c.args.text.now f.new.answers f.new.text (ran_on c.args.old.now c.args.sheet.now (length c.args.answers.now) (length c.args.text.now)) (on_small c.args.old.now c.args.sheet.now (length c.args.answers.now) (length c.args.text.now)) (rw c.in-Ok.is at f.ensures)).1)

pub overflow_cast-result : goal.overflow_cast-result
overflow_cast-result c =
    let f = c.run_on-r in
    omega (arith, (counts_small c.args.answers.now c.args.text.now f.new.answers f.new.text (ran_on c.args.old.now c.args.sheet.now (length c.args.answers.now) (length c.args.text.now)) (on_small c.args.old.now c.args.sheet.now (length c.args.answers.now) (length c.args.text.now)) (rw c.in-Ok.is at f.ensures)).0)

pub returns-in-Ok : goal.returns-in-Ok
returns-in-Ok c =
    let f = c.run_on-r in
    gives_written c.args.answers.now c.args.text.now f.new.answers f.new.text (ran_on c.args.old.now c.args.sheet.now (length c.args.answers.now) (length c.args.text.now)) c.args.written.now c.in-Ok.b (rw c.in-Ok.is at f.ensures)

pub returns-in-Err : goal.returns-in-Err
returns-in-Err c =
    let f = c.run_on-r in
    rw c.number.ensures (gives_refused c.args.answers.now c.args.text.now f.new.answers f.new.text (ran_on c.args.old.now c.args.sheet.now (length c.args.answers.now) (length c.args.text.now)) c.args.written.now c.in-Err.e (rw c.in-Err.is at f.ensures))
