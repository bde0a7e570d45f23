-- `list_desk::run::list_done` meets its contract: the lines leave a good session, whose text has room.
use mathlib.Core.Path.{sym}
use native.Mathlib.Omega.{arith}
use Rattle.list_entry.specs.Checked.{list_sound}
use Rattle.list_sheet.specs.Lines.{list_along}
use Rattle.list_desk.specs.Saving.{list_fits, list_saves}
use Rattle.list_desk.proofs.run.list_done.Goals as goal

pub lines-answers-requires : goal.lines-answers-requires
unfolding list_sound
lines-answers-requires c = record { room = (c.requires.room.0, c.requires.savable.0.list.few_clauses); good = c.requires.savable.1 }

pub put_text-text-requires : goal.put_text-text-requires
put_text-text-requires c =
    let good = rw (sym c.view.ensures.trail, sym c.view.ensures.list) at (list_along c.args.n c.args.list.lits.now c.args.list.ends.now c.lines-answers.ensures.went).good in
    let fits = list_fits c.args.text.now c.requires.savable.0 good (omega arith) c.requires.room.1 in
    record { lines = fits.0; room = fits.1 }

pub returns : goal.returns
returns c =
    let along = rw (sym c.view.ensures.trail, sym c.view.ensures.list) at (list_along c.args.n c.args.list.lits.now c.args.list.ends.now c.lines-answers.ensures.went) in
    list_saves along c.lines-answers.ensures.left c.put_text-text.ensures
