-- `heap_desk::run::heap_done` meets its contract: the lines leave a good session, whose text has room.
use mathlib.Core.Path.{sym}
use borrow.Author.Rules.{rules}
use Rattle.heap_entry.specs.Checked.{heap_sound}
use Rattle.heap_sheet.specs.Lines.{heap_along}
use Rattle.heap_desk.specs.Saving.{heap_fits, heap_saves}
use Rattle.heap_desk.proofs.run.heap_done.Goals as goal

pub lines-answers-requires : goal.lines-answers-requires
unfolding heap_sound
lines-answers-requires c = record { room = (c.requires.room.0, c.requires.savable.0.clauses.list.few_clauses); good = c.requires.savable.0 }

pub put_text-text-requires : goal.put_text-text-requires
put_text-text-requires c =
    let good = rw (sym c.view.ensures.trail, sym c.view.ensures.vsids) at (heap_along c.args.n c.args.list.lits.now c.args.list.ends.now c.lines-answers.ensures.went).good in
    let fits = heap_fits c.args.text.now good (search rules, search rules) c.requires.room.1 in
    record { lines = fits.0; room = fits.1 }

pub returns : goal.returns
returns c =
    let along = rw (sym c.view.ensures.trail, sym c.view.ensures.vsids) at (heap_along c.args.n c.args.list.lits.now c.args.list.ends.now c.lines-answers.ensures.went) in
    heap_saves along c.lines-answers.ensures.left c.put_text-text.ensures
