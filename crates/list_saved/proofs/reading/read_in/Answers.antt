-- `list_saved::reading::read_in` meets its contract: the arrays have room, and what was loaded into them settles the answer.
use Rattle.list_entry.specs.Entry.{blank}
use Rattle.list_saved.specs.Reader.{memory_of}
use Rattle.list_saved.specs.Reading.{answers_none}
use Rattle.list_saved.proofs.reading.read_in.Goals as goal

pub returns-in_default : goal.returns-in_default
returns-in_default g c =
    let a = c.args in
    let before = memory_of a.lits.now a.ends.now a.values.now a.levels.now a.reasons.now a.trail.now a.opened.now a.next.now a.prev.now a.ts.now blank in
    rw (c.refuse.ensures, c.blank_state.ensures) (answers_none a.text.now before _ _ _ _ _ _ _ _ _ _ c.in_default.ensures)

pub returns : goal.returns
returns g c = c.settle.ensures c.args.text.now c.args.at c.requires.opens_with c.in-Some.ensures
