-- `heap_saved::reading::read_in` meets its contract: the text is loaded into arrays, and settled.
use Rattle.vsids.specs.Vsids.{Vsids}
use Rattle.heap_entry.specs.Entry.{blank}
use Rattle.saved_state.specs.Entry.{Memory}
use Rattle.heap_saved.specs.Reader.{memory_of}
use Rattle.heap_saved.specs.Reading.{answers_none}
use Rattle.heap_saved.proofs.reading.read_in.Goals as goal
use Rattle.heap_saved.proofs.reading.read_in.Goals.{Start}
use Rattle.heap_saved.proofs.reading.read_in.Given.{Over}

-- the memory as lent
abbrev before : (g : Over) → Start g → Memory Vsids
before g c = let a = c.args in memory_of a.lits.now a.ends.now a.values.now a.levels.now a.reasons.now a.trail.now a.opened.now a.activity.now a.heap.now a.indices.now a.decision.now blank

pub returns-in_default : goal.returns-in_default
returns-in_default g c = rw (c.refuse.ensures, c.blank_state.ensures) (answers_none c.args.text.now (before g (goal.at.returns-in_default g c).Start) _ _ _ _ _ _ _ _ _ _ _ c.in_default.ensures)

pub returns : goal.returns
returns g c = c.settle.ensures c.args.text.now c.args.at c.requires.opens_with c.in-Some.ensures
