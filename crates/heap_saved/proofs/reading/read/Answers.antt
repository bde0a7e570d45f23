-- `heap_saved::reading::read` meets its contract: by what the first line opens.
use Rattle.vsids.specs.Vsids.{Vsids}
use Rattle.heap_entry.specs.Entry.{blank}
use Rattle.saved_state.specs.Entry.{Memory}
use Rattle.saved_state.specs.Answering.{read_none}
use Rattle.heap_saved.specs.Reader.{heap_reader, memory_of}
use Rattle.heap_saved.specs.Reading.{answers_list}
use Rattle.heap_saved.proofs.reading.read.Goals as goal
use Rattle.heap_saved.proofs.reading.read.Goals.{Start}

-- the memory as lent
abbrev before : (c : Start) → Memory Vsids
before c = let a = c.args in memory_of a.lits.now a.ends.now a.values.now a.levels.now a.reasons.now a.trail.now a.opened.now a.activity.now a.heap.now a.indices.now a.decision.now blank

pub read_opened-requires : goal.read_opened-requires
read_opened-requires c = rw c.in-Heap.is at c.in-Some.ensures

pub returns-in-Heap : goal.returns-in-Heap
returns-in-Heap c = c.read_opened.ensures

pub returns-in-List : goal.returns-in-List
returns-in-List c = rw (c.refuse-in-List.ensures, c.blank_state-in-List.ensures) (answers_list (rw c.in-List.is at c.in-Some.ensures) (before (goal.at.returns-in-List c).Start))

pub returns-in_default : goal.returns-in_default
returns-in_default c = rw (c.refuse.ensures, c.blank_state.ensures) (read_none heap_reader c.args.text.now (before (goal.at.returns-in_default c).Start) c.in_default.ensures)
