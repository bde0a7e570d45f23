-- `list_saved::reading::read` meets its contract: by what the first line opens.
use Rattle.list_entry.specs.Entry.{blank}
use Rattle.list_saved.specs.Reader.{list_reader, memory_of}
use Rattle.list_saved.specs.Reading.{answers_heap}
use Rattle.saved_state.specs.Answering.{read_none}
use Rattle.list_saved.proofs.reading.read.Goals as goal

pub read_opened-requires : goal.read_opened-requires
read_opened-requires c = rw c.in-List.is at c.in-Some.ensures

pub returns-in-List : goal.returns-in-List
returns-in-List c = c.read_opened.ensures

pub returns-in-Heap : goal.returns-in-Heap
returns-in-Heap c =
    let a = c.args in
    let lent = memory_of a.lits.now a.ends.now a.values.now a.levels.now a.reasons.now a.trail.now a.opened.now a.next.now a.prev.now a.ts.now blank in
    rw (c.refuse-in-Heap.ensures, c.blank_state-in-Heap.ensures) (answers_heap (rw c.in-Heap.is at c.in-Some.ensures) lent)

pub returns-in_default : goal.returns-in_default
returns-in_default c =
    let a = c.args in
    let lent = memory_of a.lits.now a.ends.now a.values.now a.levels.now a.reasons.now a.trail.now a.opened.now a.next.now a.prev.now a.ts.now blank in
    rw (c.refuse.ensures, c.blank_state.ensures) (read_none list_reader c.args.text.now lent c.in_default.ensures)
