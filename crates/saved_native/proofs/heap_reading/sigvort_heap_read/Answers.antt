-- `sigvort_heap_read` meets its contract: what reading answers, with the small states as numbers.
use Rattle.std.proofs.Common.{subst, rules}
use Rattle.lit.specs.Numbers.{NONE}
use Rattle.session.specs.Entry.{Answered}
use Rattle.heap_session.specs.declared.HeapState.{HeapState}
use Rattle.saved_state.specs.Entry as entry
use Rattle.heap_saved.specs.Reader.{heap_reader, memory_of}
use Rattle.native.specs.Small.{heap_state}
use Rattle.saved_native.specs.Told.{heap_refused, heap_taken}
use Rattle.saved_native.proofs.heap_reading.sigvort_heap_read.Goals as goal

pub returns-then-a-eq0 : goal.returns-then-a-eq0
returns-then-a-eq0 c =
    let a = c.args in
    let x = c.read-a.new in
    let small = heap_state a.len.now a.level.now a.curr_i.now a.members.now a.inc.now a.decay.now in
    let before = memory_of a.lits.now a.ends.now a.values.now a.levels.now a.reasons.now a.trail.now a.opened.now a.activity.now a.heap.now a.indices.now a.decision.now small in
    rw c.if-a-eq0.true
    (subst (λ (s : HeapState). Answered (entry.read heap_reader a.text.now before) before 0 NONE (memory_of x.lits x.ends x.values x.levels x.reasons x.trail x.opened x.activity x.heap x.indices x.decision s))
    (search rules)
    (heap_taken a.text.now small c.read-a.ensures c.if-a-eq0.true))

pub returns-else-a-eq0 : goal.returns-else-a-eq0
returns-else-a-eq0 c = let a = c.args in heap_refused a.text.now (heap_state a.len.now a.level.now a.curr_i.now a.members.now a.inc.now a.decay.now) c.read-a.ensures c.if-a-eq0.false
