-- `sigvort_heap_calls` meets its contract: what the list answers, with the small states as numbers.
use Rattle.std.proofs.Common.{ℕ, List, length, subst, rules}
use Rattle.lit.specs.Numbers.{NONE}
use Rattle.choosers.specs.Heap.{heap_ops}
use Rattle.book.specs.Session.{Session}
use Rattle.session.specs.Entry.{Answered}
use Rattle.heap_session.specs.declared.HeapState.{HeapState}
use Rattle.heap_session.specs.Memory.{session_of}
use Rattle.heap_entry.specs.Entry.{heap_mode}
use Rattle.heap_calls.specs.Lists.{entered_words}
use Rattle.native.specs.Small.{heap_state, heap_with, refused_kept, list_answered}
use Rattle.native.proofs.heap_mode.sigvort_heap_calls.Goals as goal

pub returns-then-a-eq0 : goal.returns-then-a-eq0
returns-then-a-eq0 c =
    let a = c.args in
    let x = c.enter-a.new in
    let before = session_of a.n a.clauses a.lits.now a.ends.now a.values.now a.levels.now a.reasons.now a.trail.now a.opened.now a.activity.now a.heap.now a.indices.now a.decision.now (heap_state a.len.now a.level.now a.curr_i.now a.members.now a.inc.now a.decay.now) in
    rw c.if-a-eq0.true
    (subst (λ (s : HeapState). Answered (entered_words a.n a.clauses a.lits.now a.literals a.ends.now a.vars.now a.calls.now (length a.answers.now) before) (before, a.answers.now) 0 NONE (session_of a.n a.clauses a.lits.now a.ends.now x.values x.levels x.reasons x.trail x.opened x.activity x.heap x.indices x.decision s, x.answers))
    (search rules)
    (list_answered a.n a.clauses (heap_mode a.n a.clauses a.lits.now a.ends.now) a.lits.now a.literals a.ends.now a.vars.now a.calls.now (length a.answers.now) before (rw c.state.ensures at c.enter-a.ensures) c.if-a-eq0.true))

pub returns-else-a-eq0 : goal.returns-else-a-eq0
returns-else-a-eq0 c =
    let a = c.args in
    refused_kept (λ (p : Session a.n a.clauses (heap_ops a.n a.lits.now a.ends.now) × List ℕ). (heap_with a.n a.clauses a.lits.now a.ends.now (heap_state a.len.now a.level.now a.curr_i.now a.members.now a.inc.now a.decay.now) p.0, p.1)) (rw c.state.ensures at c.enter-a.ensures) c.if-a-eq0.false
