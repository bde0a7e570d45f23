-- `sigvort_heap_fresh` meets its contract: what creation answers, with the small states as numbers.
use Rattle.std.proofs.Common.{subst, rules}
use Rattle.lit.specs.Numbers.{NONE}
use Rattle.session.specs.Entry.{Answered}
use Rattle.session.specs.Mode.{lengths_ok, made}
use Rattle.heap_session.specs.declared.HeapState.{HeapState}
use Rattle.heap_session.specs.Memory.{session_of}
use Rattle.heap_entry.specs.Entry as entry
use Rattle.native.specs.Small.{heap_state, heap_with, refused_kept, made_accepted}
use Rattle.native.proofs.heap_mode.sigvort_heap_fresh.Goals as goal

pub returns-then-a-eq0 : goal.returns-then-a-eq0
unfolding made lengths_ok
returns-then-a-eq0 c =
    let a = c.args in
    let x = c.fresh-a.new in
    let before = session_of a.n a.clauses a.lits.now a.ends.now a.values.now a.levels.now a.reasons.now a.trail.now a.opened.now a.activity.now a.heap.now a.indices.now a.decision.now (heap_state a.len.now a.level.now a.curr_i.now a.members.now a.inc.now a.decay.now) in
    rw c.if-a-eq0.true
    (subst (λ (s : HeapState). Answered (entry.made a.n a.clauses a.lits.now a.literals a.ends.now before) before 0 NONE (session_of a.n a.clauses a.lits.now a.ends.now x.values x.levels x.reasons x.trail x.opened x.activity x.heap x.indices x.decision s))
    (search rules)
    (made_accepted _ _ _ _ c.fresh-a.ensures c.if-a-eq0.true before))

pub returns-else-a-eq0 : goal.returns-else-a-eq0
unfolding made lengths_ok
returns-else-a-eq0 c =
    let a = c.args in
    refused_kept (heap_with a.n a.clauses a.lits.now a.ends.now (heap_state a.len.now a.level.now a.curr_i.now a.members.now a.inc.now a.decay.now)) c.fresh-a.ensures c.if-a-eq0.false
