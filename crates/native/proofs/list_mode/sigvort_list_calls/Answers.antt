-- `sigvort_list_calls` meets its contract: what the list answers, with the small states as numbers.
use Rattle.std.proofs.Common.{ℕ, List, length, subst, rules}
use Rattle.lit.specs.Numbers.{NONE}
use Rattle.choosers.specs.List.{list_ops}
use Rattle.book.specs.Session.{Session}
use Rattle.session.specs.Entry.{Answered}
use Rattle.list_session.specs.declared.ListState.{ListState}
use Rattle.list_session.specs.Memory.{session_of}
use Rattle.list_entry.specs.Entry.{list_mode}
use Rattle.list_calls.specs.Lists.{entered_words}
use Rattle.native.specs.Small.{list_state, list_with, refused_kept, list_answered}
use Rattle.native.proofs.list_mode.sigvort_list_calls.Goals as goal

pub returns-then-a-eq0 : goal.returns-then-a-eq0
returns-then-a-eq0 c =
    let a = c.args in
    let x = c.enter-a.new in
    let before = session_of a.n a.clauses a.lits.now a.values.now a.levels.now a.reasons.now a.trail.now a.opened.now a.next.now a.prev.now a.ts.now (list_state a.len.now a.level.now a.curr_i.now a.start.now a.search.now a.timestamp.now) in
    rw c.if-a-eq0.true
    (subst (λ (s : ListState). Answered (entered_words a.n a.clauses a.lits.now a.literals a.ends.now a.vars.now a.calls.now (length a.answers.now) before) (before, a.answers.now) 0 NONE (session_of a.n a.clauses a.lits.now x.values x.levels x.reasons x.trail x.opened x.next x.prev x.ts s, x.answers))
    (search rules)
    (list_answered a.n a.clauses (list_mode a.n a.clauses a.lits.now) a.lits.now a.literals a.ends.now a.vars.now a.calls.now (length a.answers.now) before (rw c.state.ensures at c.enter-a.ensures) c.if-a-eq0.true))

pub returns-else-a-eq0 : goal.returns-else-a-eq0
returns-else-a-eq0 c =
    let a = c.args in
    refused_kept (λ (p : Session a.n a.clauses (list_ops a.n a.lits.now) × List ℕ). (list_with a.n a.clauses a.lits.now (list_state a.len.now a.level.now a.curr_i.now a.start.now a.search.now a.timestamp.now) p.0, p.1)) (rw c.state.ensures at c.enter-a.ensures) c.if-a-eq0.false
