-- `sigvort_list_fresh` meets its contract: what creation answers, with the small states as numbers.
use Rattle.std.proofs.Common.{subst, rules}
use Rattle.lit.specs.Numbers.{NONE}
use Rattle.session.specs.Entry.{Answered}
use Rattle.session.specs.Mode.{lengths_ok, made}
use Rattle.list_session.specs.declared.ListState.{ListState}
use Rattle.list_session.specs.Memory.{session_of}
use Rattle.list_entry.specs.Entry as entry
use Rattle.native.specs.Small.{list_state, list_with, refused_kept, made_accepted}
use Rattle.native.proofs.list_mode.sigvort_list_fresh.Goals as goal

pub returns-then-a-eq0 : goal.returns-then-a-eq0
unfolding made lengths_ok
returns-then-a-eq0 c =
    let a = c.args in
    let x = c.fresh_unaided-a.new in
    let before = session_of a.n a.clauses a.lits.now a.values.now a.levels.now a.reasons.now a.trail.now a.opened.now a.next.now a.prev.now a.ts.now (list_state a.len.now a.level.now a.curr_i.now a.start.now a.search.now a.timestamp.now) in
    rw c.if-a-eq0.true
    (subst (λ (s : ListState). Answered (entry.made_unaided a.n a.clauses a.lits.now a.literals a.ends.now before) before 0 NONE (session_of a.n a.clauses a.lits.now x.values x.levels x.reasons x.trail x.opened x.next x.prev x.ts s))
    (search rules)
    (made_accepted _ _ _ _ c.fresh_unaided-a.ensures c.if-a-eq0.true before))

pub returns-else-a-eq0 : goal.returns-else-a-eq0
unfolding made lengths_ok
returns-else-a-eq0 c =
    let a = c.args in
    refused_kept (list_with a.n a.clauses a.lits.now (list_state a.len.now a.level.now a.curr_i.now a.start.now a.search.now a.timestamp.now)) c.fresh_unaided-a.ensures c.if-a-eq0.false
