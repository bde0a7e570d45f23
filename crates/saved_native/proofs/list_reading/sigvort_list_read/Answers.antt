-- `sigvort_list_read` meets its contract: what reading answers, with the small states as numbers.
use Rattle.std.proofs.Common.{subst, rules}
use Rattle.lit.specs.Numbers.{NONE}
use Rattle.session.specs.Entry.{Answered}
use Rattle.list_session.specs.declared.ListState.{ListState}
use Rattle.saved_state.specs.Entry as entry
use Rattle.list_saved.specs.Reader.{list_reader, memory_of}
use Rattle.native.specs.Small.{list_state}
use Rattle.saved_native.specs.Told.{list_refused, list_taken}
use Rattle.saved_native.proofs.list_reading.sigvort_list_read.Goals as goal

pub returns-then-a-eq0 : goal.returns-then-a-eq0
returns-then-a-eq0 c =
    let a = c.args in
    let x = c.read-a.new in
    let small = list_state a.len.now a.level.now a.curr_i.now a.start.now a.search.now a.timestamp.now in
    let before = memory_of a.lits.now a.ends.now a.values.now a.levels.now a.reasons.now a.trail.now a.opened.now a.next.now a.prev.now a.ts.now small in
    rw c.if-a-eq0.true
    (subst (λ (s : ListState). Answered (entry.read list_reader a.text.now before) before 0 NONE (memory_of x.lits x.ends x.values x.levels x.reasons x.trail x.opened x.next x.prev x.ts s))
    (search rules)
    (list_taken a.text.now small c.read-a.ensures c.if-a-eq0.true))

pub returns-else-a-eq0 : goal.returns-else-a-eq0
returns-else-a-eq0 c = let a = c.args in list_refused a.text.now (list_state a.len.now a.level.now a.curr_i.now a.start.now a.search.now a.timestamp.now) c.read-a.ensures c.if-a-eq0.false
