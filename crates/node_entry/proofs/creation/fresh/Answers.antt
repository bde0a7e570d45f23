-- `fresh` meets its contract: the entry over flat slices answers for the first nodes, and what it answers for them it answers for all.
use Rattle.list_entry.specs.Entry.{made, blank}
use Rattle.node_entry.specs.Fields.{made_out, first_for_all}
use Rattle.node_entry.proofs.Parts.{gathered, back_room, scattered}
use Rattle.node_entry.proofs.creation.fresh.Goals as goal

pub scatter-requires : goal.scatter-requires
scatter-requires c =
    let ns = c.args.nodes.now in
    let k = c.room_for-k.result in
    let fits = c.room_for-k.ensures in
    let kept = c.fresh-r.auto in
    back_room ns k fits _ _ _ _ _ _ _ _ _ (gathered ns k fits _ _ _ c.gather.ensures) kept.next kept.prev kept.ts

pub returns-clause-fact : goal.returns-clause-fact
returns-clause-fact c =
    let a = c.args in
    let ns = a.nodes.now in
    let k = c.room_for-k.result in
    let fits = c.room_for-k.ensures in
    let kept = c.fresh-r.auto in
    let firsts = gathered ns k fits _ _ _ c.gather.ensures in
    first_for_all a.n a.clauses a.lits.now a.values.now a.levels.now a.reasons.now a.trail.now a.opened.now blank
    (made a.n a.clauses a.lits.now a.literals a.ends.now a.counts.now a.indexes.now)
    (λ next prev ts out. made_out a.n a.clauses a.lits.now a.values.now a.levels.now a.reasons.now a.trail.now a.opened.now blank a.literals a.ends.now next prev ts out a.counts.now a.indexes.now)
    ns k fits _ _ _ _ _ _ _ _ _ _ _ _ c.scatter.new.nodes _ _
    firsts (scattered ns k fits _ _ _ _ _ _ _ _ _ firsts kept.next kept.prev kept.ts c.scatter.new.nodes c.scatter.ensures) c.fresh-r.ensures.fact
