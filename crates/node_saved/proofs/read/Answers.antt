-- `read` meets its contract: what is read into the first nodes is what is read into all.
use Rattle.node_entry.proofs.Parts.{gathered, back_room, scattered}
use Rattle.node_saved.specs.First.{read_first}
use Rattle.node_saved.proofs.read.Goals as goal

pub scatter-requires : goal.scatter-requires
scatter-requires c =
    let ns = c.args.nodes.now in
    let k = c.room_for-k.result in
    let fits = c.room_for-k.ensures in
    let kept = c.read-r.auto in
    back_room ns k fits _ _ _ _ _ _ _ _ _ (gathered ns k fits _ _ _ c.gather.ensures) kept.next kept.prev kept.ts

pub returns : goal.returns
returns c =
    let a = c.args in
    let ns = a.nodes.now in
    let k = c.room_for-k.result in
    let fits = c.room_for-k.ensures in
    let kept = c.read-r.auto in
    let firsts = gathered ns k fits _ _ _ c.gather.ensures in
    read_first a.text.now a.lits.now a.ends.now a.values.now a.levels.now a.reasons.now a.trail.now a.opened.now ns k fits
    _ _ _ _ _ _ _ _ _ _ _ _ _ _ c.scatter.new.nodes _ _
    firsts (scattered ns k fits _ _ _ _ _ _ _ _ _ firsts kept.next kept.prev kept.ts c.scatter.new.nodes c.scatter.ensures) c.read-r.ensures
