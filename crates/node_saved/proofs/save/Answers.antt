-- `save` meets its contract: what is written of the first nodes is what is written of all.
use Rattle.choosers.specs.List.{list_ops}
use Rattle.book.specs.Session.{Session}
use Rattle.saved_state.specs.Written.{saved_list}
use Rattle.node_entry.proofs.Parts.{gathered}
use Rattle.node_saved.specs.First.{wrote_first}
use Rattle.node_saved.proofs.save.Goals as goal

pub returns : goal.returns
returns c =
    let a = c.args in
    let ns = a.nodes.now in
    let k = c.room_for-k.result in
    let fits = c.room_for-k.ensures in
    rw (← wrote_first a.n a.clauses a.lits.now a.values.now a.levels.now a.reasons.now a.trail.now a.opened.now a.s a.literals a.ends.now
    (λ (u : Session a.n a.clauses (list_ops a.n a.lits.now)). saved_list a.n a.lits.now a.ends.now u.trail u.chooser) a.text.now ns k fits _ _ _ (gathered ns k fits _ _ _ c.gather.ensures)) c.save.ensures
