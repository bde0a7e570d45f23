use Rattle.heap_session.specs.Held.{session_in}
use Rattle.mode.proofs.heap_mode.HeapSessionSession.group.Goals as goal

pub returns-clause-answered : goal.returns-clause-answered
returns-clause-answered c =
    let a = c.args in
    c.group.ensures a.m a.list.lits.now a.list.ends.now (session_in a.n a.m a.list.lits.now a.list.ends.now a.self.now)
