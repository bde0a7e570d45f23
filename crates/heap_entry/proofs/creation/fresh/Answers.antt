-- `heap_entry::creation::fresh` meets its contract: the session in what is lent is made fresh.
use Rattle.std.proofs.Common.{rules}
use Rattle.heap_entry.proofs.creation.fresh.Goals as goal

pub returns : goal.returns
returns c = let h = rw c.blank_state.ensures at c.fresh_session-given.ensures.answered in rw c.of.ensures (search (rules, h))
