-- `heap_saved::loading::load` meets its contract: the session's slices are those that were lent.
use Rattle.std.proofs.Common.{rules}
use Rattle.heap_saved.proofs.loading.load.Goals as goal

pub returns : goal.returns
returns c = let k = c.load_session.ensures.loads in search (rules, k)
