-- `insert` meets its contract: a good heap has room for a variable that is no member.
use Rattle.vsids.proofs.Kept.{good_free}
use Rattle.heap_session.proofs.order.insert.Goals as goal

pub insert-requires-clause-len_in_bounds : goal.insert-requires-clause-len_in_bounds
insert-requires-clause-len_in_bounds c = let g = c.requires.1 in rw g.scores.long (good_free g _ c.if-v-n.false)
