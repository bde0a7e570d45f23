-- `move_to_front::order::group_order` meets its contract: the group's variables sorted by their stamps are `by_stamp`.
use Rattle.vmtf.specs.Sort.{sorted_is}
use Rattle.move_to_front.proofs.order.group_order.Goals as goal

pub returns : goal.returns
returns c = sorted_is _ _ c.requires.apart c.read_stamps.ensures.0 c.read_stamps.ensures.1 c.sort_by_stamp.ensures
