use Rattle.list_entry.specs.Checked.{list_sound}
use Rattle.mode.proofs.list_mode.ListSessionSession.group.Goals as goal

pub group_unaided-requires-clause-in_order : goal.group_unaided-requires-clause-in_order
unfolding list_sound
group_unaided-requires-clause-in_order c = c.requires.good.list
