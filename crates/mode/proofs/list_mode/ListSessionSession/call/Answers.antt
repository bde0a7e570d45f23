use Rattle.list_entry.specs.Checked.{list_sound}
use Rattle.mode.proofs.list_mode.ListSessionSession.call.Goals as goal

pub step-requires-clause-good : goal.step-requires-clause-good
unfolding list_sound
step-requires-clause-good c = c.requires
