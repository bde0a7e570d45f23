use Rattle.heap_entry.specs.Checked.{heap_sound}
use Rattle.mode.proofs.heap_mode.HeapSessionSession.call.Goals as goal

pub step-requires : goal.step-requires
unfolding heap_sound
step-requires c = c.requires
