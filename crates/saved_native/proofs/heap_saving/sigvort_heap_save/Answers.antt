-- `sigvort_heap_save` meets its contract: what saving answers, the count told where the text was written.
use mathlib.Core.Path.{refl}
use Rattle.saved_native.specs.Told.{written_told}
use Rattle.saved_native.proofs.heap_saving.sigvort_heap_save.Goals as goal

pub returns-in-Ok : goal.returns-in-Ok
returns-in-Ok c = written_told _ _ _ _ _ _ _ _ _ (rw c.in-Ok.is at c.save-saved.ensures) refl
