-- `desk::sigvort_run` meets its contract: it is `run`, with no positions lent.
use mathlib.Core.Path.{refl}
use Rattle.desk.proofs.sigvort_run.Goals as goal

pub slice_bounds-run-end : goal.slice_bounds-run-end
slice_bounds-run-end c = refl

pub run-requires : goal.run-requires
run-requires c = tt

pub returns : goal.returns
returns c = c.run.ensures.fact
