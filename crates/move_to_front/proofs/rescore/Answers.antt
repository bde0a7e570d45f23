-- `rescore`: it is `renumber` from the front.
use Prim.Native.Nat.{◌+◌}
use mathlib.Core.Path.{ap}
use Rattle.vmtf.specs.Vmtf.{Vmtf, with_stamps, rescore}
use lib.ListN.{length}
use Rattle.move_to_front.proofs.rescore.Goals as goal

pub returns-clause-rescored : goal.returns-clause-rescored
unfolding rescore
returns-clause-rescored c = ap (λ (l : Vmtf). with_stamps l.ts (length l.next + 1) l) c.renumber.ensures.renumbered
