-- `trail::back::backstep` meets its contract: each store is the definition's, and the variable read off the trail is below the lengths.
use Prim.Native.Nat.{◌<◌}
use native.Mathlib.Omega.{arith}
use lib.ListN.{length}
use Rattle.trail.specs.Trail.{backstep}
use Rattle.trail.proofs.back.backstep.Goals as goal
use Rattle.trail.proofs.back.backstep.Goals.{After-index-v}

-- the literal read is of a variable
var : (c : After-index-v) → c.index-v.result < length c.args.values.now
var c = rw c.index-v.ensures (c.requires.room.codes_in _ (omega arith))

pub bounds-values-v : goal.bounds-values-v
bounds-values-v c = var c

pub bounds-reasons-v : goal.bounds-reasons-v
bounds-reasons-v c = omega (arith, var c)

pub returns : goal.returns
unfolding backstep
returns c = cc
