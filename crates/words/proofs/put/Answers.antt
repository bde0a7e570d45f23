-- `words::put` meets its contract: two words are stored.
use Prim.Native.Nat.{◌*◌}
use native.Mathlib.Omega.{arith}
use lib.ListN.{length-set}
use Rattle.words.proofs.put.Goals as goal

pub bounds-answers-i-2 : goal.bounds-answers-i-2
bounds-answers-i-2 c = omega (arith, c.requires, length-set c.args.answers.now (c.args.i * 2) c.args.status)
