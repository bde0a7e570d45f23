-- `get_next` meets its contract. The loop's invariant: seeking on from here gives the goal.
use Prim.Native.Nat.{◌<◌}
use mathlib.Core.Path.{refl, sym, ◌∙◌}
use native.Mathlib.Omega.{arith}
use borrow.Author.Rules.{rules}
use lib.ListN.{length}
use Rattle.vsids.specs.Vsids.{get_next}
use Rattle.vsids.proofs.Loops.{found, dropped, emptied}
use Rattle.vsids.proofs.get_next.Goals as goal
use Rattle.vsids.proofs.get_next.Goals.{After-remove_min-v}

pub loop-len-init : goal.loop-len-init
unfolding get_next
loop-len-init c = (record { room = c.requires.room; rest = refl }, (refl, refl))

pub remove_min-v-requires : goal.remove_min-v-requires
remove_min-v-requires c = record { room = c.loop-len.invariant.0.room; len_nonzero = omega arith }

-- what `remove_min` gave is a variable
var : (c : After-remove_min-v) → c.remove_min-v.result < length c.args.activity.now
var c = rw c.remove_min-v.ensures.value (c.loop-len.invariant.0.room.members 0 (omega arith))

pub is_open-requires : goal.is_open-requires
is_open-requires c = let p = c.requires.values_len in (omega (arith, var (goal.at.is_open-requires c).After-remove_min-v, p), omega (arith, var (goal.at.is_open-requires c).After-remove_min-v, p))

pub returns-then-is_open : goal.returns-then-is_open
returns-then-is_open c =
    let m = c.remove_min-v.ensures in
    let f = found c.loop-len.invariant.0 (omega arith) m.value m.removed (sym c.is_open.ensures ∙ c.if-is_open.true) in
    search rules

pub loop-len-preserved : goal.loop-len-preserved
loop-len-preserved c = let m = c.remove_min-v.ensures in (dropped c.loop-len.invariant.0 (omega arith) m.value m.removed (sym c.is_open.ensures ∙ c.if-is_open.false), search rules)

pub returns : goal.returns
returns c = let f = emptied c.loop-len.invariant.0 (omega arith) in search rules
