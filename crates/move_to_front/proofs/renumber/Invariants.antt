use Prim.Native.Nat.{ℕ, ◌<◌, ◌-◌}
use mathlib.Core.Path.{◌≡◌}
use lib.ListN.{length}
use Rattle.vmtf.specs.declared.Vmtf as lent
use Rattle.vmtf.specs.Vmtf.{vmtf_in, SameSlices, with_stamps, renumber, Links}
use Rattle.move_to_front.proofs.renumber.Given as goal

-- stamping on from curr with one less than k gives the goal
pub record Renumbering (before list : lent.Vmtf) (curr k : ℕ) : Type 0 where
  pub links : Links (length list.ts.now) list.next.now curr
  pub rest : 0 < k → with_stamps (renumber list.next.now (k - 1) curr list.ts.now) list.at.timestamp (vmtf_in list)
      ≡ with_stamps (renumber before.next.now (length before.next.now) before.at.start before.ts.now) before.at.timestamp (vmtf_in before)
  pub done : k ≡ 0 → vmtf_in list ≡ with_stamps (renumber before.next.now (length before.next.now) before.at.start before.ts.now) before.at.timestamp (vmtf_in before)
  pub slices : SameSlices before list

abbrev pub invariant-loop-score : goal.invariant-loop-score
invariant-loop-score l = Renumbering l.initial.list l.list l.curr l.score
