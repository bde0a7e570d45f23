use Prim.Native.Nat.{ℕ}
use mathlib.Core.Path.{◌≡◌}
use mathlib.Core.List.{List}
use lib.ListN.{length}
use Rattle.vmtf.specs.Vmtf.{stamps_of}
use Rattle.vmtf.specs.Laws.{copied}
use Rattle.move_to_front.proofs.order.read_stamps.Given as goal

pub record Reading (group vars stamps₀ order₀ : List ℕ) (i : ℕ) (stamps order : List ℕ) : Type 0 where
  pub stamps_are : stamps ≡ copied group stamps₀ i
  pub order-are : order ≡ copied vars order₀ i
  pub stamps_long : length stamps ≡ length vars
  pub order_long : length order ≡ length vars

abbrev pub invariant-loop-i : goal.invariant-loop-i
invariant-loop-i l = Reading (stamps_of l.list.ts.now l.vars) l.vars l.initial.stamps l.initial.order l.i l.stamps l.order
