use Prim.Native.Nat.{ℕ, ◌≤◌}
use mathlib.Core.Path.{◌≡◌}
use mathlib.Core.List.{List}
use lib.ListN.{length, get_or, drop}
use Rattle.vmtf.specs.Vmtf.{count_lits}
use Rattle.move_to_front.proofs.creation.order.count_lits.Given as goal

pub record Counting (codes : List ℕ) (n : ℕ) (goal : List ℕ) (i : ℕ) (counts : List ℕ) : Type 0 where
  pub long : length counts ≡ n
  pub below : (v : ℕ) → get_or counts v 0 ≤ i
  pub rest : count_lits counts (drop i codes) ≡ goal

abbrev pub invariant-loop-code : goal.invariant-loop-code
invariant-loop-code l = Counting l.codes (length l.initial.counts) (count_lits l.initial.counts l.codes) l.code-index l.counts
