-- Which calls use a group's scratch.
use Rattle.std.specs.Prelude.{ℕ, ◌≡◌, ◌↔◌, Bool, true, false, ◌&&◌, List, eqb}
use Rattle.std.proofs.Common.{eqb-true, eq-eqb}
use Rattle.laws.specs.Tests.{and_left, and_right, and_both, and_false}
use Rattle.session.specs.declared.Call.{Call}
use Rattle.session.specs.declared.Call.TheVariants as variant
use Rattle.session.specs.Calls.{is_group, group_exactly}
use Rattle.list_session.specs.Memory.{cleared}

-- 'Scratch .. ends as zeros': that of an accepted group, and of no other call
abbrev pub clears : Call → ℕ → Bool
clears call k = is_group call && eqb k 0

-- exactly an accepted group clears it
pub clears_exactly : (c : Call) (k : ℕ) → (clears c k ≡ true) ↔ ((c ≡ variant.Group) × (k ≡ 0))
clears_exactly c k = (
  λ e. ((group_exactly c).0 (and_left (is_group c) _ e), eqb-true k 0 (and_right (is_group c) _ e)),
  λ p. and_both ((group_exactly c).1 p.0) (eq-eqb k 0 p.1),
)

-- so a refused call leaves it
pub left : (c : Call) (k : ℕ) → eqb k 0 ≡ false → (l : List ℕ) → l ≡ cleared (clears c k) l
left c k e l = rw (e, and_false)
