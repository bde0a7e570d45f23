-- The answer of each outcome of bumping a reason in heap mode: the tests that led there decide the call's definition.
use Prim.Native.Nat.{ℕ, ◌<◌}
use mathlib.Core.Path.{◌≡◌, refl}
use mathlib.Core.List.{List}
use borrow.Author.Tests.{lt-ltb, eq-eqb, ne_eqb}
use lib.ListN.{get_or}
use Rattle.lit.specs.Numbers.{NONE}
use Rattle.formula.specs.Clauses.{clause}
use Rattle.vsids.specs.Vsids.{Vsids, bump_reason_literals}
use Rattle.choosers.specs.Heap.{heap_ops}
use Rattle.book.specs.Calls.{Call, bump_reason}
use Rattle.book.specs.Session.{Session, need, tuned, call}
use Rattle.session.specs.Entry.{Answered}
use Rattle.session.proofs.Outcomes.{finished, rechosen}

module _ (n m : ℕ) (lits ends : List ℕ) (s : Session n m (heap_ops n lits ends)) where
  -- status k, reply r and the session u are what the call c gives
  abbrev Gives : Call → ℕ → ℕ → Session n m (heap_ops n lits ends) → Type 0
  Gives c k r u = Answered (call n m (heap_ops n lits ends) s c) s k r u

  module _ (v : ℕ) (b : v < n) (r : ℕ) (at : get_or s.trail.reasons v 0 ≡ r) where
    pub without_reason : r ≡ NONE → Gives (bump_reason v) 0 NONE s
    unfolding call need tuned
    without_reason e = rw (lt-ltb v n b, at, eq-eqb r NONE e) (finished refl)

    pub reason_bumped : (r ≡ NONE → ⊥) → (h : Vsids) → h ≡ bump_reason_literals (clause lits ends r) s.chooser → Gives (bump_reason v) 0 NONE (record { trail = s.trail; chooser = h })
    unfolding call need tuned
    reason_bumped e h q = rw (lt-ltb v n b, at, ne_eqb r NONE e) (rechosen q)
