-- From a good session in heap mode every call leaves a good session, refused or not; and a fresh session is good.
use Rattle.std.specs.Prelude.{ℕ, ◌≤◌, ◌≡◌, List, length}
use Rattle.std.proofs.Math.Path.{refl, subst}
use Rattle.lit.specs.Numbers.{max_vars}
use Rattle.formula.specs.Good.{GoodClauses}
use Rattle.trail.specs.Trail.{fresh_trail}
use Rattle.vsids.specs.Vsids.{new, is_on}
use Rattle.choosers.specs.Heap.{heap_ops, heap_chooser, heap_ok, ok_heap}
use Rattle.book.specs.Calls.{Call}
use Rattle.book.specs.Chooser.{Chooser}
use Rattle.book.specs.Session.{Session, leaves, fresh, call}
use Rattle.session.proofs.Kept as either-laws
use Rattle.heap_session.specs.Good.{GoodSession}
use Rattle.heap_session.specs.Check.{fresh_session}

-- the heap chooser over the stated number of clauses
unfoldable pub chooser : (n m : ℕ) (lits ends : List ℕ) → n ≤ max_vars → length ends ≡ m → GoodClauses n lits ends → Chooser n m (heap_ops n lits ends)
chooser n m lits ends small count clauses = let c = heap_chooser n lits ends small clauses in record {
  ok = c.ok;
  start_ok = c.start_ok;
  tune_ok = λ t h f q. c.tune_ok t h (rw count f) q;
  insert_ok = c.insert_ok;
  offer_ok = c.offer_ok;
  turn_off_ok = c.turn_off_ok;
  assign_ok = c.assign_ok;
  get_next_ok = c.get_next_ok;
}

module _ (n m : ℕ) (lits ends : List ℕ) where
  -- the session is good
  abbrev pub IsGood : Session n m (heap_ops n lits ends) → Type 0
  IsGood s = GoodSession n m lits ends s.trail s.chooser

  pub fresh_good_session : n ≤ max_vars → length ends ≡ m → GoodClauses n lits ends → IsGood (fresh n m (heap_ops n lits ends))
  unfolding fresh
  fresh_good_session small count clauses = subst (λ (k : ℕ). GoodSession n k lits ends (fresh_trail n) (new n)) count (fresh_session n lits ends small clauses)

  pub kept : (s : Session n m (heap_ops n lits ends)) → IsGood s → (c : Call) → IsGood (leaves s (call n m (heap_ops n lits ends) s c))
  unfolding chooser
  kept s g c =
      let k = either-laws.kept n m (heap_ops n lits ends) (chooser n m lits ends g.small g.count g.clauses) s (record {
        trail = g.trail;
        on = is_on s.chooser.decision;
        ok = heap_ok n lits ends g.small g.clauses (record { good = g.heap; switched = λ v b. refl });
      }) c in
      record { small = g.small; count = g.count; clauses = g.clauses; trail = k.trail; heap = (ok_heap n lits ends g.small g.clauses k.ok).good }
