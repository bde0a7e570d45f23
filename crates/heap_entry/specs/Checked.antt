-- What the checks of heap mode show: the check of a state passes exactly the good sessions, and every call keeps them.
use Rattle.std.specs.Prelude.{ℕ, ◌≤◌, ◌<◌, ◌≡◌, ◌↔◌, true, List, T, eqb, length, get_or}
use Rattle.std.proofs.Common.{sym, subst, ◌∙◌, eqb-true, eq-eqb}
use Rattle.std.specs.Float.{nan, binary64}
use Rattle.std.specs.Float.Ieee.{fits}
use Rattle.laws.specs.Tests.{and_left, and_right}
use Rattle.lit.specs.Numbers.{max_vars}
use Rattle.formula.specs.Good.{GoodClauses}
use Rattle.trail.specs.Trail.{Trail}
use Rattle.trail.specs.Memory.{Sized}
use Rattle.vsids.specs.Vsids.{Vsids}
use Rattle.session.specs.Sizes.{both}
use Rattle.session.specs.Entered.{Sound}
use Rattle.heap_session.specs.Good.{GoodSession}
use Rattle.heap_session.specs.Check.{state_ok, checked_good, good_checked}
use Rattle.heap_entry.specs.Entry.{heap_lengths, heap_mode}
use Rattle.heap_entry.specs.Kept.{IsGood, fresh_good_session, kept}

-- what the test of the heap's lengths says
pub record HeapSized (n : ℕ) (h : Vsids) : Type 0 where
  pub activity_long : length h.activity ≡ n
  pub heap_long : length h.heap ≡ n
  pub indices_long : length h.indices ≡ n
  pub decision_long : length h.decision ≡ n

pub heap_sized : (n : ℕ) (h : Vsids) → heap_lengths n h ≡ true → HeapSized n h
heap_sized n h e =
    let p = and_right (eqb (length h.activity) n) _ e in
    let z = both _ _ _ _ (and_right (eqb (length h.heap) n) _ p) in
    record {
      activity_long = eqb-true _ _ (and_left (eqb (length h.activity) n) _ e);
      heap_long = eqb-true _ _ (and_left (eqb (length h.heap) n) _ p);
      indices_long = z.0;
      decision_long = z.1;
    }

pub sized_heap : (n : ℕ) (h : Vsids) → HeapSized n h → heap_lengths n h ≡ true
sized_heap n h z = rw (eq-eqb _ _ z.activity_long, eq-eqb _ _ z.heap_long, eq-eqb _ _ z.indices_long, eq-eqb _ _ z.decision_long)

-- what an `f64` slice says: activities are doubles
abbrev pub Doubles : Vsids → Type 0
Doubles h = (v : ℕ) → v < length h.activity → T (fits binary64 (get_or h.activity v nan))

-- for memory of the right lengths over good clauses: the check passes exactly the good sessions
pub state_right : (n m : ℕ) (lits ends : List ℕ) (t : Trail) (h : Vsids) → n ≤ max_vars → length ends ≡ m → GoodClauses n lits ends → Sized n t → heap_lengths n h ≡ true → Doubles h
    → (state_ok m t h ≡ true) ↔ GoodSession n m lits ends t h
state_right n m lits ends t h small count clauses sized long doubles = let z = heap_sized n h long in (
  subst (λ (k : ℕ). n ≤ max_vars → GoodClauses n lits ends → Sized n t → state_ok k t h ≡ true → GoodSession n k lits ends t h) count
      (subst (λ (k : ℕ). k ≤ max_vars → GoodClauses k lits ends → Sized k t → state_ok (length ends) t h ≡ true → GoodSession k (length ends) lits ends t h) z.activity_long
      (λ b g k e. checked_good lits ends t h b g k
      (record { small = b; values_long = k.values_long; heap_long = z.heap_long ∙ sym z.activity_long; indices_long = z.indices_long ∙ sym z.activity_long; decision_long = z.decision_long ∙ sym z.activity_long })
      doubles e))
      small clauses sized,
  λ g. good_checked t h g,
)

unfoldable pub heap_sound : (n m : ℕ) (lits ends : List ℕ) → Sound n m (heap_mode n m lits ends) lits ends
heap_sound n m lits ends = record {
  Good = IsGood n m lits ends;
  Typed = Doubles;
  right = λ s. state_right n m lits ends s.trail s.chooser;
  trail = λ s g. g.trail;
  chooser_sized = λ s g. let h = g.heap in sized_heap n s.chooser (record {
    activity_long = h.scores.long;
    heap_long = h.inverse.room.heap_long;
    indices_long = h.inverse.room.indices_long;
    decision_long = h.switches;
  });
  chooser_typed = λ s g v b. g.heap.scores.doubles v (rw g.heap.scores.long at b);
  fresh_good = fresh_good_session n m lits ends;
  kept = kept n m lits ends;
}
