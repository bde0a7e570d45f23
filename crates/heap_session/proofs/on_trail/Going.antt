-- Going back in heap mode: the variables undone are offered to the heap on the way down the trail, and it stays good for the values
-- with them unassigned.
use Prim.Native.Nat.{ℕ, ◌+◌, ◌-◌, ◌≤◌, ◌<◌}
use mathlib.Core.Path.{◌≡◌, refl, sym, ap, ◌∙◌}
use mathlib.Core.Bool.{not, ◌&&◌}
use mathlib.Core.List.{List, [], ◌∷◌}
use native.Mathlib.Omega.{arith}
use borrow.Author.Tests.{lt-ltb, le-ltb}
use lib.ListN.{length, get_or}
use Rattle.laws.specs.Tests.{cond_elim}
use Rattle.lit.specs.Lits.{index}
use Rattle.trail.specs.Trail.{Trail, backtrack_safe, backtrack_to, undone}
use Rattle.trail.specs.At.{opened_at}
use Rattle.trail.specs.Undone.{between, between_none, between_more}
use Rattle.heap.specs.Heap.{in_heap}
use Rattle.vsids.specs.Vsids.{Vsids, is_on, insert}
use Rattle.vsids.proofs.Kept.{undo_ok}
use Rattle.choosers.specs.Heap.{heap_ops}
use Rattle.book.specs.Session.{Session, offer_all, went_back}
use Rattle.heap_session.specs.Memory.{insert_all}
use Rattle.heap_session.specs.Good.{ForValues}

-- offering the variables of the places from o up to i to the heap h gives the goal
pub record Offering (n : ℕ) (trail : List ℕ) (o top : ℕ) (goal : Vsids) (i : ℕ) (h : Vsids) : Type 0 where
  pub above : o ≤ i
  pub under : i ≤ top
  pub long : length h.activity ≡ n
  pub good : ForValues n h
  pub rest : insert_all (between trail o i) h ≡ goal

-- inserting leaves the activities
insert_activity : (v : ℕ) (h : Vsids) → (insert v h).activity ≡ h.activity
unfolding insert
insert_activity v h = cond_elim (λ (x : Vsids). x.activity ≡ h.activity) (not (in_heap h.indices v) && is_on h.decision v) (λ e. refl) (λ e. refl)

pub offering : {n o top i : ℕ} {trail : List ℕ} {goal h : Vsids} → Offering n trail o top goal i h → o < i → i ≤ length trail → index (get_or trail (i - 1) 0) < n
    → (h' : Vsids) → h' ≡ insert (index (get_or trail (i - 1) 0)) h → Offering n trail o top goal (i - 1) h'
unfolding insert_all
offering {n} {o} {top} {i} {trail} {goal} {h} s l b v h' e =
    let q : i - 1 + 1 ≡ i = omega arith in
    record {
      above = omega arith;
      under = omega (arith, s.under);
      long = ap (λ (x : Vsids). length x.activity) e ∙ ap length (insert_activity (index (get_or trail (i - 1) 0)) h) ∙ s.long;
      good = rw e (_, undo_ok (index (get_or trail (i - 1) 0)) h v s.good.1);
      rest = ap (insert_all (between trail o (i - 1))) e ∙ ap (λ (vs : List ℕ). insert_all vs h) (sym (between_more trail o (i - 1) (omega arith) (omega arith)) ∙ ap (between trail o) q) ∙ s.rest;
    }

pub offered_all : {n o top i : ℕ} {trail : List ℕ} {goal h : Vsids} → Offering n trail o top goal i h → i ≤ o → h ≡ goal
unfolding insert_all
offered_all {o = o} {i = i} {trail = trail} {h = h} s b = let e : i ≡ o = omega (arith, s.above) in sym (ap (λ (vs : List ℕ). insert_all vs h) (ap (between trail o) e ∙ between_none trail o)) ∙ s.rest

module _ (n m : ℕ) (lits ends : List ℕ) where
  offered : (vs : List ℕ) (h : Vsids) → offer_all n m (heap_ops n lits ends) vs h ≡ insert_all vs h
  unfolding offer_all insert_all
  offered [] h = refl
  offered (v ∷ vs) h = offered vs (insert v h)

  module _ (l : ℕ) (s : Session n m (heap_ops n lits ends)) where
    pub stayed : s.trail.level ≤ l → s ≡ went_back n m (heap_ops n lits ends) l s
    unfolding went_back backtrack_safe
    stayed b = rw (le-ltb l s.trail.level b)

    pub went : l < s.trail.level → (t : Trail) (h : Vsids) → t ≡ backtrack_to l s.trail → h ≡ insert_all (between s.trail.trail (opened_at s.trail l) s.trail.len) s.chooser
        → record { trail = t; chooser = h } ≡ went_back n m (heap_ops n lits ends) l s
    unfolding went_back backtrack_safe undone
    went b t h e q = rw (lt-ltb l s.trail.level b, offered, e, q)

    pub back_trail : (u : Session n m (heap_ops n lits ends)) → u ≡ went_back n m (heap_ops n lits ends) l s → u.trail ≡ backtrack_safe l s.trail
    unfolding went_back
    back_trail u e = ap (λ (x : Session n m (heap_ops n lits ends)). x.trail) e
