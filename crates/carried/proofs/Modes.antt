-- Both modes: the check of a state is blind for levels of unassigned variables, so no turn sees a save; and what a good session is read back as is good.
use Prim.Native.Nat.{ℕ}
use mathlib.Core.Path.{◌≡◌}
use mathlib.Core.List.{List}
use Rattle.laws.specs.Tests.{same_test}
use Rattle.trail.specs.Trail.{Trail}
use Rattle.trail.specs.Memory.{Sized}
use Rattle.trail_check.specs.Check.{trail_ok}
use Rattle.trail_check.proofs.Checked.{trail_right}
use Rattle.choosers.specs.Heap.{heap_ops}
use Rattle.choosers.specs.List.{list_ops}
use Rattle.book.specs.Saved.{forgot}
use Rattle.session.specs.Asked.{Lending}
use Rattle.heap_session.specs.Check as heap
use Rattle.list_session.specs.Check as list
use Rattle.heap_entry.specs.Kept as heap-kept
use Rattle.list_session.specs.Kept as list-kept
use Rattle.heap_entry.specs.Term3.{heap_over, heap_family}
use Rattle.list_entry.specs.Term3.{list_over, list_family}
use Rattle.carried.specs.Same.{SameTrail, ReadGood}
use Rattle.carried.specs.Rows.{EnteredSame, ListsSame, SavesUnseen, BackOverSave}
use Rattle.carried.proofs.Trails.{Facts, facts, same_sym, same_sized, good_same, read_good}
use Rattle.carried.proofs.Rows.{Blind, entered_same, lists_same, saves_unseen, back_over_save}

-- the check of a trail passes exactly the good ones
trail_blind : (n m : ℕ) (t u : Trail) → Sized n t → SameTrail t u → trail_ok m t ≡ trail_ok m u
trail_blind n m t u z e =
    let y = same_sized e z in
    same_test _ _
    (λ a. (trail_right n m u y).1 (good_same e ((trail_right n m t z).0 a)))
    (λ a. (trail_right n m t z).1 (good_same (same_sym e) ((trail_right n m u y).0 a)))

heap_blind : Blind heap_over (λ g h c. c)
unfolding heap.state_ok
heap_blind g t u c z e = let f : Facts t u = facts e in let a : trail_ok g.m t ≡ trail_ok g.m u = trail_blind g.n g.m t u z e in cc

list_blind : Blind list_over (λ g h c. c)
unfolding list.state_ok
list_blind g t u c z e = let a : trail_ok g.m t ≡ trail_ok g.m u = trail_blind g.n g.m t u z e in cc

module _ (g : Lending) where
  pub heap_entered_same : EnteredSame heap_over g
  heap_entered_same = entered_same heap_over (λ g h c. c) heap_blind g

  pub list_entered_same : EnteredSame list_over g
  list_entered_same = entered_same list_over (λ g h c. c) list_blind g

  pub heap_lists_same : ListsSame heap_over g
  heap_lists_same = lists_same heap_over (λ g h c. c) heap_blind g

  pub list_lists_same : ListsSame list_over g
  list_lists_same = lists_same list_over (λ g h c. c) list_blind g

  pub heap_saves_unseen : SavesUnseen heap_over (λ g h c. c) g
  heap_saves_unseen = saves_unseen heap_over (λ g h c. c) heap_blind heap_family g

  pub list_saves_unseen : SavesUnseen list_over (λ g h c. c) g
  list_saves_unseen = saves_unseen list_over (λ g h c. c) list_blind list_family g

  pub heap_back_over_save : BackOverSave heap_over (λ g h c. c) g
  heap_back_over_save = back_over_save heap_over (λ g h c. c) g heap_family

  pub list_back_over_save : BackOverSave list_over (λ g h c. c) g
  list_back_over_save = back_over_save list_over (λ g h c. c) g list_family

-- what a good session is read back as is good, so that its state passes the check
module _ (n m : ℕ) (lits ends : List ℕ) where
  pub heap_read_good : ReadGood n m (heap_ops n lits ends) (heap-kept.IsGood n m lits ends)
  heap_read_good s g = record { small = g.small; count = g.count; clauses = g.clauses; trail = read_good s.trail g.trail; heap = unfold forgot in g.heap }

  pub list_read_good : ReadGood n m (list_ops n lits) (list-kept.IsGood n m lits)
  list_read_good s g = record { small = g.small; trail = read_good s.trail g.trail; list = g.list }
