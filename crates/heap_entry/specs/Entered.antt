-- What holds of the entry points of heap mode, for memory as lent: on good memory a checked call is the call, from any other it is refused,
-- and where it is accepted it leaves a good session. Activities are doubles, as their slice has it.
use Rattle.std.specs.Prelude.{ℕ, ◌≡◌, List}
use Rattle.choosers.specs.Heap.{heap_ops}
use Rattle.book.specs.Session.{status, leaves, Session, call}
use Rattle.session.specs.Asked.{Asked, asked}
use Rattle.session.proofs.Entered as either-laws
use Rattle.session.specs.Entered.{RightScratch, GoodMemory}
use Rattle.heap_entry.specs.Entry.{heap_mode, entered, made}
use Rattle.heap_entry.specs.Kept.{IsGood}
use Rattle.heap_entry.specs.Checked.{Doubles, heap_sound}

module _ (n m : ℕ) (lits : List ℕ) (literals : ℕ) (ends : List ℕ) where
  module _ (a : Asked) (s : Session n m (heap_ops n lits ends)) where
    -- on good memory the checked call is the call
    pub unchecked : GoodMemory (IsGood n m lits ends) lits literals ends s → RightScratch a → entered n m lits literals ends a s ≡ call n m (heap_ops n lits ends) s (asked a)
    unfolding heap_sound
    unchecked = either-laws.unchecked n m (heap_mode n m lits ends) lits literals ends (heap_sound n m lits ends) a s

    -- what is not refused had good memory
    pub bad_refused : Doubles s.chooser → status (entered n m lits literals ends a s) ≡ 0 → GoodMemory (IsGood n m lits ends) lits literals ends s × RightScratch a
    unfolding heap_sound
    bad_refused = either-laws.bad_refused n m (heap_mode n m lits ends) lits literals ends (heap_sound n m lits ends) a s

    -- so an accepted call leaves a good session
    pub entered_good : Doubles s.chooser → status (entered n m lits literals ends a s) ≡ 0 → IsGood n m lits ends (leaves s (entered n m lits literals ends a s))
    unfolding heap_sound
    entered_good = either-laws.entered_good n m (heap_mode n m lits ends) lits literals ends (heap_sound n m lits ends) a s

  -- and creation, where it is accepted, makes one
  pub made_good : (s : Session n m (heap_ops n lits ends)) → status (made n m lits literals ends s) ≡ 0 → IsGood n m lits ends (leaves s (made n m lits literals ends s))
  unfolding heap_sound
  made_good = either-laws.made_good n m (heap_mode n m lits ends) lits literals ends (heap_sound n m lits ends) _
