-- What holds of the entry points of list mode, for memory as lent: on good memory a checked call is the call, from any other it is refused,
-- and where it is accepted it leaves a good session.
use Rattle.std.specs.Prelude.{ℕ, ◌≡◌, Bool, List}
use Rattle.choosers.specs.List.{list_ops}
use Rattle.book.specs.Session.{status, leaves, Session, call}
use Rattle.session.specs.Asked.{Asked, asked}
use Rattle.session.specs.Mode as mode
use Rattle.session.proofs.Entered as either-laws
use Rattle.session.specs.Entered.{RightScratch, GoodMemory}
use Rattle.list_session.specs.Kept.{IsGood}
use Rattle.list_entry.specs.Entry.{list_mode, entered}
use Rattle.list_entry.specs.Checked.{list_sound}

module _ (n m : ℕ) (lits : List ℕ) (literals : ℕ) (ends : List ℕ) where
  module _ (a : Asked) (s : Session n m (list_ops n lits)) where
    -- on good memory the checked call is the call
    pub unchecked : GoodMemory (IsGood n m lits) lits literals ends s → RightScratch a → entered n m lits literals ends a s ≡ call n m (list_ops n lits) s (asked a)
    unfolding list_sound
    unchecked = either-laws.unchecked n m (list_mode n m lits) lits literals ends (list_sound n m lits ends) a s

    -- what is not refused had good memory
    pub bad_refused : status (entered n m lits literals ends a s) ≡ 0 → GoodMemory (IsGood n m lits) lits literals ends s × RightScratch a
    unfolding list_sound
    bad_refused = either-laws.bad_refused n m (list_mode n m lits) lits literals ends (list_sound n m lits ends) a s tt

    -- so an accepted call leaves a good session
    pub entered_good : status (entered n m lits literals ends a s) ≡ 0 → IsGood n m lits (leaves s (entered n m lits literals ends a s))
    unfolding list_sound
    entered_good = either-laws.entered_good n m (list_mode n m lits) lits literals ends (list_sound n m lits ends) a s tt

  -- and creation, where it is accepted, makes one, with scratch that is lent (`made`) or without (`made_unaided`)
  pub made_good : (scratch : Bool) (s : Session n m (list_ops n lits)) → let x = mode.made n m (list_mode n m lits) lits literals ends scratch s in status x ≡ 0 → IsGood n m lits (leaves s x)
  unfolding list_sound
  made_good = either-laws.made_good n m (list_mode n m lits) lits literals ends (list_sound n m lits ends)
