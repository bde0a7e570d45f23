-- Term 3 in list mode, on the entry points' own definition.
use Rattle.std.specs.Prelude.{ℕ, ◌≤◌, ◌≡◌, refl, Bool, true, List, length}
use Rattle.std.proofs.Common.{subst, arith}
use Rattle.lit.specs.Numbers.{NONE, max_vars}
use Rattle.choosers.specs.List.{list_ops, ListOk, list_chooser, list_ok, ok_list}
use Rattle.book.specs.Calls.{Call}
use Rattle.book.specs.Session.{status, leaves, Session, call}
use Rattle.book.specs.Claim.{starting_with, begin, run, Claim}
use Rattle.session.specs.Asked.{Asked, asked, Lending}
use Rattle.session.proofs.Entered as either-laws
use Rattle.session.specs.Entered.{RightScratch, Founded}
use Rattle.session.specs.Mode.{Mode, scratch_lengths}
use Rattle.session.specs.Mode as mode
use Rattle.session.proofs.Runs as runs-laws
use Rattle.session.specs.Runs.{FoundedBy, Turn, run_turns, Family}
use Rattle.list_session.specs.Kept.{IsGood}
use Rattle.list_entry.specs.Entry.{list_mode, entered, made, made_unaided}
use Rattle.list_entry.specs.Checked.{list_sound}

-- the mode over what is lent
abbrev pub list_over : Lending → Mode
list_over g = list_mode g.n g.m g.lits

few : {n : ℕ} → n ≤ max_vars → n ≤ NONE
few small = omega arith

-- the list is good over whatever is lent
pub list_family : Family list_over (λ g h c. c)
unfolding list_sound
list_family = record {
  self = λ g c. refl;
  through = λ g h k c. refl;
  switches = λ g h. refl;
  sound = λ g. list_sound g.n g.m g.lits g.ends;
  chooser = λ g f. list_chooser g.n g.m g.lits (few f.small);
  typed = λ g h f values on c q. tt;
  carry = λ g h f f' e values on c q. list_ok h.n h.m h.lits (few f'.small) (subst (λ (n : ℕ). ListOk n values on c) e (ok_list g.n g.m g.lits (few f.small) q));
}

-- Term 3: over every row of turns, calls and lists of calls with saves between them, refused ones included and whatever each is lent with, from the session that an
-- accepted creation made
module _ (g : Lending) where
  pub made_term3 : (counts indexes : List ℕ) (s : Session g.n g.m (list_ops g.n g.lits)) → status (made g.n g.m g.lits g.literals g.ends counts indexes s) ≡ 0
      → (turns : List Turn)
      → let r = starting_with g.n g.m (list_ops g.n g.lits) (leaves s (made g.n g.m g.lits g.literals g.ends counts indexes s)) in
      Claim g.n g.m (list_ops g.n g.lits) (run_turns list_over (λ g h c. c) g r turns)
  made_term3 counts indexes = runs-laws.made_term3 list_over (λ g h c. c) list_family g (scratch_lengths g.n (length counts) (length indexes))

  -- the same where creation was lent no scratch
  pub unaided_term3 : (s : Session g.n g.m (list_ops g.n g.lits)) → status (made_unaided g.n g.m g.lits g.literals g.ends s) ≡ 0 → (turns : List Turn)
      → let r = starting_with g.n g.m (list_ops g.n g.lits) (leaves s (made_unaided g.n g.m g.lits g.literals g.ends s)) in
      Claim g.n g.m (list_ops g.n g.lits) (run_turns list_over (λ g h c. c) g r turns)
  unaided_term3 = runs-laws.made_term3 list_over (λ g h c. c) list_family g true

  -- and from every fresh session with at most 2,048 variables and a good clause list
  pub list_term3 : FoundedBy g → (turns : List Turn)
      → Claim g.n g.m (list_ops g.n g.lits) (run_turns list_over (λ g h c. c) g (begin g.n g.m (list_ops g.n g.lits)) turns)
  list_term3 = runs-laws.turns_term3 list_over (λ g h c. c) list_family g

module _ (n m : ℕ) (lits : List ℕ) (literals : ℕ) (ends : List ℕ) where
  -- an accepted creation, with scratch that is lent or without, makes the session that `begin` has
  pub made_begins : (scratch : Bool) (s : Session n m (list_ops n lits)) → let x = mode.made n m (list_mode n m lits) lits literals ends scratch s in
      status x ≡ 0 → leaves s x ≡ (begin n m (list_ops n lits)).now
  unfolding begin
  made_begins = either-laws.made_fresh n m (list_mode n m lits) lits literals ends

  module _ (founded : Founded n m lits ends) (calls : List Call) where
    -- every session of a run is good
    pub run_good : IsGood n m lits (run n m (list_ops n lits) (begin n m (list_ops n lits)) calls).now
    unfolding list_sound
    run_good = runs-laws.run_good n m (list_mode n m lits) lits literals ends (list_sound n m lits ends) founded calls

    -- so a call on it, lent as it was made, is refused before its own tests only for a group's scratch
    pub run_unchecked : length lits ≡ literals → (a : Asked) → RightScratch a → let s = (run n m (list_ops n lits) (begin n m (list_ops n lits)) calls).now in
        entered n m lits literals ends a s ≡ call n m (list_ops n lits) s (asked a)
    run_unchecked el a z = runs-laws.run_unchecked n m (list_mode n m lits) lits literals ends (list_sound n m lits ends) founded el calls a z
