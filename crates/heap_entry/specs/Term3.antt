-- Term 3 in heap mode, on the entry points' own definition.
use Rattle.std.specs.Prelude.{ℕ, ◌≡◌, refl, List, length}
use Rattle.std.proofs.Common.{subst, arith}
use Rattle.std.proofs.Math.Bool.{true}
use Rattle.choosers.specs.Heap.{heap_ops, HeapOk, heap_ok, ok_heap}
use Rattle.book.specs.Calls.{Call}
use Rattle.book.specs.Session.{status, leaves, Session, call}
use Rattle.book.specs.Claim.{starting_with, begin, run, Claim}
use Rattle.session.specs.Asked.{Asked, asked, Lending}
use Rattle.session.proofs.Entered as either-laws
use Rattle.session.specs.Entered.{RightScratch, Founded}
use Rattle.session.specs.Mode.{Mode}
use Rattle.session.proofs.Runs as runs-laws
use Rattle.session.specs.Runs.{FoundedBy, Turn, run_turns, Family}
use Rattle.heap_entry.specs.Entry.{heap_mode, entered, made}
use Rattle.heap_entry.specs.Kept.{chooser, IsGood}
use Rattle.heap_entry.specs.Checked.{heap_sound}

-- the mode over what is lent
abbrev pub heap_over : Lending → Mode
heap_over g = heap_mode g.n g.m g.lits g.ends

-- the heap is good for the values and switches over whatever is lent
pub heap_family : Family heap_over (λ g h c. c)
unfolding chooser heap_sound
heap_family = record {
  self = λ g c. refl;
  through = λ g h k c. refl;
  switches = λ g h. refl;
  sound = λ g. heap_sound g.n g.m g.lits g.ends;
  chooser = λ g f. chooser g.n g.m g.lits g.ends f.small f.stated f.clauses;
  typed = λ g h f values on c q. let s = (ok_heap g.n g.lits g.ends f.small f.clauses q).good.scores in λ v b. s.doubles v (omega (arith, s.long));
  carry = λ g h f f' e values on c q. heap_ok h.n h.lits h.ends f'.small f'.clauses (subst (λ (n : ℕ). HeapOk n values on c) e (ok_heap g.n g.lits g.ends f.small f.clauses q));
}

-- Term 3: over every row of turns, calls and lists of calls with saves between them, refused ones included and whatever each is lent with, from the session that an
-- accepted creation made
module _ (g : Lending) where
  pub made_term3 : (s : Session g.n g.m (heap_ops g.n g.lits g.ends)) → status (made g.n g.m g.lits g.literals g.ends s) ≡ 0 → (turns : List Turn)
      → let r = starting_with g.n g.m (heap_ops g.n g.lits g.ends) (leaves s (made g.n g.m g.lits g.literals g.ends s)) in
      Claim g.n g.m (heap_ops g.n g.lits g.ends) (run_turns heap_over (λ g h c. c) g r turns)
  made_term3 = runs-laws.made_term3 heap_over (λ g h c. c) heap_family g true

  -- and from every fresh session with at most 2,048 variables and a good clause list
  pub heap_term3 : FoundedBy g → (turns : List Turn)
      → Claim g.n g.m (heap_ops g.n g.lits g.ends) (run_turns heap_over (λ g h c. c) g (begin g.n g.m (heap_ops g.n g.lits g.ends)) turns)
  heap_term3 = runs-laws.turns_term3 heap_over (λ g h c. c) heap_family g

module _ (n m : ℕ) (lits : List ℕ) (literals : ℕ) (ends : List ℕ) where
  -- an accepted creation makes the session that `begin` has
  pub made_begins : (s : Session n m (heap_ops n lits ends)) → status (made n m lits literals ends s) ≡ 0 → leaves s (made n m lits literals ends s) ≡ (begin n m (heap_ops n lits ends)).now
  unfolding begin
  made_begins s = either-laws.made_fresh n m (heap_mode n m lits ends) lits literals ends true s

  module _ (founded : Founded n m lits ends) (calls : List Call) where
    -- every session of a run is good
    pub run_good : IsGood n m lits ends (run n m (heap_ops n lits ends) (begin n m (heap_ops n lits ends)) calls).now
    unfolding heap_sound
    run_good = runs-laws.run_good n m (heap_mode n m lits ends) lits literals ends (heap_sound n m lits ends) founded calls

    -- so a call on it, lent as it was made, is refused before its own tests only for a group's scratch
    pub run_unchecked : length lits ≡ literals → (a : Asked) → RightScratch a → let s = (run n m (heap_ops n lits ends) (begin n m (heap_ops n lits ends)) calls).now in
        entered n m lits literals ends a s ≡ call n m (heap_ops n lits ends) s (asked a)
    run_unchecked el a z = runs-laws.run_unchecked n m (heap_mode n m lits ends) lits literals ends (heap_sound n m lits ends) founded el calls a z
