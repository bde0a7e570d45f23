-- In a row of turns a save does what the writer's definition says of it: an accepted one goes on with the session as lent, the levels of unassigned variables forgotten,
-- and one that is refused by 4, 5, 6 or 7 leaves the run as it was. In either mode. Assumes nothing.
use Rattle.std.specs.Prelude.{ℕ, ◌≡◌, Bool, List, [], leb, length}
use Rattle.std.proofs.Math.Path.{refl}
use Rattle.std.proofs.Common.{sym, ap, true≢false}
use Rattle.std.proofs.Math.Bool.{true, false}
use Rattle.std.proofs.Math.Option.{none, some}
use Rattle.lit.specs.Numbers.{max_vars, short_buffer, many_vars, bad_length, bad_clauses, bad_state}
use Rattle.formula.specs.Clauses.{clauses_ok}
use Rattle.book.specs.Session.{Result, done, refuse, status, mapped, need}
use Rattle.book.specs.Claim.{Run, starting_with, run}
use Rattle.book.specs.Saved.{forgotten, read_back}
use Rattle.session.specs.Asked.{Lending}
use Rattle.session.specs.Entry.{sizes_checked, checked}
use Rattle.session.specs.Mode.{Mode, lengths_ok, entered_list}
use Rattle.session.proofs.Checks.{accepted, checked_zero}
use Rattle.session.specs.Runs.{SessionOver, moved, gone_on, saved, turn}
use Rattle.forms.specs.Text.{written}
use Rattle.saved_text.specs.Saved.{Saved, text_of}
use Rattle.saved_state.specs.Entry.{wrote}

abbrev is_done : {S : Type 0} → Result S → Bool
is_done (done r s) = true
is_done (refuse k) = false

module _ (M : Lending → Mode) (into : (g h : Lending) → (M g).ops.State → (M h).ops.State) (g : Lending) (r : Run g.n g.m (M g).ops) (h : Lending)
    (saved_of : SessionOver M into h → Saved) (buffer : List ℕ) where
  -- the session that the run has come to, as lent with h, and what the writer makes of it
  abbrev lent : SessionOver M into h
  lent = moved M into g h r.now

  abbrev came : Result (List ℕ)
  came = wrote h.n h.m (M h) h.lits h.literals h.ends saved_of lent buffer

  -- the run behind the save
  abbrev after : Run g.n g.m (M g).ops
  after = turn M into g r (saved h)

  pub accepted_goes_on : status came ≡ 0 → after ≡ record { now = moved M into h g (forgotten lent); past = r.past }
  unfolding turn entered_list run wrote
  accepted_goes_on e = rw (accepted h.n _ _ _ (done none (starting_with h.n h.m (M h).ops lent)) (checked_zero h.n _ _ _ _ e))

  pub refused_stays : {k : ℕ} → came ≡ refuse k → ¬ (k ≡ short_buffer) → after ≡ r
  unfolding turn entered_list wrote checked sizes_checked need
  refused_stays {k} e long =
      let text = text_of (saved_of lent) in
      go (leb h.n max_vars) (lengths_ok h.n h.m (M h) h.lits h.literals h.ends lent true) (clauses_ok h.n h.lits h.ends) ((M h).state lent.trail lent.chooser) (leb (length text) (length buffer))
      (run h.n h.m (M h).ops (starting_with h.n h.m (M h).ops lent) []) e
    where
      go : (a b c d e : Bool) (u : Run h.n h.m (M h).ops)
          → need a many_vars (need b bad_length (need c bad_clauses (need d bad_state (need e short_buffer (done (some (length (text_of (saved_of lent)))) (written 0 (text_of (saved_of lent)) buffer)))))) ≡ refuse k
          → gone_on M into g h r (mapped read_back (need a many_vars (need b bad_length (need c bad_clauses (need d bad_state (done none u)))))) ≡ r
      go false b c d e u q = refl
      go true false c d e u q = refl
      go true true false d e u q = refl
      go true true true false e u q = refl
      go true true true true false u q = absurd (long (sym (ap status q)))
      go true true true true true u q = absurd (true≢false (ap is_done q))
