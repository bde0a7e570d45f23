-- What reading a text into lent memory answers, from what was loaded of it: the first refusal that fits, or the memory that the text says. Assumes nothing.
use Rattle.std.specs.Prelude.{ℕ, ◌≤◌, ◌<◌, ◌≡◌, Bool, ◌&&◌, List, leb, length}
use Rattle.std.proofs.Math.Path.{refl, ap, subst}
use Rattle.std.proofs.Common.{sym, ◌∙◌, arith}
use Rattle.std.proofs.Math.Bool.{true, false}
use Rattle.std.proofs.Math.Option.{Option, none, some}
use borrow.Author.Tests.{le-leb, lt-leb}
use Rattle.lit.specs.Numbers.{NONE, max_vars, many_vars, bad_length, bad_clauses, bad_state, bad_saved}
use Rattle.formula.specs.Clauses.{clauses_ok}
use Rattle.trail.specs.Trail.{Trail}
use Rattle.book.specs.Session.{Result, done, need}
use Rattle.session.specs.Entry.{sizes_checked, checked, Answered}
use Rattle.session.specs.Mode.{trail_lengths, clause_lengths}
use Rattle.session.specs.Checks.{state_refusal}
use Rattle.session.proofs.Checks.{refused, accepted}
use Rattle.forms.specs.Forms.{Mode, vsids, vmtf}
use Rattle.saved_text.specs.Saved.{Saved}
use Rattle.saved_text.specs.Reading.{read_text}
use Rattle.saved_state.specs.Said.{lits_said, ends_said}
use Rattle.saved_state.specs.Entry.{same_mode, said_in, Reader, Memory, memory_said, read_into, on_said, read}
use Rattle.saved_state.specs.Sound.{state_test}
use Rattle.saved_state.specs.Judging.{form_or, LoadedIs}

-- without good clauses the state does not matter
state_apart : (n : ℕ) (lengths good passed test : Bool) → (good ≡ true → passed ≡ test) → state_refusal n lengths good passed ≡ state_refusal n lengths good test
unfolding checked sizes_checked need
state_apart n lengths true passed test e = rw (e refl)
state_apart n false false passed test e = refl
state_apart n true false passed test e = refl

module _ {C : Type 0} (R : Reader C) {s : Saved} (before : Memory C) {literals clauses : ℕ} {good passed : Bool} {lits ends : List ℕ} {t : Trail} {c : C}
    (l : LoadedIs R s literals clauses good passed lits ends t c) (trail-lent : trail_lengths s.opening.vars before.2 ≡ true) (chooser-lent : R.lengths s.opening.vars before.3 ≡ true) where
  abbrev n : ℕ
  n = s.opening.vars

  abbrev lengths : Bool
  lengths = trail_lengths n before.2 && (R.lengths n before.3 && clause_lengths (length (lits_said s)) (length (ends_said s)) before.0 before.1)

  same_verdict : state_refusal n (clause_lengths literals clauses before.0 before.1) good passed ≡ state_refusal n lengths (clauses_ok n (lits_said s) (ends_said s)) (state_test R s)
  same_verdict =
      let same : clause_lengths literals clauses before.0 before.1 ≡ lengths = rw (trail-lent, chooser-lent, l.literal_count, l.clause_count) in
      ap (λ (b : Bool). state_refusal n b good passed) same ∙ state_apart n lengths good passed (state_test R s) l.state_passed ∙ ap (λ (b : Bool). state_refusal n lengths b (state_test R s)) l.good_clauses

  -- refused, and nothing changes
  pub read_refused : {k : ℕ} → k ≡ state_refusal n (clause_lengths literals clauses before.0 before.1) good passed → (k ≡ 0 → ⊥) → Answered (read_into R s before) before k NONE before
  unfolding read_into
  read_refused {k} e z = refused n lengths (clauses_ok n (lits_said s) (ends_said s)) (state_test R s) (done none (memory_said R s)) before k (e ∙ same_verdict) z

  -- or taken
  pub read_taken : {after : Memory C} → 0 ≡ state_refusal n (clause_lengths literals clauses before.0 before.1) good passed → after ≡ memory_said R s → Answered (read_into R s before) before 0 NONE after
  unfolding read_into
  read_taken e is = rw (accepted n lengths (clauses_ok n (lits_said s) (ends_said s)) (state_test R s) (done none (memory_said R s)) (e ∙ same_verdict)) (record { status = refl; reply = refl; session = is })

-- a text of the mode is read as what it says; bytes of no form, or of the other mode, are refused
own_mode : (m : Mode) → same_mode m m ≡ true
own_mode vsids = refl
own_mode vmtf = refl

module _ {C : Type 0} (R : Reader C) (bytes : List ℕ) (before : Memory C) where
  pub read_own : (s : Saved) → read_text bytes ≡ some s → s.opening.mode ≡ R.mode → read R bytes before ≡ read_into R s before
  unfolding need
  read_own s e mode = ap (λ (o : Option Saved). on_said R (said_in R.mode o) before) e ∙ ap (λ (m : Mode). on_said R (need (same_mode R.mode m) bad_saved (done none s)) before) mode ∙ ap (λ (b : Bool). on_said R (need b bad_saved (done none s)) before) (own_mode R.mode)

  pub read_none : read_text bytes ≡ none → Answered (read R bytes before) before bad_saved NONE before
  read_none e = subst (λ (x : Result (Memory C)). Answered x before bad_saved NONE before) (sym (ap (λ (o : Option Saved). on_said R (said_in R.mode o) before) e)) (record { status = refl; reply = refl; session = refl })

  pub read_other : (s : Saved) → read_text bytes ≡ some s → same_mode R.mode s.opening.mode ≡ false → Answered (read R bytes before) before bad_saved NONE before
  unfolding need
  read_other s e other = subst (λ (x : Result (Memory C)). Answered x before bad_saved NONE before)
      (sym (ap (λ (o : Option Saved). on_said R (said_in R.mode o) before) e ∙ ap (λ (b : Bool). on_said R (need b bad_saved (done none s)) before) other)) (record { status = refl; reply = refl; session = refl })

  -- refused for its form, or else as every text that reads is
  pub read_form : {k v : ℕ} → v ≡ form_or (read_text bytes) k → ((s : Saved) → read_text bytes ≡ some s → Answered (read R bytes before) before k NONE before) → Answered (read R bytes before) before v NONE before
  read_form {k} {v} e each = go (read_text bytes) refl e
    where
      go : (o : Option Saved) → read_text bytes ≡ o → v ≡ form_or o k → Answered (read R bytes before) before v NONE before
      go none is f = rw f (read_none is)
      go (some s) is f = rw f (each s is)

  -- more variables than there may be, or slices of other lengths than the text says
  pub read_many : (s : Saved) → read_text bytes ≡ some s → s.opening.mode ≡ R.mode → max_vars < s.opening.vars → Answered (read R bytes before) before many_vars NONE before
  unfolding read_into checked sizes_checked need
  read_many s e mode many = rw (read_own s e mode, lt-leb s.opening.vars max_vars many) (record { status = refl; reply = refl; session = refl })

  pub read_unlike : (s : Saved) → read_text bytes ≡ some s → s.opening.mode ≡ R.mode → s.opening.vars ≤ max_vars → ((b : Bool) → trail_lengths s.opening.vars before.2 && (R.lengths s.opening.vars before.3 && b) ≡ false)
      → Answered (read R bytes before) before bad_length NONE before
  unfolding read_into checked sizes_checked need
  read_unlike s e mode few unlike = rw (read_own s e mode, le-leb s.opening.vars max_vars few, unlike (clause_lengths (length (lits_said s)) (length (ends_said s)) before.0 before.1)) (record { status = refl; reply = refl; session = refl })

  -- an accepted text says all of the memory, whatever stood in it
  pub read_accepted : {after : Memory C} {k r : ℕ} → Answered (read R bytes before) before k r after → k ≡ 0 → (lent : Memory C) → Answered (read R bytes before) lent 0 NONE after
  unfolding read_into checked sizes_checked need
  read_accepted {after} {k} {r} a z lent = of (read_text bytes) a
    where
      go : (b c d e : Bool) (u : Memory C)
          → let x : Result (Memory C) = need b many_vars (need c bad_length (need d bad_clauses (need e bad_state (done none u)))) in Answered x before k r after → Answered x lent 0 NONE after
      go false c d e u m = absurd (omega (arith, m.status, z))
      go true false d e u m = absurd (omega (arith, m.status, z))
      go true true false e u m = absurd (omega (arith, m.status, z))
      go true true true false u m = absurd (omega (arith, m.status, z))
      go true true true true u m = record { status = refl; reply = refl; session = m.session }

      in_mode_lem : (b : Bool) (s : Saved) → Answered (on_said R (need b bad_saved (done none s)) before) before k r after → Answered (on_said R (need b bad_saved (done none s)) before) lent 0 NONE after
      in_mode_lem false s m = absurd (omega (arith, m.status, z))
      in_mode_lem true s m =
          let n = s.opening.vars in
          go (leb n max_vars) (trail_lengths n before.2 && (R.lengths n before.3 && clause_lengths (length (lits_said s)) (length (ends_said s)) before.0 before.1)) (clauses_ok n (lits_said s) (ends_said s)) (state_test R s) (memory_said R s) m

      of : (o : Option Saved) → Answered (on_said R (said_in R.mode o) before) before k r after → Answered (on_said R (said_in R.mode o) before) lent 0 NONE after
      of none m = absurd (omega (arith, m.status, z))
      of (some s) m = in_mode_lem (same_mode R.mode s.opening.mode) s m
