-- What writing a session to a buffer and reading a text into lent memory answer, in either mode.
use Rattle.std.specs.Prelude.{ℕ, Bool, true, false, ◌&&◌, List, leb, length, Ok, Err}
use Rattle.std.specs.Prelude as code
use Rattle.std.proofs.Math.Option.{Option, none, some}
use Rattle.lit.specs.Numbers.{NONE, short_buffer, bad_saved}
use Rattle.lit.specs.declared.Refusal.{Refusal}
use Rattle.formula.specs.Clauses.{clauses_ok}
use Rattle.trail.specs.Trail.{Trail}
use Rattle.book.specs.Session.{Result, done, refuse, need, Session}
use Rattle.session.specs.Entry.{checked}
use Rattle.session.specs.Mode.{trail_lengths, clause_lengths, lengths_ok}
use Rattle.session.specs.Mode as session
use Rattle.forms.specs.Text.{written}
use Rattle.forms.specs.Forms.{Mode, vsids, vmtf}
use Rattle.saved_text.specs.Saved.{Saved, text_of}
use Rattle.saved_text.specs.Reading.{read_text}
use Rattle.saved_state.specs.Said.{lits_said, ends_said, trail_said, row}

-- the text of a session as lent, written from the buffer's front on: 4 to 7 as a call gives them, then 2; the reply is the byte count
unfoldable pub wrote : (n m : ℕ) (M : session.Mode) (lits : List ℕ) → ℕ → List ℕ → (Session n m M.ops → Saved) → Session n m M.ops → List ℕ → Result (List ℕ)
wrote n m M lits literals ends saved_of s buffer =
    let text = text_of (saved_of s) in
    checked n (lengths_ok n m M lits literals ends s true) (clauses_ok n lits ends) (M.state s.trail s.chooser)
    (need (leb (length text) (length buffer)) short_buffer (done (some (length text)) (written 0 text buffer)))

-- the reply of code that writes: the byte count, or NONE where it is refused
abbrev pub count_of : code.Result ℕ Refusal → ℕ
count_of (Ok k) = k
count_of (Err e) = NONE

-- 15: the bytes are no text, or one of the other mode
abbrev pub same_mode : Mode → Mode → Bool
same_mode vsids vsids = true
same_mode vsids vmtf = false
same_mode vmtf vsids = false
same_mode vmtf vmtf = true

abbrev pub said_in : Mode → Option Saved → Result Saved
said_in mode none = refuse bad_saved
said_in mode (some s) = need (same_mode mode s.opening.mode) bad_saved (done none s)

-- what a mode reads: the chooser that a text says, and the tests of a chooser's memory over n variables and of a state over m clauses; its line 3 is
-- no longer than N
pub record Reader (C : Type 0) : Type 0 where
  pub mode : Mode
  pub said : Saved → C
  pub lengths : ℕ → C → Bool
  pub state : ℕ → Trail → C → Bool

-- the clause list and the session, as lent
abbrev pub Memory : Type 0 → Type 0
Memory C = List ℕ × List ℕ × Trail × C

module _ {C : Type 0} (R : Reader C) where
  abbrev pub memory_said : Saved → Memory C
  memory_said s = (lits_said s, ends_said s, trail_said s, R.said s)

  -- 4; 5, unless lent slices have the lengths that the text's counts say; 6; and 7, also where trail or members are more than there are variables
  abbrev pub read_with : Bool → Saved → Result (Memory C)
  read_with lengths s =
      let n = s.opening.vars in
      let room = leb (length s.codes) n && leb (length (row s 3)) n in
      checked n lengths (clauses_ok n (lits_said s) (ends_said s)) (room && R.state (length (ends_said s)) (trail_said s) (R.said s)) (done none (memory_said s))

  unfoldable pub read_into : Saved → Memory C → Result (Memory C)
  read_into s (lits, ends, t, c) = let n = s.opening.vars in read_with (trail_lengths n t && (R.lengths n c && clause_lengths (length (lits_said s)) (length (ends_said s)) lits ends)) s

  abbrev pub on_said : Result Saved → Memory C → Result (Memory C)
  on_said (done r s) lent = read_into s lent
  on_said (refuse k) lent = refuse k

  -- a text, read into the memory as lent
  abbrev pub read : List ℕ → Memory C → Result (Memory C)
  read bytes lent = on_said (said_in R.mode (read_text bytes)) lent
