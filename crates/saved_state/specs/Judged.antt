-- The words of the claims on saved sessions: which memory has a text, which bytes say what, and what reading comes to.
use Rattle.std.specs.Prelude.{ℕ, ◌<◌, ◌≤◌, ◌≡◌, Bool, true, false, ◌&&◌, List, T, length}
use Rattle.std.proofs.Math.Option.{none}
use Rattle.std.specs.Float.{binary64}
use Rattle.std.specs.Float.Ieee.{fits}
use Rattle.lit.specs.Numbers.{max_vars, many_vars, bad_length, bad_clauses, bad_state}
use Rattle.formula.specs.Good.{GoodClauses}
use Rattle.vsids.specs.Vsids.{Vsids}
use Rattle.vmtf.specs.Vmtf.{Vmtf, max_stamp}
use Rattle.book.specs.Session.{Result, done, refuse}
use Rattle.session.specs.Mode.{trail_lengths, clause_lengths}
use Rattle.forms.specs.Forms.{Mode}
use Rattle.saved_text.specs.Saved.{Saved, WellFormed, text_of}
use Rattle.saved_state.specs.Said.{lits_said, ends_said}
use Rattle.saved_state.specs.Entry.{Reader, Memory, memory_said}

-- as their memory has it, step and decay are doubles, and the timestamp has 64 bits
abbrev pub DoubleStep : Vsids → Type 0
DoubleStep h = T (fits binary64 h.step.inc) × T (fits binary64 h.step.decay)

abbrev pub LongStamp : Vmtf → Type 0
LongStamp l = l.timestamp ≤ max_stamp

-- the bytes are the text of s, which is one of this mode
abbrev pub Says : Mode → List ℕ → Saved → Type 0
Says mode bytes s = WellFormed s × (s.opening.mode ≡ mode) × (bytes ≡ text_of s)

-- the clauses that a text says are good
abbrev pub ClausesSaid : Saved → Type 0
ClausesSaid s = GoodClauses s.opening.vars (lits_said s) (ends_said s)

module _ {C : Type 0} (R : Reader C) where
  -- refusal 5: lent memory has the lengths of x, a session over n variables with its clauses
  abbrev pub same_lengths : ℕ → Memory C → Memory C → Bool
  same_lengths n (lits, ends, _, _) (lits', ends', t, c) = trail_lengths n t && (R.lengths n c && clause_lengths (length lits) (length ends) lits' ends')

  -- What reading the text s into lent memory comes to, where these memories are good sessions over n variables: the first of 4, 5, 6 and 7 that fits, or what s says.
  module _ (Good : ℕ → Memory C → Type 0) (s : Saved) (lent : Memory C) where
    abbrev n : ℕ
    n = s.opening.vars

    abbrev said : Memory C
    said = memory_said R s

    abbrev fitting : Bool
    fitting = same_lengths n said lent

    pub data Judged : Result (Memory C) → Type 0 where
      many_variables : max_vars < n → Judged (refuse many_vars)
      other_lengths : n ≤ max_vars → fitting ≡ false → Judged (refuse bad_length)
      bad_clauses_lem : n ≤ max_vars → fitting ≡ true → ¬ ClausesSaid s → Judged (refuse bad_clauses)
      bad_state_lem : n ≤ max_vars → fitting ≡ true → ClausesSaid s → ¬ Good n said → Judged (refuse bad_state)
      taken : fitting ≡ true → Good n said → Judged (done none said)
