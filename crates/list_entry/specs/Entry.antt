-- The entry points of list mode: the tests they make of memory as lent, and what they answer.
use Rattle.std.specs.Prelude.{ℕ, Bool, true, ◌&&◌, List, length, eqb}
use Rattle.lit.specs.Numbers.{NONE}
use Rattle.vmtf.specs.Vmtf.{Vmtf}
use Rattle.choosers.specs.List.{list_ops}
use Rattle.book.specs.Session.{Result, Session}
use Rattle.session.specs.Asked.{Asked}
use Rattle.session.specs.Mode.{scratch_lengths, Mode}
use Rattle.session.specs.Mode as mode
use Rattle.list_session.specs.declared.ListState.{ListState}
use Rattle.list_session.specs.Check.{state_ok}

-- refusal 5, of the list's slices
abbrev pub list_lengths : ℕ → Vmtf → Bool
list_lengths n l = eqb (length l.next) n && (eqb (length l.prev) n && eqb (length l.ts) n)

-- over n variables and m clauses with these literals
abbrev pub list_mode : ℕ → ℕ → List ℕ → Mode
list_mode n m lits = record { ops = list_ops n lits; lengths = list_lengths n; state = state_ok m }

-- a call on the session as lent, with the stated number of literals
abbrev pub entered : (n m : ℕ) (lits : List ℕ) → ℕ → List ℕ → Asked → Session n m (list_ops n lits) → Result (Session n m (list_ops n lits))
entered n m lits literals ends = mode.entered n m (list_mode n m lits) lits literals ends

-- a fresh session in the memory as lent, with two scratch slices of length n
abbrev pub made : (n m : ℕ) (lits : List ℕ) → ℕ → List ℕ → List ℕ → List ℕ → Session n m (list_ops n lits) → Result (Session n m (list_ops n lits))
made n m lits literals ends counts indexes = mode.made n m (list_mode n m lits) lits literals ends (scratch_lengths n (length counts) (length indexes))

-- the same without lent scratch
abbrev pub made_unaided : (n m : ℕ) (lits : List ℕ) → ℕ → List ℕ → Session n m (list_ops n lits) → Result (Session n m (list_ops n lits))
made_unaided n m lits literals ends = mode.made n m (list_mode n m lits) lits literals ends true

-- DECISIONS 26: the small states that come back where no session was made
abbrev pub blank : ListState
blank = record { trail = record { len = 0; level = 0; curr_i = 0 }; vmtf = record { start = NONE; search = NONE; timestamp = 0 } }
