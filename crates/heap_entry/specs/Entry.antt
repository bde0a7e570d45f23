-- The entry points of heap mode: the tests they make of memory as lent, and what they answer.
use Rattle.std.specs.Prelude.{ℕ, Bool, true, ◌&&◌, List, length, eqb}
use Rattle.activity.specs.Step.{fresh_step}
use Rattle.vsids.specs.Vsids.{Vsids}
use Rattle.choosers.specs.Heap.{heap_ops}
use Rattle.book.specs.Session.{Result, Session}
use Rattle.session.specs.Asked.{Asked}
use Rattle.session.specs.Mode.{Mode}
use Rattle.session.specs.Mode as mode
use Rattle.heap_session.specs.declared.HeapState.{HeapState}
use Rattle.heap_session.specs.Check.{state_ok}

-- refusal 5, of the heap's slices
abbrev pub heap_lengths : ℕ → Vsids → Bool
heap_lengths n h = eqb (length h.activity) n && (eqb (length h.heap) n && (eqb (length h.indices) n && eqb (length h.decision) n))

-- over n variables and m clauses, those of the clause list
abbrev pub heap_mode : ℕ → ℕ → List ℕ → List ℕ → Mode
heap_mode n m lits ends = record { ops = heap_ops n lits ends; lengths = heap_lengths n; state = state_ok m }

-- a call on the session as lent, with the stated number of literals
abbrev pub entered : (n m : ℕ) (lits : List ℕ) → ℕ → (ends : List ℕ) → Asked → Session n m (heap_ops n lits ends) → Result (Session n m (heap_ops n lits ends))
entered n m lits literals ends = mode.entered n m (heap_mode n m lits ends) lits literals ends

-- a fresh session in the memory as lent; it takes no scratch
abbrev pub made : (n m : ℕ) (lits : List ℕ) → ℕ → (ends : List ℕ) → Session n m (heap_ops n lits ends) → Result (Session n m (heap_ops n lits ends))
made n m lits literals ends = mode.made n m (heap_mode n m lits ends) lits literals ends true

-- DECISIONS 26: the small states that come back where no session was made
abbrev pub blank : HeapState
blank = record { trail = record { len = 0; level = 0; curr_i = 0 }; vsids = record { len = 0; step = fresh_step } }
