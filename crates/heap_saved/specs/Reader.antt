-- What heap mode reads of a saved text, and which memory has one.
use Rattle.std.specs.Prelude.{ℕ, List, Float, length}
use Rattle.trail.specs.Memory.{trail_of}
use Rattle.vsids.specs.Vsids.{Vsids, vsids_of}
use Rattle.heap_session.specs.declared.HeapState.{HeapState}
use Rattle.heap_session.specs.Good.{GoodSession}
use Rattle.heap_session.specs.Check.{state_ok}
use Rattle.heap_entry.specs.Entry.{heap_lengths}
use Rattle.forms.specs.Forms.{vsids}
use Rattle.saved_state.specs.Said.{heap_said}
use Rattle.saved_state.specs.Entry.{Reader, Memory}
use Rattle.saved_state.specs.Judged.{DoubleStep}

abbrev pub heap_reader : Reader Vsids
heap_reader = record { mode = vsids; said = heap_said; lengths = heap_lengths; state = state_ok }

-- a good session over n variables, with its clause list
abbrev pub Savable : ℕ → Memory Vsids → Type 0
Savable n (lits, ends, t, h) = GoodSession n (length ends) lits ends t h × DoubleStep h

-- a clause list and a session as lent, with the small states
abbrev pub memory_of : (lits ends values levels reasons trail opened : List ℕ) (activity : List Float) (heap indices decision : List ℕ) → HeapState → Memory Vsids
memory_of lits ends values levels reasons trail opened activity heap indices decision s = (lits, ends, trail_of values levels reasons trail opened s.trail, vsids_of activity heap indices decision s.vsids)
