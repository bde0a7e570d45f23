-- What list mode reads of a saved text, and which memory has one.
use Rattle.std.specs.Prelude.{ℕ, List, length}
use Rattle.formula.specs.Good.{GoodClauses}
use Rattle.trail.specs.Memory.{trail_of}
use Rattle.vmtf.specs.Vmtf.{Vmtf, vmtf_of}
use Rattle.list_session.specs.declared.ListState.{ListState}
use Rattle.list_session.specs.Good.{GoodSession}
use Rattle.list_session.specs.Check.{state_ok}
use Rattle.list_entry.specs.Entry.{list_lengths}
use Rattle.forms.specs.Forms.{vmtf}
use Rattle.saved_state.specs.Said.{list_said}
use Rattle.saved_state.specs.Entry.{Reader, Memory}
use Rattle.saved_state.specs.Judged.{LongStamp}

abbrev pub list_reader : Reader Vmtf
list_reader = record { mode = vmtf; said = list_said; lengths = list_lengths; state = state_ok }

-- a good session over n variables, with its clause list
abbrev pub Savable : ℕ → Memory Vmtf → Type 0
Savable n (lits, ends, t, l) = GoodClauses n lits ends × GoodSession n (length ends) t l × LongStamp l

-- a clause list and a session as lent, with the small states
abbrev pub memory_of : (lits ends values levels reasons trail opened next prev ts : List ℕ) → ListState → Memory Vmtf
memory_of lits ends values levels reasons trail opened next prev ts s = (lits, ends, trail_of values levels reasons trail opened s.trail, vmtf_of next prev ts s.vmtf)
