-- A session in heap mode as code holds it: nine lent slices, and the small states of the trail and of the heap by value.
use Rattle.std.specs.Prelude.{ℕ, List, [], ◌∷◌, Float}
use Rattle.trail.specs.Memory.{trail_of}
use Rattle.vsids.specs.Vsids.{Vsids, vsids_of}
use Rattle.vsids.specs.Vsids as vsids
use Rattle.choosers.specs.Heap.{heap_ops}
use Rattle.book.specs.Calls.{Call}
use Rattle.book.specs.Session.{Session, call}
use Rattle.session.specs.Entry.{Answered}
use Rattle.heap_session.specs.declared.HeapState.{HeapState}
use Rattle.heap_session.specs.declared.HeapAnswer.{HeapAnswer}

-- the slices' contents and the small states, as the book's session over n variables and m clauses, those of the clause list
abbrev pub session_of : (n m : ℕ) (lits ends values levels reasons trail opened : List ℕ) (activity : List Float) (heap indices decision : List ℕ) → HeapState → Session n m (heap_ops n lits ends)
session_of n m lits ends values levels reasons trail opened activity heap indices decision s = record {
  trail = trail_of values levels reasons trail opened s.trail;
  chooser = vsids_of activity heap indices decision s.vsids;
}

-- status k and reply r, with the small states to go on with
abbrev pub answer : ℕ → ℕ → HeapState → HeapAnswer
answer k r s = record { status = k; reply = r; state = s }

-- status k, reply r and the session u are what the call c gives for the session s
abbrev pub Answers : (n m : ℕ) (lits ends : List ℕ) → Call → Session n m (heap_ops n lits ends) → ℕ → ℕ → Session n m (heap_ops n lits ends) → Type 0
Answers n m lits ends c s k r u = Answered (call n m (heap_ops n lits ends) s c) s k r u

-- 'Undone variables are offered to `insert`, last first': these variables, in this order
unfoldable pub insert_all : List ℕ → Vsids → Vsids
insert_all [] h = h
insert_all (v ∷ vs) h = insert_all vs (vsids.insert v h)
