-- A session in heap mode as code holds it: nine lent slices, and the small states of the trail and of the heap by value.
use Rattle.std.specs.Prelude.{◌≡◌, ℕ, List}
use Rattle.trail.specs.Trail.{Trail}
use Rattle.trail.specs.Memory.{trail_of}
use Rattle.vsids.specs.Vsids.{Vsids, vsids_of}
use Rattle.choosers.specs.Heap.{heap_ops}
use Rattle.book.specs.Session.{Session}
use Rattle.heap_session.specs.declared.HeapSession.{HeapSession}

-- the trail and the chooser that the slices and the small states hold
abbrev pub trail_held : HeapSession → Trail
trail_held s = trail_of s.values.now s.levels.now s.reasons.now s.trail.now s.opened.now s.at.trail

abbrev pub vsids_held : HeapSession → Vsids
vsids_held s = vsids_of s.activity.now s.heap.now s.indices.now s.decision.now s.at.vsids

-- a trail and a chooser as the book's session over n variables and m clauses, those of the clause list
abbrev pub both : (n m : ℕ) (lits ends : List ℕ) → Trail → Vsids → Session n m (heap_ops n lits ends)
both n m lits ends t h = record { trail = t; chooser = h }

-- those of a session
abbrev pub session_in : (n m : ℕ) (lits ends : List ℕ) → HeapSession → Session n m (heap_ops n lits ends)
session_in n m lits ends s = both n m lits ends (trail_held s) (vsids_held s)

-- the session holds the same slices as before
abbrev pub SameSlices : HeapSession → HeapSession → Type 0
SameSlices a b =
    (a.values.ghost_name ≡ b.values.ghost_name)
    × (a.levels.ghost_name ≡ b.levels.ghost_name)
    × (a.reasons.ghost_name ≡ b.reasons.ghost_name)
    × (a.trail.ghost_name ≡ b.trail.ghost_name)
    × (a.opened.ghost_name ≡ b.opened.ghost_name)
    × (a.activity.ghost_name ≡ b.activity.ghost_name)
    × (a.heap.ghost_name ≡ b.heap.ghost_name)
    × (a.indices.ghost_name ≡ b.indices.ghost_name)
    × (a.decision.ghost_name ≡ b.decision.ghost_name)
