-- A session in heap mode to look at.
use Rattle.std.specs.Prelude.{ℕ, List}
use Rattle.trail.specs.Memory.{view_in}
use Rattle.vsids.specs.View.{vsids_seen}
use Rattle.choosers.specs.Heap.{heap_ops}
use Rattle.book.specs.Session.{Session}
use Rattle.heap_session.specs.declared.HeapView.{HeapView}

-- as the book's session over n variables and m clauses, those of the clause list
abbrev pub session_seen : (n m : ℕ) (lits ends : List ℕ) → HeapView → Session n m (heap_ops n lits ends)
session_seen n m lits ends v = record { trail = view_in v.trail; chooser = vsids_seen v.vsids }
