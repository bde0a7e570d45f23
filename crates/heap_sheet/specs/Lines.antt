-- The lines of a session in heap mode: they are answered, and the session stays good. Assumes nothing.
use Rattle.std.specs.Prelude.{ℕ, refl, List, length}
use Rattle.choosers.specs.Heap.{heap_ops}
use Rattle.book.specs.Session.{Session}
use Rattle.heap_entry.specs.Kept.{IsGood}
use Rattle.heap_entry.specs.Checked.{heap_sound}
use Rattle.sheet.specs.declared.Place.{Place}
use Rattle.sheet.specs.Stages.{in_heap}
use Rattle.sheet.proofs.Replies.{heap_reply}
use Rattle.sheet.specs.SessionLines.{Along}
use Rattle.lines.specs.Lines.{Stands, Went}

module _ (n : ℕ) (lits ends : List ℕ) where
  -- lines are answered from one session on up to another
  abbrev pub HeapAlong : List ℕ → Place → Session n (length ends) (heap_ops n lits ends) → List ℕ → Place → Session n (length ends) (heap_ops n lits ends) → List ℕ → Type 0
  HeapAlong = Along (IsGood n (length ends) lits ends) (in_heap n lits ends)

  heap_stands : Stands (heap_sound n (length ends) lits ends).Good (in_heap n lits ends)
  unfolding heap_sound
  heap_stands = record {
    mode = record { meets_it = λ s line. refl; its_turn = λ s line. refl };
    replies = λ s good c. heap_reply n (length ends) lits ends s good.small good.trail good.heap c;
  }

  -- the lines that code answers in any mode
  pub heap_along : {sheet out out' : List ℕ} {p q : Place} {s u : Session n (length ends) (heap_ops n lits ends)} → Went (heap_sound n (length ends) lits ends).Good sheet p s out q u out' → HeapAlong sheet p s out q u out'
  unfolding heap_sound
  heap_along w = w.along (in_heap n lits ends) heap_stands
