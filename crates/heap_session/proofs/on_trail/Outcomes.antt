-- The answer of going back in heap mode: its definition, read off.
use Prim.Native.Nat.{ℕ, ◌-◌}
use mathlib.Core.Path.{◌≡◌, refl}
use mathlib.Core.List.{List}
use Rattle.choosers.specs.Heap.{heap_ops}
use Rattle.book.specs.Calls.{go_back}
use Rattle.book.specs.Session.{Session, went_back, call}
use Rattle.session.specs.Entry.{Answered}

pub gone_back : (n m : ℕ) (lits ends : List ℕ) (s : Session n m (heap_ops n lits ends)) (l : ℕ) (u : Session n m (heap_ops n lits ends)) → u ≡ went_back n m (heap_ops n lits ends) l s → Answered (call n m (heap_ops n lits ends) s (go_back l)) s 0 (s.trail.len - u.trail.len) u
unfolding call
gone_back n m lits ends s l u q = rw q (record { status = refl; reply = refl; session = refl })
