-- The calls that change the trail, as they act on it alone; and that a session with any chooser answers as they do.
use Rattle.std.specs.Prelude.{ℕ, ◌-◌, not, ltb}
use Rattle.std.proofs.Math.Option.{none, some}
use Rattle.lit.specs.Numbers.{no_variable, bad_reason, assigned}
use Rattle.lit.specs.Lits.{index, is_assigned}
use Rattle.trail.specs.Trail.{Trail, enq_assignment, backtrack_safe}
use Rattle.trail.specs.Trail as trail
use Rattle.book.specs.Chooser.{good_reason, Operations}
use Rattle.book.specs.Session.{Result, done, need, Session}

-- 'Enqueue is `enq_assignment`; it refuses an assigned variable'
unfoldable pub enqueue_on : ℕ → ℕ → ℕ → ℕ → Trail → Result Trail
enqueue_on n m code reason t =
    need (ltb (index code) n) no_variable (
    need (good_reason m reason) bad_reason (
    need (not (is_assigned t.values (index code))) assigned (
    done none (enq_assignment code reason t))))

-- 'Learn-unit goes back to level 0, then enqueues with reason NONE.'
unfoldable pub learn_unit_on : ℕ → ℕ → Trail → Result Trail
learn_unit_on n code t =
    need (ltb (index code) n) no_variable (
    need (not (is_assigned (backtrack_safe 0 t).values (index code))) assigned (
    done none (trail.learn_unit code t)))

-- 'The number undone is the trail's length before less that after'
unfoldable pub go_back_on : ℕ → Trail → Result Trail
go_back_on l t = done (some (t.len - (backtrack_safe l t).len)) (backtrack_safe l t)

-- with the state c of a chooser that does not follow the trail
module _ {n m : ℕ} {O : Operations} (c : O.State) where
  abbrev pub with : Trail → Session n m O
  with t = record { trail = t; chooser = c }
