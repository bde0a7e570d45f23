-- The check of a session's state in list mode (refusal 7), and that what passes it is exactly a good session.
use Rattle.std.specs.Prelude.{ℕ, ◌≤◌, ◌≡◌, Bool, true, ◌&&◌, length}
use Rattle.std.proofs.Common.{arith}
use Rattle.laws.specs.Tests.{and_left, and_right, and_both}
use Rattle.lit.specs.Numbers.{max_vars}
use Rattle.trail.specs.Trail.{Trail}
use Rattle.trail.specs.Memory.{Sized}
use Rattle.trail_check.specs.Check.{trail_ok}
use Rattle.trail_check.proofs.Checked.{trail_right}
use Rattle.vmtf.specs.Vmtf.{Vmtf, check_list}
use Rattle.vmtf.specs.Check.{check_good}
use Rattle.list_session.specs.Good.{GoodSession}

-- 'the state breaks a fact stated above for its records'
unfoldable pub state_ok : ℕ → Trail → Vmtf → Bool
state_ok m t l = trail_ok m t && check_list l

-- what passes the check is a good session
pub checked_good : {n : ℕ} (m : ℕ) (t : Trail) (l : Vmtf) → n ≤ max_vars → Sized n t → length l.next ≡ n → length l.prev ≡ n → length l.ts ≡ n
    → state_ok m t l ≡ true → GoodSession n m t l
unfolding state_ok
checked_good {n} m t l small sized en ep et e = record {
  small = small;
  trail = (trail_right n m t sized).0 (and_left (trail_ok m t) _ e);
  list = (check_good n l (omega arith) en ep et).0 (and_right (trail_ok m t) _ e);
}

-- and a good session passes it
pub good_checked : {n m : ℕ} (t : Trail) (l : Vmtf) → GoodSession n m t l → state_ok m t l ≡ true
unfolding state_ok
good_checked {n} {m} t l g =
    let links = g.list.1.linked in
    and_both ((trail_right n m t g.trail.lengths).1 g.trail) ((check_good n l links.small links.next_long links.prev_long g.list.1.ts_long).1 g.list)
