-- The check of a session's state in heap mode (refusal 7), and that what passes it is exactly a good session.
use Rattle.std.specs.Prelude.{ℕ, ◌≤◌, ◌<◌, ◌≡◌, refl, Bool, true, ◌&&◌, List, T, length, get_or}
use Rattle.std.specs.Float.{nan, binary64}
use Rattle.std.specs.Float.Ieee.{fits}
use Rattle.laws.specs.Tests.{and_left, and_right, and_both}
use Rattle.lit.specs.Numbers.{max_vars}
use Rattle.formula.specs.Good.{GoodClauses}
use Rattle.trail.specs.Trail.{Trail, fresh_trail}
use Rattle.trail.specs.Memory.{Sized}
use Rattle.trail_check.specs.Check.{trail_ok}
use Rattle.trail_check.proofs.Checked.{trail_right}
use Rattle.trail.specs.Laws.{fresh_good}
use Rattle.vsids.specs.Vsids.{Vsids, new}
use Rattle.vsids.specs.Check.{SameLengths, check_heap}
use Rattle.vsids.proofs.Check.{check_good, good_check}
use Rattle.vsids.proofs.Kept.{new_ok}
use Rattle.heap_session.specs.Good.{GoodSession}

-- 'the state breaks a fact stated above for its records'
unfoldable pub state_ok : ℕ → Trail → Vsids → Bool
state_ok m t h = trail_ok m t && check_heap (length h.activity) t.values h

-- a fresh session over good clauses is good
pub fresh_session : (n : ℕ) (lits ends : List ℕ) → n ≤ max_vars → GoodClauses n lits ends → GoodSession n (length ends) lits ends (fresh_trail n) (new n)
unfolding fresh_trail
fresh_session n lits ends small g = record { small = small; count = refl; clauses = g; trail = fresh_good n (length ends); heap = new_ok n small }

-- what passes the check is a good session; activities are doubles by their type
pub checked_good : (lits ends : List ℕ) (t : Trail) (h : Vsids) → let n = length h.activity in n ≤ max_vars → GoodClauses n lits ends → Sized n t
    → SameLengths n t.values h.heap h.indices h.decision → ((v : ℕ) → v < n → T (fits binary64 (get_or h.activity v nan)))
    → state_ok (length ends) t h ≡ true → GoodSession n (length ends) lits ends t h
unfolding state_ok
checked_good lits ends t h small g sized same doubles e =
    let n = length h.activity in
    record {
      small = small;
      count = refl;
      clauses = g;
      trail = (trail_right n (length ends) t sized).0 (and_left (trail_ok (length ends) t) _ e);
      heap = check_good t.values h same doubles (and_right (trail_ok (length ends) t) _ e);
    }

-- and a good session passes it
pub good_checked : {n m : ℕ} {lits ends : List ℕ} (t : Trail) (h : Vsids) → GoodSession n m lits ends t h → state_ok m t h ≡ true
unfolding state_ok
good_checked {n} {m} t h g = rw g.heap.scores.long (and_both ((trail_right n m t g.trail.lengths).1 g.trail) (good_check h g.heap))
