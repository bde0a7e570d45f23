-- The check's tests say what the facts say: each test against its fact or two, then the whole.
use Prim.Native.Nat.{ℕ, ◌≤◌, ◌<◌}
use Rattle.std.specs.Prelude.{◌≡◌, ◌≢◌, List, length, get_or}
use Rattle.lit.specs.Numbers.{NONE, unassigned}
use Rattle.lit.specs.Lits.{index, polarity}
use Rattle.trail.specs.Good.{IsReason}

-- a reason, and none where the variable is unassigned
pub record Reasons (m : ℕ) (values reasons : List ℕ) : Type 0 where
  pub good : (v : ℕ) → v < length values → IsReason m (get_or reasons v 0)
  pub none : (v : ℕ) → v < length values → get_or values v 0 ≡ unassigned → get_or reasons v 0 ≡ NONE

-- opened levels: rising, and below the trail length
pub record Openings (opened : List ℕ) (level len : ℕ) : Type 0 where
  pub rising : (j k : ℕ) → j < k → k < level → get_or opened j 0 < get_or opened k 0
  pub below : (k : ℕ) → k < level → get_or opened k 0 < len

-- the trail's literals: of variables, agreeing with the values, no variable twice
pub record Places (values trail : List ℕ) (len : ℕ) : Type 0 where
  pub codes_in : (i : ℕ) → i < len → index (get_or trail i 0) < length values
  pub agrees : (i : ℕ) → i < len → get_or values (index (get_or trail i 0)) 0 ≡ polarity (get_or trail i 0)
  pub once : (i j : ℕ) → i < j → j < len → index (get_or trail i 0) ≢ index (get_or trail j 0)

-- the counts
pub record Counts (n len level curr : ℕ) : Type 0 where
  pub len_in : len ≤ n
  pub level_in : level ≤ n
  pub curr_in : curr ≤ len
