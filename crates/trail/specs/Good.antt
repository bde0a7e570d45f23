-- The facts of a good trail over n variables and m clauses: document 01's paragraph 'Trail', and no other.
use Rattle.std.specs.Prelude.{ℕ, ◌≤◌, ◌<◌, ◌≡◌, ◌⊎◌, ◌≢◌, List, get_or, leb}
use Rattle.laws.specs.Some.{count}
use Rattle.lit.specs.Numbers.{NONE, unassigned}
use Rattle.lit.specs.Lits.{index, polarity}
use Rattle.trail.specs.Trail.{Trail}
use Rattle.trail.specs.Memory.{Sized}

-- the variable at a place of the trail
abbrev pub var_at : Trail → ℕ → ℕ
var_at t i = index (get_or t.trail i 0)

-- the number of opened levels not above place i, of the first `level` in the list
unfoldable pub not_above : List ℕ → ℕ → ℕ → ℕ
not_above opened level i = count (λ k. leb (get_or opened k 0) i) level

-- a clause number, or NONE
abbrev pub IsReason : ℕ → ℕ → Type 0
IsReason m r = (r < m) ⊎ (r ≡ NONE)

pub record GoodTrail (n m : ℕ) (t : Trail) : Type 0 where
  -- a place for each variable in every list
  pub lengths : Sized n t
  -- only 0, 1 and 2 are good values
  pub values_good : (v : ℕ) → v < n → get_or t.values v 0 ≤ unassigned
  -- a reason is a clause number or NONE, and an unassigned variable has reason NONE
  pub reasons_good : (v : ℕ) → v < n → IsReason m (get_or t.reasons v 0)
  pub no_reason : (v : ℕ) → v < n → get_or t.values v 0 ≡ unassigned → get_or t.reasons v 0 ≡ NONE
  -- what is in use lies within the lists; `curr_i` is at most the trail length
  pub len_in : t.len ≤ n
  pub level_in : t.level ≤ n
  pub curr_in : t.curr ≤ t.len
  -- the trail holds literals of variables, the code agreeing with the value
  pub codes_in : (i : ℕ) → i < t.len → var_at t i < n
  pub agrees : (i : ℕ) → i < t.len → get_or t.values (var_at t i) 0 ≡ polarity (get_or t.trail i 0)
  -- it holds each assigned variable, and no variable twice
  pub held : (v : ℕ) → v < n → get_or t.values v 0 ≢ unassigned → (i : ℕ) × ((i < t.len) × (var_at t i ≡ v))
  pub once : (i j : ℕ) → i < j → j < t.len → var_at t i ≢ var_at t j
  -- opened levels rise strictly and lie below the trail length
  pub rising : (j k : ℕ) → j < k → k < t.level → get_or t.opened j 0 < get_or t.opened k 0
  pub below : (k : ℕ) → k < t.level → get_or t.opened k 0 < t.len
  -- the level of a trail variable is the number of opened levels not above its place
  pub levels_good : (i : ℕ) → i < t.len → get_or t.levels (var_at t i) 0 ≡ not_above t.opened t.level i
  -- a place that is not in use holds NONE
  pub trail_unused : (i : ℕ) → t.len ≤ i → i < n → get_or t.trail i 0 ≡ NONE
  pub opened_unused : (k : ℕ) → t.level ≤ k → k < n → get_or t.opened k 0 ≡ NONE
