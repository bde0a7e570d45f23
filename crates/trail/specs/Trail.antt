-- The trail's memory and the steps of `trail.rs` on it: plain writes to five lists of length N and three numbers.
-- Places that are not in use hold NONE.
use Rattle.std.specs.Prelude.{ℕ, zero, suc, ◌+◌, ◌-◌, cond, List, map, reverse, get_or, set, take, drop, replicate, ltb}
use Rattle.lit.specs.Numbers.{NONE, unassigned}
use Rattle.lit.specs.Lits.{index, polarity, new}

pub record Trail : Type 0 where
  -- for each variable `assignments`, `lit_to_level` and `lit_to_reason`
  pub values : List ℕ
  pub levels : List ℕ
  pub reasons : List ℕ
  -- `trail` and `decisions`: the codes, and for each opened level the trail's length before its decision
  pub trail : List ℕ
  pub opened : List ℕ
  -- how many of either are in use, and `curr_i`
  pub len : ℕ
  pub level : ℕ
  pub curr : ℕ

-- `Trail::new`
unfoldable pub fresh_trail : ℕ → Trail
fresh_trail n = record { values = replicate n unassigned; levels = replicate n NONE; reasons = replicate n NONE; trail = replicate n NONE; opened = replicate n NONE; len = 0; level = 0; curr = 0 }

-- the same trail with these values, levels and reasons; with these codes, so many in use; with these opened levels, this level and `curr_i`
abbrev pub with_vars : List ℕ → List ℕ → List ℕ → Trail → Trail
with_vars values levels reasons t = record { values = values; levels = levels; reasons = reasons; trail = t.trail; opened = t.opened; len = t.len; level = t.level; curr = t.curr }

abbrev with_codes : List ℕ → ℕ → Trail → Trail
with_codes trail len t = record { values = t.values; levels = t.levels; reasons = t.reasons; trail = trail; opened = t.opened; len = len; level = t.level; curr = t.curr }

abbrev pub with_levels : List ℕ → ℕ → ℕ → Trail → Trail
with_levels opened level curr t = record { values = t.values; levels = t.levels; reasons = t.reasons; trail = t.trail; opened = opened; len = t.len; level = level; curr = curr }

-- `enq_assignment`
unfoldable pub enq_assignment : ℕ → ℕ → Trail → Trail
enq_assignment code reason t =
    with_vars (set t.values (index code) (polarity code)) (set t.levels (index code) t.level) (set t.reasons (index code) reason)
    (with_codes (set t.trail t.len code) (t.len + 1) t)

-- `enq_decision`, with the polarity of the caller. It leaves the reasons alone
unfoldable pub enq_decision : ℕ → ℕ → Trail → Trail
enq_decision v p t =
    with_vars (set t.values v p) (set t.levels v (t.level + 1)) t.reasons
    (with_codes (set t.trail t.len (new v p)) (t.len + 1)
    (with_levels (set t.opened t.level t.len) (t.level + 1) t.curr t))

-- the variable that `backstep` takes off the trail, and what it leaves. The level of the variable stays, unread
abbrev pub last : Trail → ℕ
last t = index (get_or t.trail (t.len - 1) 0)

unfoldable pub backstep : Trail → Trail
backstep t =
    with_vars (set t.values (last t) unassigned) t.levels (set t.reasons (last t) NONE)
    (with_codes (set t.trail (t.len - 1) NONE) (t.len - 1) t)

-- the first loop of `backtrack_to`: k steps
unfoldable pub backsteps : ℕ → Trail → Trail
backsteps zero t = t
backsteps (suc k) t = backsteps k (backstep t)

-- its second loop: k levels less
unfoldable pub close_levels : ℕ → Trail → Trail
close_levels zero t = t
close_levels (suc k) t = close_levels k (with_levels (set t.opened (t.level - 1) NONE) (t.level - 1) t.curr t)

-- its last line
unfoldable pub rewind : Trail → Trail
rewind t = with_levels t.opened t.level t.len t

-- how many variables going back to level l undoes
abbrev pub how_many : ℕ → Trail → ℕ
how_many l t = t.len - get_or t.opened l 0

-- `backtrack_to` a level below the present one
unfoldable pub backtrack_to : ℕ → Trail → Trail
backtrack_to l t = rewind (close_levels (t.level - l) (backsteps (how_many l t) t))

-- the variables that it undoes, last first: those that a chooser is offered
unfoldable pub undone : ℕ → Trail → List ℕ
undone l t = reverse (map index (take (how_many l t) (drop (get_or t.opened l 0) t.trail)))

-- `backtrack_safe`
unfoldable pub backtrack_safe : ℕ → Trail → Trail
backtrack_safe l t = cond (ltb l t.level) (backtrack_to l t) t

-- `learn_unit`, without its garbage collection
unfoldable pub learn_unit : ℕ → Trail → Trail
learn_unit code t = enq_assignment code NONE (backtrack_safe 0 t)
