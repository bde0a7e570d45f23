-- The trail's memory as code holds it: five lent slices and a small record of counts; and what the operations need of it.
use Rattle.std.specs.Prelude.{ℕ, ◌≤◌, ◌<◌, ◌≡◌, List, length, get_or}
use Rattle.lit.specs.Numbers.{max_vars}
use Rattle.lit.specs.Lits.{index}
use Rattle.trail.specs.Trail.{Trail}
use Rattle.trail.specs.declared.TrailState.{TrailState}
use Rattle.trail.specs.declared.Trail as code
use Rattle.trail.specs.declared.TrailView as view

-- the slices' contents and the counts, as one record
abbrev pub trail_of : List ℕ → List ℕ → List ℕ → List ℕ → List ℕ → TrailState → Trail
trail_of values levels reasons trail opened s = record { values = values; levels = levels; reasons = reasons; trail = trail; opened = opened; len = s.len; level = s.level; curr = s.curr_i }

-- what the code's trail holds, and what a view of one shows
abbrev pub trail_in : code.Trail → Trail
trail_in t = trail_of t.values.now t.levels.now t.reasons.now t.codes.now t.opened.now t.at

abbrev pub view_in : view.TrailView → Trail
view_in t = trail_of t.values.now t.levels.now t.reasons.now t.codes.now t.opened.now t.at

-- the trail holds the same slices as before
abbrev pub SameSlices : code.Trail → code.Trail → Type 0
SameSlices before after =
    (before.values.ghost_name ≡ after.values.ghost_name)
    × ((before.levels.ghost_name ≡ after.levels.ghost_name)
    × ((before.reasons.ghost_name ≡ after.reasons.ghost_name)
    × ((before.codes.ghost_name ≡ after.codes.ghost_name)
    × (before.opened.ghost_name ≡ after.opened.ghost_name))))

-- a place for each of n variables in every list
pub record Lengths (n : ℕ) (values levels reasons trail opened : List ℕ) : Type 0 where
  pub values_long : length values ≡ n
  pub levels_long : length levels ≡ n
  pub reasons_long : length reasons ≡ n
  pub trail_long : length trail ≡ n
  pub opened_long : length opened ≡ n

abbrev pub Sized : ℕ → Trail → Type 0
Sized n t = Lengths n t.values t.levels t.reasons t.trail t.opened

-- What safety needs of a trail over n variables: the counts lie within the lists, and the trail's literals are of variables below n.
pub record Room (n : ℕ) (t : Trail) : Type 0 where
  pub small : n ≤ max_vars
  pub lengths : Sized n t
  pub len_in : t.len ≤ n
  pub level_in : t.level ≤ n
  pub codes_in : (i : ℕ) → i < t.len → index (get_or t.trail i 0) < n

-- What putting a literal of variable v on the trail needs: a free place.
pub record RoomFor (n v : ℕ) (t : Trail) : Type 0 where
  pub room : Room n t
  pub free : t.len < n
  pub var_in : v < n

-- What going back needs: the opened levels lie on the trail, too.
pub record Levelled (n : ℕ) (t : Trail) : Type 0 where
  pub room : Room n t
  pub opened_in : (k : ℕ) → k < t.level → get_or t.opened k 0 ≤ t.len
