-- The trail's check as tests, a test for each fact or two. `Checked` in trail_check shows that they say what `GoodTrail` says.
use Rattle.std.specs.Prelude.{ℕ, ◌-◌, ◌≤◌, ◌<◌, ◌≡◌, Bool, false, not, ◌&&◌, ◌||◌, List, length, get_or, leb, ltb, eqb}
use Rattle.laws.specs.Every.{every}
use Rattle.laws.specs.Some.{some}
use Rattle.lit.specs.Numbers.{NONE, unassigned}
use Rattle.lit.specs.Lits.{index, is_assigned, lit_sat}
use Rattle.lit.specs.Unused.{unused_ok}
use Rattle.trail.specs.Trail.{Trail}
use Rattle.trail.specs.Good.{not_above}

-- the counts
unfoldable pub counts_ok : ℕ → ℕ → ℕ → ℕ → Bool
counts_ok n len level curr = leb len n && (leb level n && leb curr len)

-- every value is 0, 1 or 2
abbrev pub value_ok : List ℕ → ℕ → Bool
value_ok values v = leb (get_or values v 0) unassigned

unfoldable pub values_ok : List ℕ → Bool
values_ok values = every (value_ok values) (length values)

-- every reason is NONE, or a clause number where the variable is assigned
abbrev pub reason_ok : ℕ → List ℕ → List ℕ → ℕ → Bool
reason_ok m values reasons v = eqb (get_or reasons v 0) NONE || (ltb (get_or reasons v 0) m && is_assigned values v)

unfoldable pub reasons_ok : ℕ → List ℕ → List ℕ → Bool
reasons_ok m values reasons = every (reason_ok m values reasons) (length values)

-- every opened level lies below the trail length and above the one before it
abbrev pub level_ok : List ℕ → ℕ → ℕ → Bool
level_ok opened len k = ltb (get_or opened k 0) len && (eqb k 0 || ltb (get_or opened (k - 1) 0) (get_or opened k 0))

unfoldable pub opened_ok : List ℕ → ℕ → ℕ → Bool
opened_ok opened level len = every (level_ok opened len) level

-- whether variable v stands at one of the first k places of the trail
unfoldable pub stands : List ℕ → ℕ → ℕ → Bool
stands trail v k = some (λ i. eqb (index (get_or trail i 0)) v) k

-- the marks of n variables: those that stand at one of the first k places
pub record Marked (trail : List ℕ) (k n : ℕ) (marks : List Bool) : Type 0 where
  pub long : n ≤ length marks
  pub right : (v : ℕ) → v < n → get_or marks v false ≡ stands trail v k

-- every literal of the trail is of a variable, holds, and is the first of its variable
abbrev pub literal_ok : List ℕ → ℕ → Bool → Bool
literal_ok values code seen = ltb (index code) (length values) && (lit_sat code values && not seen)

abbrev pub place_ok : List ℕ → List ℕ → ℕ → Bool
place_ok values trail i = literal_ok values (get_or trail i 0) (stands trail (index (get_or trail i 0)) i)

unfoldable pub places_ok : List ℕ → List ℕ → ℕ → Bool
places_ok values trail len = every (place_ok values trail) len

-- every assigned variable stands on the trail
abbrev pub held_at : List ℕ → List ℕ → ℕ → ℕ → Bool
held_at values trail len v = leb unassigned (get_or values v 0) || stands trail v len

unfoldable pub held_ok : List ℕ → List ℕ → ℕ → Bool
held_ok values trail len = every (held_at values trail len) (length values)

-- the same by the marks
abbrev pub covered_at : List ℕ → List Bool → ℕ → Bool
covered_at values marks v = leb unassigned (get_or values v 0) || get_or marks v false

unfoldable pub covered_ok : List ℕ → List Bool → Bool
covered_ok values marks = every (covered_at values marks) (length values)

-- the trail variables from place `from` up to `to` have level l
abbrev pub in_row : List ℕ → List ℕ → ℕ → ℕ → ℕ → Bool
in_row levels trail from l i = ltb i from || eqb (get_or levels (index (get_or trail i 0)) 0) l

unfoldable pub row_ok : List ℕ → List ℕ → ℕ → ℕ → ℕ → Bool
row_ok levels trail from to l = every (in_row levels trail from l) to

-- every trail variable has the level of its place
abbrev pub level_is : List ℕ → List ℕ → List ℕ → ℕ → ℕ → Bool
level_is levels trail opened level i = eqb (get_or levels (index (get_or trail i 0)) 0) (not_above opened level i)

unfoldable pub levels_ok : List ℕ → List ℕ → List ℕ → ℕ → ℕ → Bool
levels_ok levels trail opened level len = every (level_is levels trail opened level) len

-- the whole check
unfoldable pub trail_ok : ℕ → Trail → Bool
trail_ok m t =
    counts_ok (length t.values) t.len t.level t.curr
    && ((values_ok t.values && reasons_ok m t.values t.reasons)
    && ((unused_ok t.trail t.len && unused_ok t.opened t.level)
    && ((places_ok t.values t.trail t.len && held_ok t.values t.trail t.len)
    && (opened_ok t.opened t.level t.len && levels_ok t.levels t.trail t.opened t.level t.len))))
