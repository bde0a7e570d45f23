-- A heap with its members in the order of their numbers and no activity above 0, as creation leaves it: it passes the check. Assumes nothing.
use Rattle.std.specs.Prelude.{Bool, ◌&&◌, List, ℕ, eqb, Float, length, get_or}
use Rattle.std.specs.Float.{nan}
use Rattle.laws.specs.Every.{every}
use Rattle.activity.specs.Doubles.{zero_activity}
use Rattle.activity.specs.Step.{within}

-- an activity is at most hi, without sign and no NaN
abbrev pub activity_within : Float → List Float → ℕ → Bool
activity_within hi activity v = within hi (get_or activity v nan)

-- an element is the number of its place
abbrev pub own_place : List ℕ → ℕ → Bool
own_place l i = eqb (get_or l i 0) i

unfoldable pub untouched : ℕ → List Float → List ℕ → List ℕ → Bool
untouched len activity heap indices =
    eqb len (length activity)
    && (every (activity_within zero_activity activity) (length activity) && (every (own_place heap) (length heap) && every (own_place indices) (length indices)))
