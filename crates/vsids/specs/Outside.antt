-- Where every place is good, the members have their positions. So positions are good exactly where no more variables have one than there are members, and
-- no variable without one is open. By counting, both ways. Assumes nothing.
use Rattle.std.specs.Prelude.{ℕ, ◌+◌, Bool, not, ◌&&◌, List, length}
use Rattle.std.proofs.Math.Dec.{eqb}
use Rattle.std.proofs.Math.ListN.{get_or}
use Rattle.laws.specs.Every.{every}
use Rattle.laws.specs.Some.{count}
use Rattle.lit.specs.Numbers.{NONE}
use Rattle.vsids.specs.Vsids.{is_open}

-- a variable has no position; it has one, or is not open
abbrev pub outside_at : List ℕ → ℕ → Bool
outside_at indices v = eqb (get_or indices v 0) NONE

abbrev pub settled_at : List ℕ → List ℕ → List ℕ → ℕ → Bool
settled_at values indices decision v = not (outside_at indices v && is_open values decision v)

-- each is so, and those without a position are all but len
unfoldable pub outside_ok : List ℕ → List ℕ → List ℕ → ℕ → Bool
outside_ok values indices decision len = every (settled_at values indices decision) (length indices) && eqb (count (outside_at indices) (length indices) + len) (length indices)
