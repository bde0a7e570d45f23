-- 'A place .. that is not in use holds NONE', as a test. Assumes nothing.
use Rattle.std.specs.Prelude.{ℕ, Bool, ◌||◌, List, length, get_or, ltb, eqb}
use Rattle.laws.specs.Every.{every}
use Rattle.lit.specs.Numbers.{NONE}

-- every place from `used` on holds NONE
abbrev pub none_at : List ℕ → ℕ → ℕ → Bool
none_at l used i = ltb i used || eqb (get_or l i 0) NONE

unfoldable pub unused_ok : List ℕ → ℕ → Bool
unused_ok l used = every (none_at l used) (length l)
