-- How many variables the shorter arrays of a session have room for. `src/lib.rt` has the same numbers for code.
use Rattle.std.specs.Prelude.{ℕ, ◌+◌}
use Rattle.lit.specs.Numbers.{max_vars}

abbrev pub fewest : ℕ
fewest = 32

abbrev pub few : ℕ
few = 128

-- and the longest
abbrev pub all : ℕ
all = max_vars + 16
