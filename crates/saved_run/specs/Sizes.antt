-- How many variables the shorter arrays of a session have room for, and how many bytes a text has at most that has fewer places for clauses. `src/lib.rt` has the same numbers for code.
use Rattle.std.specs.Prelude.{ℕ}

abbrev pub least : ℕ
least = 32

abbrev pub few : ℕ
few = 128

abbrev pub tiny : ℕ
tiny = 1024

abbrev pub short : ℕ
short = 4096
