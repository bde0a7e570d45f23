-- Counts of bytes at the start of a buffer.
use Rattle.std.specs.Prelude.{◌≡◌, ℕ, ◌≤◌, List, length, take, Result, Ok, Err}
use Rattle.input.specs.declared.CutOff.{CutOff}

-- the first n of xs are there, and are n: what lending them as a slice asks
abbrev pub IsPrefixLen : ℕ → List ℕ → Type 0
IsPrefixLen n xs = (n ≤ length xs) × (n ≡ length (take n xs))

-- how many bytes came, to the end or up to a read that failed
abbrev pub count : Result ℕ CutOff → ℕ
count (Ok n) = n
count (Err cut) = cut.len
