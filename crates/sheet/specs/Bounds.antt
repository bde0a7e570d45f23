-- How long an answer is: at most 20 bytes of the 24 that the buffer has for each line. Assumes nothing.
use Rattle.std.specs.Prelude.{ℕ, ◌<◌}
use Rattle.std.proofs.Math.Option.{Option, none, some}
use Rattle.lit.specs.Numbers.{NONE}

-- none, or a number that is not the one for none
abbrev pub Small : Option ℕ → Type 0
Small none = Unit {0}
Small (some r) = r < NONE
