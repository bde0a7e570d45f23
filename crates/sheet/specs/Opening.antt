-- A sheet from its first line on, as code runs it: what the first line opens, its answer, and where the lines behind it begin. Assumes nothing.
use Rattle.std.specs.Prelude.{ℕ, Some, None}
use Rattle.std.proofs.Math.Option.{Option, none, some}
use Rattle.std.specs.Prelude as code
use Rattle.forms.specs.declared.Opening as opens
use Rattle.forms.specs.declared.Mode as mode
use Rattle.forms.specs.declared.Mode.TheVariants as a_mode
use Rattle.forms.specs.Forms.{Mode, vsids, vmtf, Opening}
use Rattle.sheet.specs.declared.Place.{Place}

-- heap mode or list mode, which code names
abbrev pub mode_of : mode.Mode → Mode
mode_of a_mode.Heap = vsids
mode_of a_mode.List = vmtf

-- what a first line opens, which code has: a session in that mode, over n variables
abbrev pub opening_at : mode.Mode → ℕ → Opening
opening_at m n = record { mode = mode_of m; vars = n }

abbrev pub opening_of : code.Option opens.Opening → Option Opening
opening_of None = none
opening_of (Some o) = some (opening_at o.mode o.vars)

-- where a run stands at the first of so many lines
abbrev pub at_first : ℕ → Place
at_first count = record { from = 0; left = count; line = 1; at = 0 }
