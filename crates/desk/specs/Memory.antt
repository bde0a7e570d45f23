-- Which sessions and sheets have arrays of fewer places. `src/memory.rt` has the same numbers for code.
use Rattle.std.specs.Prelude.{ℕ}
use Rattle.forms.specs.declared.Mode as mode
use Rattle.forms.specs.declared.Mode.TheVariants as a_mode
use Rattle.heap_sheet.specs.Sizes as heap-sizes
use Rattle.list_sheet.specs.Sizes as list-sizes

-- how many variables are few, in heap mode and in list mode
abbrev pub few_vars : mode.Mode → ℕ
few_vars a_mode.Heap = heap-sizes.few
few_vars a_mode.List = list-sizes.few

-- how many bytes a short sheet may have
abbrev pub short : ℕ
short = 1024
