-- A heap chooser to look at: four lent slices, and the small state.
use Rattle.std.specs.Prelude.{ℕ, ◌≡◌, ◌≤◌, ◌<◌, T, List, Float, length, get_or}
use Rattle.std.specs.Float.{nan, binary64}
use Rattle.std.specs.Float.Ieee.{fits}
use Rattle.lit.specs.Numbers.{max_vars}
use Rattle.vsids.specs.declared.heap_check.VsidsView.{VsidsView}
use Rattle.vsids.specs.Vsids as spec
use Rattle.vsids.specs.Vsids.{vsids_of}

-- the chooser that the slices and the state hold
abbrev pub vsids_seen : VsidsView → spec.Vsids
vsids_seen v = vsids_of v.activity.now v.heap.now v.indices.now v.decision.now v.at

-- a place and a position for each activity, and no more than the limit
abbrev pub EqualLengths : VsidsView → Type 0
EqualLengths v = (length v.activity.now ≤ max_vars) × ((length v.heap.now ≡ length v.activity.now) × (length v.indices.now ≡ length v.activity.now))

-- what an `f64` slice says: its elements are doubles
abbrev pub AreDoubles : List Float → Type 0
AreDoubles a = (v : ℕ) → v < length a → T (fits binary64 (get_or a v nan))
