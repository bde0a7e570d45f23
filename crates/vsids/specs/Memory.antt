-- The heap chooser as code holds it: four lent slices, and the count of members with the step by value.
use Rattle.std.specs.Prelude.{◌≡◌, ℕ, Option, Some, None}
use Rattle.vsids.specs.declared.Vsids.{Vsids}
use Rattle.vsids.specs.Vsids as spec
use Rattle.vsids.specs.Vsids.{vsids_of, Found, chose, nothing}

-- the chooser that the slices and the state hold
abbrev pub vsids_in : Vsids → spec.Vsids
vsids_in v = vsids_of v.activity.now v.heap.now v.indices.now v.decision.now v.at

-- the chooser holds the same slices as before
abbrev pub SameSlices : Vsids → Vsids → Type 0
SameSlices a b =
    (a.activity.ghost_name ≡ b.activity.ghost_name) × (a.heap.ghost_name ≡ b.heap.ghost_name) × (a.indices.ghost_name ≡ b.indices.ghost_name) × (a.decision.ghost_name ≡ b.decision.ghost_name)

-- the code's answer with the chooser that it leaves
abbrev pub found_of : Option ℕ → spec.Vsids → Found
found_of (Some v) h = chose v h
found_of None h = nothing h
