-- Two states of docs/SAVED.md and the numbers of their lines: what is written of the memory, and the memory that these say. Assumes nothing.
use Rattle.std.specs.Prelude.{◌≡◌, refl, [], ◌∷◌}
use Rattle.std.specs.Float.{binary64}
use Rattle.std.specs.Float.Ieee.{of_bits, to_bits}
use Rattle.lit.specs.Numbers.{NONE}
use Rattle.laws.specs.InPlace.{up_to}
use Rattle.formula.specs.Clauses.{clauses_from}
use Rattle.trail.specs.Trail.{Trail}
use Rattle.vsids.specs.Vsids.{Vsids}
use Rattle.vmtf.specs.Vmtf.{Vmtf, from}
use Rattle.forms.specs.Forms.{vsids, vmtf}
use Rattle.saved_text.specs.Saved.{Saved}
use Rattle.saved_state.specs.Written.{saved_of, saved_heap, saved_list}
use Rattle.saved_state.specs.Said.{stores, openings, trail_said, heap_said, list_said}

-- In heap mode: 2 is true at level 0, by clause 1, and 0 is false, decided at level 1, and off.
abbrev heap_trail : Trail
heap_trail = record {
  values = 0 ∷ 2 ∷ 1 ∷ [];
  levels = 1 ∷ NONE ∷ 0 ∷ [];
  reasons = NONE ∷ NONE ∷ 1 ∷ [];
  trail = 5 ∷ 0 ∷ NONE ∷ [];
  opened = 1 ∷ NONE ∷ NONE ∷ [];
  len = 2;
  level = 1;
  curr = 1;
}

-- the doubles 1, 2 and 3; a step of 2, and a decay of 0.75
abbrev heap_of : Vsids
heap_of = record {
  activity = of_bits binary64 0x3ff0_0000_0000_0000 ∷ of_bits binary64 0x4000_0000_0000_0000 ∷ of_bits binary64 0x4008_0000_0000_0000 ∷ [];
  heap = 2 ∷ 1 ∷ NONE ∷ [];
  indices = NONE ∷ 1 ∷ 0 ∷ [];
  decision = 0 ∷ 1 ∷ 1 ∷ [];
  len = 2;
  step = record { inc = of_bits binary64 0x4000_0000_0000_0000; decay = of_bits binary64 0x3fe8_0000_0000_0000 };
}

abbrev heap_lines : Saved
heap_lines = record {
  opening = record { vars = 3; mode = vsids };
  clauses = (1 ∷ 3 ∷ []) ∷ [] ∷ [];
  codes = 5 ∷ 0 ∷ [];
  rows = (0 ∷ 1 ∷ []) ∷ (1 ∷ NONE ∷ []) ∷ (1 ∷ []) ∷ (2 ∷ 1 ∷ [])
      ∷ (0x3ff0_0000_0000_0000 ∷ 0x4000_0000_0000_0000 ∷ 0x4008_0000_0000_0000 ∷ []) ∷ (0 ∷ 1 ∷ 1 ∷ []) ∷ (0x4000_0000_0000_0000 ∷ 0x3fe8_0000_0000_0000 ∷ []) ∷ [];
}

pub heap_written : saved_heap 3 (1 ∷ 3 ∷ []) (2 ∷ 2 ∷ []) heap_trail heap_of ≡ heap_lines
unfolding saved_of clauses_from of_bits to_bits
heap_written = refl

pub heap_said_lem : (trail_said heap_lines ≡ heap_trail) × (heap_said heap_lines ≡ heap_of)
unfolding stores openings up_to of_bits
heap_said_lem = (refl, refl)

-- In list mode: 1 is true, decided at level 1, and 0 is false by clause 0; the list is 2, 0, 1.
abbrev list_trail : Trail
list_trail = record {
  values = 0 ∷ 1 ∷ 2 ∷ [];
  levels = 1 ∷ 1 ∷ NONE ∷ [];
  reasons = 0 ∷ NONE ∷ NONE ∷ [];
  trail = 3 ∷ 0 ∷ NONE ∷ [];
  opened = 0 ∷ NONE ∷ NONE ∷ [];
  len = 2;
  level = 1;
  curr = 2;
}

abbrev list_of : Vmtf
list_of = record {
  next = 1 ∷ NONE ∷ 0 ∷ [];
  prev = 2 ∷ 0 ∷ NONE ∷ [];
  ts = 5 ∷ 2 ∷ 9 ∷ [];
  start = 2;
  search = 2;
  timestamp = 10;
}

abbrev list_lines : Saved
list_lines = record {
  opening = record { vars = 3; mode = vmtf };
  clauses = (0 ∷ 2 ∷ []) ∷ [];
  codes = 3 ∷ 0 ∷ [];
  rows = (1 ∷ 1 ∷ []) ∷ (NONE ∷ 0 ∷ []) ∷ (2 ∷ []) ∷ (2 ∷ 0 ∷ 1 ∷ []) ∷ (9 ∷ 5 ∷ 2 ∷ []) ∷ (10 ∷ []) ∷ (2 ∷ []) ∷ [];
}

pub list_written : saved_list 3 (0 ∷ 2 ∷ []) (2 ∷ []) list_trail list_of ≡ list_lines
unfolding saved_of clauses_from from
list_written = refl

pub list_said_lem : (trail_said list_lines ≡ list_trail) × (list_said list_lines ≡ list_of)
unfolding stores openings
list_said_lem = (refl, refl)
