-- The memory that a saved text says: what it leaves out is made from what it holds. `Sound` shows that this undoes the writing.
use Rattle.std.specs.Prelude.{ℕ, ◌+◌, ◌-◌, cond, ltb, length, get_or, set, drop, replicate}
use mathlib.Core.List.{List, [], ◌∷◌, ◌++◌, map, flatten}
use Rattle.std.specs.Float.{binary64}
use Rattle.std.specs.Float.Ieee.{of_bits}
use Rattle.laws.specs.InPlace.{up_to}
use Rattle.lit.specs.Numbers.{NONE, unassigned}
use Rattle.lit.specs.Lits.{index, polarity}
use Rattle.trail.specs.Trail.{Trail}
use Rattle.vsids.specs.Vsids.{Vsids}
use Rattle.vmtf.specs.Vmtf.{Vmtf, first}
use Rattle.saved_text.specs.Saved.{Saved}
use Rattle.saved_text.specs.Form.{ends_from}

abbrev pub lits_said : Saved → List ℕ
lits_said s = flatten s.clauses

abbrev pub ends_said : Saved → List ℕ
ends_said s = ends_from 0 s.clauses

-- a list of n places, those in use first
abbrev pub padded : ℕ → List ℕ → List ℕ
padded n l = l ++ replicate (n - length l) NONE

-- a list with xs stored at the places vs
unfoldable pub stores : {A : Type 0} → List A → List ℕ → List A → List A
stores l [] xs = l
stores l (v ∷ vs) [] = l
stores l (v ∷ vs) (x ∷ xs) = stores (set l v x) vs xs

-- the places from i on whose level is above the one before, which is l before the first
unfoldable pub openings : ℕ → ℕ → List ℕ → List ℕ
openings i l [] = []
openings i l (x ∷ xs) = cond (ltb l x) (i ∷ openings (i + 1) x xs) (openings (i + 1) x xs)

-- the trail of these codes, levels and reasons
abbrev pub trail_from : ℕ → List ℕ → List ℕ → List ℕ → ℕ → Trail
trail_from n codes levels reasons curr =
    let vs = map index codes in
    let opened = openings 0 0 levels in
    record {
      values = stores (replicate n unassigned) vs (map polarity codes);
      levels = stores (replicate n NONE) vs levels;
      reasons = stores (replicate n NONE) vs reasons;
      trail = padded n codes;
      opened = padded n opened;
      len = length codes;
      level = length opened;
      curr = curr;
    }

-- the heap of these members, activities and switches; the list in this order, with these stamps
abbrev pub heap_from : ℕ → List ℕ → List ℕ → List ℕ → ℕ → ℕ → Vsids
heap_from n members activities switches inc decay = record {
  activity = map (of_bits binary64) activities;
  heap = padded n members;
  indices = stores (replicate n NONE) members (up_to (length members));
  decision = switches;
  len = length members;
  step = record { inc = of_bits binary64 inc; decay = of_bits binary64 decay };
}

abbrev pub list_from : ℕ → List ℕ → List ℕ → ℕ → ℕ → Vmtf
list_from n order stamps timestamp search = record {
  next = stores (replicate n NONE) order (drop 1 order ++ NONE ∷ []);
  prev = stores (replicate n NONE) order (NONE ∷ order);
  ts = stores (replicate n 0) order stamps;
  start = first order;
  search = search;
  timestamp = timestamp;
}

-- the numbers of a line, and the first of them
abbrev pub row : Saved → ℕ → List ℕ
row s i = get_or s.rows i []

abbrev pub number : Saved → ℕ → ℕ
number s i = get_or (row s i) 0 0

abbrev pub trail_said : Saved → Trail
trail_said s = trail_from s.opening.vars s.codes (row s 0) (row s 1) (number s 2)

abbrev pub heap_said : Saved → Vsids
heap_said s = heap_from s.opening.vars (row s 3) (row s 4) (row s 5) (get_or (row s 6) 0 0) (get_or (row s 6) 1 0)

abbrev pub list_said : Saved → Vmtf
list_said s = list_from s.opening.vars (row s 3) (row s 4) (number s 5) (number s 6)
