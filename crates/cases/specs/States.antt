-- The states that the cases start from and end with, each whole and with its numbers as document 01 has them.
use Rattle.std.specs.Prelude.{ℕ, ◌≡◌, refl, false, List, [], ◌∷◌, ◌++◌, Float, length, get_or, set, drop, replicate}
use Rattle.std.specs.Float.Ieee.{of_bits, round}
use Rattle.std.specs.Float.{binary64}
use Rattle.lit.specs.Numbers.{NONE, unassigned, switched_on}
use Rattle.activity.specs.declared.Step.{Step}
use Rattle.activity.specs.Doubles.{zero_activity, fresh_inc, fresh_decay, min_decay, limit, max_inc}
use Rattle.trail.specs.Trail.{Trail}
use Rattle.vsids.specs.Vsids.{Vsids}
use Rattle.vmtf.specs.Vmtf.{Vmtf}

-- ---- trails

-- no variable is assigned; those that were undone keep these levels, unread
abbrev pub undone : List ℕ → Trail
undone levels = record {
  values = replicate (length levels) unassigned;
  levels = levels;
  reasons = replicate (length levels) NONE;
  trail = replicate (length levels) NONE;
  opened = replicate (length levels) NONE;
  len = 0;
  level = 0;
  curr = 0;
}

-- none of n variables was ever assigned
abbrev pub untouched : ℕ → Trail
untouched n = undone (replicate n NONE)

-- N = 1: variable 0 is decided to be true, at level 1
abbrev pub decided_one : Trail
decided_one = record { values = 1 ∷ []; levels = 1 ∷ []; reasons = NONE ∷ []; trail = 1 ∷ []; opened = 0 ∷ []; len = 1; level = 1; curr = 0 }

-- N = 1: variable 0 is true at level 0
abbrev pub learned_one : Trail
learned_one = record { values = 1 ∷ []; levels = 0 ∷ []; reasons = NONE ∷ []; trail = 1 ∷ []; opened = NONE ∷ []; len = 1; level = 0; curr = 0 }

-- ---- heaps

-- The doubles of the cases by their decimals. activity/specs/Doubles.antt shows that 0, 1, 0.5, 0.95, 1e100 and 1e200, rounded, are these.
abbrev pub zero : Float
zero = zero_activity

abbrev pub one : Float
one = fresh_inc

abbrev pub half : Float
half = min_decay

abbrev pub usual : Float
usual = fresh_decay

abbrev pub e100 : Float
e100 = limit

abbrev pub e200 : Float
e200 = max_inc

abbrev pub two : Float
two = of_bits binary64 0x4000_0000_0000_0000

pub two_is : two ≡ round binary64 false 2 1
unfolding of_bits round
two_is = refl

-- a step, with its decay
abbrev pub step_of : Float → Float → Step
step_of inc decay = record { inc = inc; decay = decay }

-- N = 1: variable 0 is the member, with this activity
abbrev pub member_one : Float → Step → Vsids
member_one a s = record { activity = a ∷ []; heap = 0 ∷ []; indices = 0 ∷ []; decision = switched_on ∷ []; len = 1; step = s }

-- N = 1: the heap is empty and the position of variable 0 is NONE; its switch is this
abbrev pub empty_one : ℕ → Vsids
empty_one switch = record { activity = zero ∷ []; heap = NONE ∷ []; indices = NONE ∷ []; decision = switch ∷ []; len = 0; step = step_of one usual }

-- ---- lists

-- for each variable what stands beside it
unfoldable pub put : List ℕ → List ℕ → List ℕ → List ℕ
put (v ∷ vs) (x ∷ xs) l = put vs xs (set l v x)
put (v ∷ vs) [] l = l
put [] xs l = l

abbrev pub by_variable : List ℕ → List ℕ → List ℕ
by_variable vs xs = put vs xs (replicate (length vs) 0)

-- The list in this order from the front, with these stamps, this timestamp and this search: 'Links agree both ways, with NONE before the
-- front and after the last.'
abbrev pub list : List ℕ → List ℕ → ℕ → ℕ → Vmtf
list order stamps timestamp search = record {
  next = by_variable order (drop 1 order ++ (NONE ∷ []));
  prev = by_variable order (NONE ∷ order);
  ts = by_variable order stamps;
  start = get_or order 0 NONE;
  search = search;
  timestamp = timestamp;
}
