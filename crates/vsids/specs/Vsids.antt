-- The heap chooser (`VSIDS` of `decision.rs`): its memory as a record, and its operations on that.
use Rattle.std.specs.Prelude.{ℕ, zero, suc, ◌+◌, ◌-◌, Bool, ◌&&◌, not, cond, List, [], ◌∷◌, leb, eqb, Float, get_or, set, replicate, drop}
use Rattle.std.specs.Float.{nan, binary64}
use Rattle.std.specs.Float.Ieee.{add, lt}
use Rattle.lit.specs.Numbers.{unassigned, switched_on, switched_off}
use Rattle.lit.specs.Lits.{index}
use Rattle.activity.specs.declared.Step.{Step}
use Rattle.activity.specs.Doubles.{zero_activity, limit}
use Rattle.activity.specs.Step.{fresh_step, scale_all, scaled, decayed, with_decay}
use Rattle.heap.specs.Heap.{comes_first, Places, places_of, in_heap, decrease, remove_min, build}
use Rattle.heap.specs.Heap as moves
use Rattle.vsids.specs.declared.VsidsState.{VsidsState}

pub record Vsids : Type 0 where
  -- for each variable its activity, the members, and for each variable its position and its switch
  pub activity : List Float
  pub heap : List ℕ
  pub indices : List ℕ
  pub decision : List ℕ
  -- how many members, and `var_inc` with `var_decay`
  pub len : ℕ
  pub step : Step

-- the lent slices and the state by value
abbrev pub vsids_of : List Float → List ℕ → List ℕ → List ℕ → VsidsState → Vsids
vsids_of a h p d s = record { activity = a; heap = h; indices = p; decision = d; len = s.len; step = s.step }

-- the members and positions; the same chooser with others, k of them in use; with other activities and step; the order of its members
abbrev pub places : Vsids → Places
places h = places_of h.heap h.indices

abbrev pub with_places : ℕ → Places → Vsids → Vsids
with_places k s h = record { activity = h.activity; heap = s.heap; indices = s.indices; decision = h.decision; len = k; step = h.step }

abbrev pub with_scores : List Float → Step → Vsids → Vsids
with_scores a s h = record { activity = a; heap = h.heap; indices = h.indices; decision = h.decision; len = h.len; step = s }

abbrev pub before : Vsids → ℕ → ℕ → Bool
before h = comes_first h.activity

-- `new`: activities 0, all members, all on
unfoldable pub new : ℕ → Vsids
new n =
    let a = replicate n zero_activity in
    let s = build (comes_first a) n in
    record { activity = a; heap = s.heap; indices = s.indices; decision = replicate n switched_on; len = n; step = fresh_step }

-- switched on; and unassigned as well
abbrev pub is_on : List ℕ → ℕ → Bool
is_on decision v = eqb (get_or decision v 0) switched_on

unfoldable pub is_open : List ℕ → List ℕ → ℕ → Bool
is_open values decision v = is_on decision v && leb unassigned (get_or values v 0)

-- `get_next`: members come off the top until one is open
unfoldable pub remove_first : Vsids → Vsids
remove_first h = with_places (h.len - 1) (remove_min (before h) h.len (places h)) h

pub data Found : Type 0 where
  chose : ℕ → Vsids → Found
  nothing : Vsids → Found

unfoldable pub get_next_of : ℕ → List ℕ → Vsids → Found
get_next_of zero values h = nothing h
get_next_of (suc k) values h =
    let v = get_or h.heap 0 0 in
    cond (is_open values h.decision v) (chose v (remove_first h)) (get_next_of k values (remove_first h))

unfoldable pub get_next : List ℕ → Vsids → Found
get_next values h = get_next_of h.len values h

-- `bump_variable`: the step is added with one rounding; strictly above 1e100 all is scaled once; then a member moves up
unfoldable pub add_step : ℕ → Vsids → Vsids
add_step v h = with_scores (set h.activity v (add binary64 (get_or h.activity v nan) h.step.inc)) h.step h

unfoldable pub scaled_all : Vsids → Vsids
scaled_all h = with_scores (scale_all h.activity) (scaled h.step) h

unfoldable pub rescale : ℕ → Vsids → Vsids
rescale v h = cond (lt limit (get_or h.activity v nan)) (scaled_all h) h

unfoldable pub move_up : ℕ → Vsids → Vsids
move_up v h = cond (in_heap h.indices v) (with_places h.len (decrease (before h) v (places h)) h) h

unfoldable pub bump_variable : ℕ → Vsids → Vsids
bump_variable v h = move_up v (rescale v (add_step v h))

-- `bump_reason_literals`: the variable of every literal of the reason clause but the first
unfoldable pub bump_all : List ℕ → Vsids → Vsids
bump_all [] h = h
bump_all (code ∷ codes) h = bump_all codes (bump_variable (index code) h)

abbrev pub bump_reason_literals : List ℕ → Vsids → Vsids
bump_reason_literals clause h = bump_all (drop 1 clause) h

-- `insert`: only what is no member and is switched on
unfoldable pub insert : ℕ → Vsids → Vsids
insert v h = cond (not (in_heap h.indices v) && is_on h.decision v) (with_places (h.len + 1) (moves.insert (before h) h.len v (places h)) h) h

-- `turn_off_decision_for_idx`
unfoldable pub turn_off : ℕ → Vsids → Vsids
turn_off v h = record { activity = h.activity; heap = h.heap; indices = h.indices; decision = set h.decision v switched_off; len = h.len; step = h.step }

-- `decay_var_inc` and `set_var_decay`
abbrev pub decay_var_inc : Vsids → Vsids
decay_var_inc h = with_scores h.activity (decayed h.step) h

abbrev pub set_var_decay : Float → Vsids → Vsids
set_var_decay d h = with_scores h.activity (with_decay h.step d) h
