-- A fresh session in heap mode, as code makes it: it is good, it passes the check, and it is the stage that opens after the clause lines. Assumes nothing.
use Rattle.std.specs.Prelude.{ℕ, ◌≤◌, ◌≡◌, true, List, Float, length, take, replicate}
use Rattle.std.proofs.Math.Path.{refl}
use Rattle.std.proofs.Common.{ap, ◌∙◌}
use Rattle.std.proofs.lemmas.List.{length-replicate}
use Rattle.laws.specs.Parts.{take_replicate}
use Rattle.lit.specs.Numbers.{NONE, unassigned, switched_on, max_vars}
use Rattle.formula.specs.Good.{GoodClauses}
use Rattle.activity.specs.Doubles.{zero_activity}
use Rattle.trail.specs.declared.TrailState.{TrailState}
use Rattle.trail.specs.Trail.{Trail, fresh_trail}
use Rattle.trail.specs.Memory.{Sized, trail_of}
use Rattle.vsids.specs.declared.VsidsState.{VsidsState}
use Rattle.vsids.specs.Vsids.{Vsids, vsids_of, new}
use Rattle.vsids.specs.Check.{SameLengths}
use Rattle.book.specs.Session.{fresh}
use Rattle.heap_session.specs.Good.{GoodSession}
use Rattle.heap_session.specs.Check.{state_ok, good_checked, fresh_session}
use Rattle.forms.specs.Forms.{vsids}
use Rattle.sheet.specs.Stages.{in_heap, opened}

-- nothing on the trail
abbrev pub at_start : TrailState
at_start = record { len = 0; level = 0; curr_i = 0 }

-- a list with room for n elements, each x
pub record Filled {A : Type 0} (n : ℕ) (x : A) (l : List A) : Type 0 where
  pub long : n ≤ length l
  pub same : l ≡ replicate (length l) x

-- the arrays of a session over n variables, as they are set up
pub record Blank (n : ℕ) (values levels reasons trail opened : List ℕ) (activity : List Float) (heap decision : List ℕ) : Type 0 where
  pub values_blank : Filled n unassigned values
  pub levels_blank : Filled n NONE levels
  pub reasons_blank : Filled n NONE reasons
  pub trail_blank : Filled n NONE trail
  pub opened_blank : Filled n NONE opened
  pub activity_blank : Filled n zero_activity activity
  pub heap_long : n ≤ length heap
  pub decision_blank : Filled n switched_on decision

set_up : {A : Type 0} {n : ℕ} (m : ℕ) (x : A) → n ≤ m → Filled n x (replicate m x)
set_up m x l = (record { long = rw (length-replicate m x) l; same = rw (length-replicate m x) refl })

pub blank : {n : ℕ} (m : ℕ) → n ≤ m → Blank n (replicate m unassigned) (replicate m NONE) (replicate m NONE) (replicate m NONE) (replicate m NONE) (replicate m zero_activity) (replicate m NONE) (replicate m switched_on)
blank m l = record {
  values_blank = set_up m _ l;
  levels_blank = set_up m _ l;
  reasons_blank = set_up m _ l;
  trail_blank = set_up m _ l;
  opened_blank = set_up m _ l;
  activity_blank = set_up m _ l;
  heap_long = rw (length-replicate m NONE) l;
  decision_blank = set_up m _ l;
}

pub part_filled : {A : Type 0} {n : ℕ} {x : A} {l : List A} → Filled n x l → take n l ≡ replicate n x
part_filled {n = n} {x = x} {l = l} f = ap (take n) f.same ∙ take_replicate x n (length l) f.long

pub part_fresh : {n : ℕ} {values levels reasons trail opened : List ℕ} {activity : List Float} {heap decision : List ℕ} → Blank n values levels reasons trail opened activity heap decision
    → trail_of (take n values) (take n levels) (take n reasons) (take n trail) (take n opened) at_start ≡ fresh_trail n
unfolding fresh_trail
part_fresh b = rw (part_filled b.values_blank, part_filled b.levels_blank, part_filled b.reasons_blank, part_filled b.trail_blank, part_filled b.opened_blank)

-- members in order, with fresh activities and switches
pub started_heap : {n k : ℕ} {a : List Float} {h p d : List ℕ} {s : VsidsState} → a ≡ replicate n zero_activity → d ≡ replicate n switched_on → k ≡ n
    → vsids_of (replicate k zero_activity) h p (replicate k switched_on) s ≡ new k → vsids_of a h p d s ≡ new n
started_heap a d k e = rw (a, d) (rw k at e)

module _ (n : ℕ) (lits ends : List ℕ) {t : Trail} {h : Vsids} (trail : t ≡ fresh_trail n) (heap : h ≡ new n) where
  -- the stage that opens in heap mode has this session
  pub started_opened : in_heap n lits ends (record { trail = t; chooser = h }) ≡ opened vsids n lits ends
  unfolding fresh
  started_opened = rw (trail, heap) refl

  module _ (small : n ≤ max_vars) (clauses : GoodClauses n lits ends) where
    pub started_good : GoodSession n (length ends) lits ends t h
    started_good = rw (trail, heap) (fresh_session n lits ends small clauses)

    -- what the check needs, and that it finds nothing
    pub started_sized : Sized (length t.values) t
    started_sized = let s = started_good.trail.lengths in rw s.values_long s

    pub started_lengths : SameLengths (length h.activity) t.values h.heap h.indices h.decision
    started_lengths = let g = started_good in rw g.heap.scores.long (record {
      small = small;
      values_long = g.trail.lengths.values_long;
      heap_long = g.heap.inverse.room.heap_long;
      indices_long = g.heap.inverse.room.indices_long;
      decision_long = g.heap.switches;
    })

    pub started_passes : state_ok (length ends) t h ≡ true
    started_passes = good_checked t h started_good
