-- `check` meets its contract: each branch is one of the test's.
use mathlib.Core.Path.{◌≡◌, sym, ◌∙◌}
use mathlib.Core.Bool.{true, true≢false}
use native.Mathlib.Omega.{arith}
use lib.ListN.{length}
use Rattle.laws.specs.Every.{every}
use Rattle.activity.specs.Step.{good_step}
use Rattle.vsids.specs.View.{vsids_seen}
use Rattle.vsids.specs.Check.{switch_ok}
use Rattle.vsids.proofs.Untouched.{untouched_places, untouched_activities, untouched_positions}
use Rattle.vsids.proofs.Outside.{positions_counted}
use Rattle.vsids.proofs.heap_check.Branches.{too_many, bad_step, bad_switches, bad_places, bad_activities, good_activities}
use Rattle.vsids.proofs.heap_check.VsidsView.check.Goals as goal
use Rattle.vsids.proofs.heap_check.VsidsView.check.Goals.{After-switches_ok, Else-not-switches_ok, then-places_ok, else-places_ok}

-- the slice of switches is as long as that of activities
switches-of : (c : After-switches_ok) → let h = vsids_seen c.args.self in c.switches_ok.result ≡ every (switch_ok h.decision) (length h.activity)
switches-of c = rw c.requires.decision_long at c.switches_ok.ensures

-- past the tests of the step and the switches
passed : (c : Else-not-switches_ok) → let h = vsids_seen c.args.self in (good_step h.step ≡ true) × (every (switch_ok h.decision) (length h.activity) ≡ true)
passed c = (sym c.good_step.ensures ∙ c.if-not-good_step.false, sym (rw c.requires.decision_long at c.switches_ok.ensures) ∙ c.if-not-switches_ok.false)

pub returns-then-self : goal.returns-then-self
returns-then-self c = too_many _ _ _ (omega arith)

pub returns-then-not-good_step : goal.returns-then-not-good_step
returns-then-not-good_step c = bad_step _ _ _ (omega arith) (sym c.good_step.ensures ∙ c.if-not-good_step.true)

pub returns-then-not-switches_ok : goal.returns-then-not-switches_ok
returns-then-not-switches_ok c = bad_switches _ _ _ (omega arith) (sym c.good_step.ensures ∙ c.if-not-good_step.false) (sym (switches-of (goal.at.returns-then-not-switches_ok c).After-switches_ok) ∙ c.if-not-switches_ok.true)

pub returns-then-untouched : goal.returns-then-untouched
returns-then-untouched c =
    let h = vsids_seen c.args.self in
    let t = passed (goal.at.returns-then-untouched c).Else-not-switches_ok in
    let u = sym c.untouched.ensures ∙ c.if-untouched.true in
    let p = untouched_places h c.requires.heap_long c.requires.indices_long u in
    sym (untouched_positions h c.requires.heap_long c.requires.indices_long u _ c.requires.small)
    ∙ good_activities _ _ h (omega arith) t.0 t.1 p (untouched_activities h c.requires.heap_long c.requires.indices_long u)

pub returns-then-activities_within : goal.returns-then-activities_within
returns-then-activities_within c =
    let t = passed (goal.at.returns-then-activities_within c).Else-not-switches_ok in
    elim c.if-places_ok.branch [
      | then-places_ok w ↦ (
          let p = sym c.places_ok.ensures ∙ w.if-places_ok.true in
          c.outside_ok.ensures ∙ positions_counted _ _ (vsids_seen c.args.self) c.requires.small (omega arith) p c.requires.indices_long
          ∙ good_activities _ _ _ (omega arith) t.0 t.1 p (sym w.activities_within.ensures ∙ sym w.value-is ∙ c.if-activities_within.true))
      | else-places_ok w ↦ absurd (true≢false (sym c.if-activities_within.true ∙ w.value-is ∙ w.if-places_ok.false))
    ]

pub returns-else-activities_within : goal.returns-else-activities_within
returns-else-activities_within c =
    let t = passed (goal.at.returns-else-activities_within c).Else-not-switches_ok in
    elim c.if-places_ok.branch [ then-places_ok w ↦ c.if-activities_within.false ∙ bad_activities _ _ _ (omega arith) t.0 t.1 (sym c.places_ok.ensures ∙ w.if-places_ok.true) (sym w.activities_within.ensures ∙ sym w.value-is ∙ c.if-activities_within.false) | else-places_ok w ↦ c.if-activities_within.false ∙ bad_places _ _ _ (omega arith) t.0 t.1 (sym c.places_ok.ensures ∙ w.if-places_ok.false) ]
