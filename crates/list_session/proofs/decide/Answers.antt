-- `decide`: by what `get_next` found; the variable that it picks has room on the trail.
use Rattle.std.specs.Prelude.{◌≡◌, ◌<◌, Bool, true, false, cond, length, List, ℕ}
use Rattle.std.proofs.lemmas.Result.{err_from_is_err_and}
use Rattle.std.proofs.Math.Bool.{false≢true}
use mathlib.Core.Path.{refl, sym, ap, subst, ◌∙◌}
use borrow.Author.Tests.{le-ltb}
use Rattle.lit.specs.Refusals.{status_of}
use Rattle.trail.specs.Trail.{Trail}
use Rattle.trail.specs.Memory.{RoomFor, trail_in}
use Rattle.trail.specs.Laws.{not_assigned}
use Rattle.vmtf.specs.Vmtf.{Vmtf, Found, chose, nothing, stuck, vmtf_in, vmtf_of, past, get_next}
use Rattle.vmtf.specs.declared.VmtfState.{VmtfState}
use Rattle.vmtf.specs.Good.{good_ends}
use Rattle.vmtf.specs.Choice.{NextIs, next_right}
use Rattle.book.specs.Session.{call}
use Rattle.choosers.specs.List.{next_of}
use Rattle.session.proofs.Outcomes.{failed, chosen, none_open, past_open_lem}
use Rattle.session.proofs.OnTrail.{decision_room}
use Rattle.list_session.proofs.decide.Goals as goal
use Rattle.list_session.proofs.decide.Goals.{In-Some}

-- what was found in values that are the trail's was found in the trail's
found_in : (l : Vmtf) {f : Found} (t u : Trail) → t ≡ u → f ≡ get_next t.values l → get_next u.values l ≡ f
found_in l t u e q = sym (q ∙ ap (λ (u : Trail). get_next u.values l) e)

-- which variable is picked does not depend on the links before a variable, nor on the stamps
abbrev is_chosen : Found → Bool
is_chosen (chose v l) = true
is_chosen (nothing l) = false
is_chosen stuck = false

abbrev picked : Found → ℕ
picked (chose v l) = v
picked (nothing l) = 0
picked stuck = 0

module _ (next prev ts prev' ts' values : List ℕ) (s : VmtfState) (v : ℕ) (m : Vmtf) where
  abbrev l : Vmtf
  l = vmtf_of next prev ts s

  abbrev l' : Vmtf
  l' = vmtf_of next prev' ts' s

  same_pick : (a b : Bool) (w : ℕ) → cond a (cond b stuck (nothing l)) (chose w (past w l)) ≡ chose v m → cond a (cond b stuck (nothing l')) (chose w (past w l')) ≡ chose v (past v l')
  same_pick true true w e = absurd (false≢true (ap is_chosen e))
  same_pick true false w e = absurd (false≢true (ap is_chosen e))
  same_pick false b w e = ap (λ w. chose w (past w l')) (ap picked e)

  picks : get_next values l ≡ chose v m → get_next values l' ≡ chose v (past v l')
  unfolding get_next
  picks e = same_pick _ _ _ e

pub returns-then-p-ge2-clause-answered : goal.returns-then-p-ge2-clause-answered
unfolding call
returns-then-p-ge2-clause-answered c = λ n m lits. failed _ (le-ltb _ _ c.if-p-ge2.true)

pub get_next-requires-clause-ends : goal.get_next-requires-clause-ends
get_next-requires-clause-ends c = good_ends c.requires.list.1

pub returns-in_err-v-clause-answered : goal.returns-in_err-v-clause-answered
returns-in_err-v-clause-answered c =
    let p = err_from_is_err_and c.from_residual.result c.from_residual.ensures.1 in
    let e = c.in_err-v.ensures in
    λ n m lits. rw (p.1, p.2, ap status_of e.refused, e.kept) (past_open_lem c.if-p-ge2.false (ap next_of (found_in _ _ _ c.view.ensures e.found)))

-- what was found in the trail's values
found : (c : In-Some) → get_next c.args.trail.now.values.now (vmtf_in c.args.vmtf.now) ≡ chose c.in-Some.v (vmtf_in c.get_next.new.self)
found c = found_in _ _ _ c.view.ensures (rw c.in-Some.is at c.in_ok-v.ensures.found)

room : (c : In-Some) → let t = trail_in c.args.trail.now in let n = length c.args.trail.now.values.now in RoomFor n c.in-Some.v t × ((t.level < n) × (c.args.p < 2))
room c =
    let k = c.requires in
    let l = vmtf_of c.args.vmtf.now.next.now k.prev k.ts c.args.vmtf.now.at in
    let p = subst (NextIs _ _ _ l) (picks _ _ _ k.prev k.ts _ _ _ _ (found c)) (next_right k.list.1 _ refl) in
    decision_room _ _ k.small k.trail p.0 c.if-p-ge2.false (not_assigned k.trail _ p.0 p.1)

pub enq_decision-requires-clause-room_for : goal.enq_decision-requires-clause-room_for
enq_decision-requires-clause-room_for c = (room (goal.at.enq_decision-requires-clause-room_for c).In-Some).0

pub enq_decision-requires-clause-level_in_bounds : goal.enq_decision-requires-clause-level_in_bounds
enq_decision-requires-clause-level_in_bounds c = (room (goal.at.enq_decision-requires-clause-level_in_bounds c).In-Some).1

pub returns-in-Some-clause-answered : goal.returns-in-Some-clause-answered
returns-in-Some-clause-answered c = λ n m lits. chosen c.if-p-ge2.false (ap next_of (found (goal.at.returns-in-Some-clause-answered c).In-Some)) c.enq_decision.ensures.decided

pub returns-in-None-clause-answered : goal.returns-in-None-clause-answered
returns-in-None-clause-answered c = λ n m lits. none_open c.if-p-ge2.false (ap next_of (found_in _ _ _ c.view.ensures (rw c.in-None.is at c.in_ok-v.ensures.found)))
