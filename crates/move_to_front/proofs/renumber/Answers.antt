-- The loop's invariant: stamping on from curr gives the goal.
use Prim.Native.Nat.{ℕ, ◌<◌, ◌+◌, ◌-◌}
use mathlib.Core.Path.{◌≡◌, refl, sym, ap, ◌∙◌}
use mathlib.Core.List.{List}
use native.Mathlib.Omega.{arith}
use lib.ListN.{length, length-set}
use Rattle.vmtf.specs.Vmtf.{Vmtf, vmtf_in, with_stamps}
use Rattle.vmtf.specs.Laws.{renumber_none, renumber_last, renumber_step}
use Rattle.move_to_front.proofs.renumber.Goals as goal

pub loop-score-init : goal.loop-score-init
loop-score-init c =
    let n = length c.args.list.now.next.now in
    let e : n + 1 - 1 ≡ n = omega arith in
    record { links = c.requires; rest = λ h. rw e; done = λ e. absurd (omega arith); slices = (refl, refl, refl) }

pub returns-then-curr-clause-renumbered : goal.returns-then-curr-clause-renumbered
returns-then-curr-clause-renumbered c = let v = c.loop-score.invariant in ap (λ (ts : List ℕ). with_stamps ts c.loop-score.list.at.timestamp (vmtf_in c.loop-score.list)) (sym (renumber_none _ _ _ _ c.if-curr.true)) ∙ v.rest (omega arith)

pub returns-then-curr-clause-same_slices : goal.returns-then-curr-clause-same_slices
returns-then-curr-clause-same_slices c = c.loop-score.invariant.slices

pub bounds-list-curr : goal.bounds-list-curr
bounds-list-curr c = c.loop-score.invariant.links.curr_in c.if-curr.false

pub bounds-list-curr-in-loop-score : goal.bounds-list-curr-in-loop-score
bounds-list-curr-in-loop-score c = let l = c.loop-score.invariant.links in omega (arith, l.curr_in c.if-curr.false, l.next_long)

pub loop-score-preserved : goal.loop-score-preserved
loop-score-preserved c =
    let v = c.loop-score.invariant in
    let l = c.loop-score.list in
    let some = c.if-curr.false in
    let h : 0 < c.loop-score.score = omega arith in
    let step : List ℕ → Vmtf = λ ts. with_stamps ts l.at.timestamp (vmtf_in l) in
    record {
      links = simp length-set (record { next_long = v.links.next_long; next_in = v.links.next_in; curr_in = v.links.next_in _ (v.links.curr_in some) });
      rest = λ q. ap step (sym (renumber_step _ _ _ _ some q)) ∙ v.rest h;
      done = λ e. ap step (sym (renumber_last _ _ _ _ some e)) ∙ v.rest h;
      slices = v.slices;
    }

pub returns-clause-renumbered : goal.returns-clause-renumbered
returns-clause-renumbered c = c.loop-score.invariant.done (omega arith)

pub returns-clause-same_slices : goal.returns-clause-same_slices
returns-clause-same_slices c = c.loop-score.invariant.slices
