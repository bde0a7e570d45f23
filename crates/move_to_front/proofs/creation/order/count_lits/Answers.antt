-- The loop's invariant: counting on from the index gives the goal, and no count is above the index.
use Prim.Native.Nat.{ℕ, zero, suc, ◌+◌, ◌≤◌, ◌<◌}
use mathlib.Core.Path.{refl, sym, ◌∙◌}
use native.Mathlib.Omega.{arith}
use lib.ListN.{length, get_or, replicate, length-set}
use Rattle.laws.specs.Lists.{set_cases}
use Rattle.vmtf.specs.Laws.{count_step, count_end}
use Rattle.move_to_front.proofs.creation.order.count_lits.Goals as goal

zeros : (n v : ℕ) → get_or (replicate n 0) v 0 ≤ 0
zeros zero v = omega arith
zeros (suc n) zero = omega arith
zeros (suc n) (suc v) = zeros n v

pub loop-code-init : goal.loop-code-init
loop-code-init c = record { long = refl; below = λ v. rw c.requires.counts_value (zeros (length c.args.counts.now) v); rest = refl }

pub overflow_add-counts : goal.overflow_add-counts
overflow_add-counts c = omega (arith, c.loop-code.invariant.below c.index.result, c.requires.literals.few)

pub loop-code-preserved : goal.loop-code-preserved
loop-code-preserved c =
    let v = c.loop-code.invariant in
    let k = c.index.result in
    let h : c.loop-code.code-index < length c.args.codes.now = omega arith in
    let here : k < length c.loop-code.counts = omega (arith, c.index.ensures, c.requires.literals.vars c.loop-code.code-index h, v.long) in
    record {
      long = simp length-set v.long;
      below = λ w. set_cases (λ x. x ≤ c.loop-code.code-index + 1) c.loop-code.counts k w _ 0 here (λ e. omega (arith, v.below k)) (λ e. omega (arith, v.below w));
      rest = sym (count_step _ _ _ _ c.index.ensures h) ∙ v.rest;
    }

pub returns : goal.returns
returns c = let h : length c.args.codes.now ≤ c.loop-code.code-index = omega arith in sym (count_end _ _ _ h) ∙ c.loop-code.invariant.rest
