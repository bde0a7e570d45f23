-- `new_at`: the literals passed so far have other variables than the one at i.
use Rattle.std.proofs.Common.{ℕ, List, ◌<◌, ◌≡◌, sym, arith, eq-eqb, ne_eqb, length, take, length-take, get_or-take}
use Rattle.laws.specs.Every.{passed_none, passed_more, passed_all, passed_fails}
use Rattle.formula.specs.Checks.{differ, new_at}
use Rattle.formula.proofs.checks.new_at.Goals as goal

-- the literals before i
long : (codes : List ℕ) (i : ℕ) → i < length codes → length (take i codes) ≡ i
long codes i h = omega (arith, length-take i codes)

pub loop-code-init : goal.loop-code-init
loop-code-init c = passed_none

pub returns-then-v-index : goal.returns-then-v-index
unfolding new_at differ
returns-then-v-index c =
    let j : c.loop-code.code-index < c.args.i = omega (arith, long _ _ c.requires) in
    sym (passed_fails c.loop-code.invariant j (rw (← c.index-v.ensures, ← get_or-take c.args.i c.args.codes.now c.loop-code.code-index 0 j, ← c.index.ensures, eq-eqb _ _ c.if-v-index.true)))

pub loop-code-preserved : goal.loop-code-preserved
unfolding differ
loop-code-preserved c =
    let j : c.loop-code.code-index < c.args.i = omega (arith, long _ _ c.requires) in
    passed_more c.loop-code.invariant j (rw (← c.index-v.ensures, ← get_or-take c.args.i c.args.codes.now c.loop-code.code-index 0 j, ← c.index.ensures, ne_eqb _ _ c.if-v-index.false))

pub returns : goal.returns
unfolding new_at
returns c = sym (passed_all c.loop-code.invariant (omega (arith, long _ _ c.requires)))
