-- The loop's invariant: the first open variable from curr on is the one from search on. Its measure is the list that remains.
use mathlib.Core.Path.{sym, ap, ◌∙◌}
use native.Mathlib.Omega.{arith}
use borrow.Author.Tests.{ne_eqb}
use lib.ListN.{length}
use Rattle.vmtf.specs.Vmtf.{first_open}
use Rattle.vmtf.specs.Laws.{ends_in, ends_step, from_none, from_step}
use Rattle.vmtf.proofs.first_open.Goals as goal

pub is_open-requires : goal.is_open-requires
is_open-requires c = omega (arith, ends_in c.loop-curr.invariant.0 c.loop-curr-test.true, c.requires.values_len)

pub bounds-next-curr : goal.bounds-next-curr
bounds-next-curr c = ends_in c.loop-curr.invariant.0 c.loop-curr-test.true

pub loop-curr-smaller : goal.loop-curr-smaller
loop-curr-smaller c = omega (arith, ap length (from_step c.loop-curr.invariant.0 c.loop-curr-test.true))

pub loop-curr-preserved : goal.loop-curr-preserved
unfolding first_open
loop-curr-preserved c =
    let l = c.loop-curr in
    let some = c.loop-curr-test.true in
    (ends_step l.invariant.0 some, l.invariant.1 ∙ rw (from_step l.invariant.0 some, sym c.is_open.ensures ∙ c.if-is_open.false))

pub returns-then-is_open : goal.returns-then-is_open
unfolding first_open
returns-then-is_open c =
    let l = c.loop-curr in
    rw (l.invariant.1, from_step l.invariant.0 c.loop-curr-test.true, sym c.is_open.ensures ∙ c.if-is_open.true, ne_eqb _ _ c.loop-curr-test.true)

pub returns : goal.returns
unfolding first_open
returns c = rw (c.loop-curr.invariant.1, from_none _ _ _ c.loop-curr-test.false)
