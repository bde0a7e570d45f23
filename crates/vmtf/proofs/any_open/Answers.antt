-- The loop's invariant: no variable before the index is open.
use mathlib.Core.Path.{◌≡◌, sym}
use native.Mathlib.Omega.{arith}
use borrow.Author.Count.{below_more}
use borrow.Author.Tests.{le-leb, lt-leb}
use lib.ListN.{length}
use Rattle.vmtf.specs.Vmtf.{is_open}
use Rattle.vmtf.specs.Laws.{any_open_lem, none_open}
use Rattle.vmtf.proofs.any_open.Goals as goal

pub returns-then-value-ge-UNASSIGNED : goal.returns-then-value-ge-UNASSIGNED
unfolding is_open
returns-then-value-ge-UNASSIGNED c = sym (any_open_lem _ _ c.loop-value.value-index (omega arith) (le-leb _ _ c.if-value-ge-UNASSIGNED.true))

pub loop-value-preserved : goal.loop-value-preserved
unfolding is_open
loop-value-preserved c = below_more _ _ c.loop-value.invariant (lt-leb _ _ c.if-value-ge-UNASSIGNED.false)

pub returns : goal.returns
returns c = let e : c.loop-value.value-index ≡ length c.args.values.now = omega arith in sym (none_open _ _ (rw e at c.loop-value.invariant))
