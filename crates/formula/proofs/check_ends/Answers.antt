-- `check_ends`: the ends before i never fall, and `from` is the last of them.
use mathlib.Core.Path.{◌≡◌, refl}
use native.Mathlib.Omega.{arith}
use native.Mathlib.Numerals.{add-one}
use borrow.Author.Tests.{le-leb, lt-leb}
use lib.ListN.{length}
use Rattle.laws.specs.Every.{passed_none, passed_more, passed_all, passed_fails}
use Rattle.formula.specs.Clauses.{no_fall_at, ends_ok}
use Rattle.formula.proofs.check_ends.Goals as goal

pub loop-end-init : goal.loop-end-init
loop-end-init c = (refl, passed_none)

pub returns-then-end-from : goal.returns-then-end-from
unfolding ends_ok no_fall_at
returns-then-end-from c =
    let inv = c.loop-end.invariant in
    rw (passed_fails inv.1 (omega arith) (rw (← inv.0) (lt-leb _ _ c.if-end-from.true)))

pub loop-end-preserved : goal.loop-end-preserved
unfolding no_fall_at
loop-end-preserved c =
    let inv = c.loop-end.invariant in
    (rw add-one, passed_more inv.1 (omega arith) (rw (← inv.0) (le-leb _ _ c.if-end-from.false)))

pub returns : goal.returns
unfolding ends_ok
returns c =
    let inv = c.loop-end.invariant in
    let last : c.loop-end.end-index ≡ length c.args.ends.now = omega arith in
    rw (passed_all inv.1 c.loop-end-test.false, inv.0, last)
