-- `trail_check::row_ok` meets its contract: the places passed so far lie below the row or have its level.
use Rattle.std.proofs.Common.{sym, arith, lt-ltb, le-ltb, eq-eqb, ne_eqb}
use Rattle.laws.specs.Every.{every_at, every_all, every_next, every_not}
use Rattle.trail_check.specs.Check.{row_ok}
use Rattle.trail_check.proofs.row_ok.Goals as goal

pub loop-i-init : goal.loop-i-init
loop-i-init c = every_all _ _ (λ j h. rw (lt-ltb j _ h))

pub returns-then-t-v : goal.returns-then-t-v
unfolding row_ok
returns-then-t-v c =
    let l = c.loop-i in
    sym (every_not _ _ l.i (omega arith) (rw (le-ltb _ _ l.auto.i, ne_eqb _ _ (rw c.index-v.ensures at c.if-t-v.true))))

pub loop-i-preserved : goal.loop-i-preserved
loop-i-preserved c =
    let l = c.loop-i in
    every_next _ l.invariant (rw (le-ltb _ _ l.auto.i, eq-eqb _ _ (rw c.index-v.ensures at c.if-t-v.false)))

pub returns : goal.returns
unfolding row_ok
returns c = sym (every_all _ _ (λ j h. every_at _ _ j c.loop-i.invariant (omega arith)))
