-- `run_calls` meets its contract: each call that is done leaves the run's end where it was.
use Rattle.std.proofs.Common.{arith}
use Rattle.book.specs.Read.{called_kept}
use Rattle.words.proofs.Going.{part_none, part_more, part_over}
use Rattle.calls.proofs.run_calls.Goals as goal

pub loop-i-init : goal.loop-i-init
loop-i-init g c =
    let a = c.args in
    (part_none a.n a.m (g.S.Session.mode a.n a.m a.list.lits.now a.list.ends.now).ops c.requires.good c.requires.calls_len.1, g.met.S.Session.same_refl _)

pub one_call-requires : goal.one_call-requires
one_call-requires g c =
    let inv = c.loop-i.invariant.0 in
    let more = c.loop-i-test.true in
    record { i_in_bounds = (omega (arith, more, c.requires.calls_len.0), omega (arith, more, inv.long)); good = inv.good }

pub loop-i-preserved : goal.loop-i-preserved
loop-i-preserved g c =
    let a = c.args in
    let inv = c.loop-i.invariant in
    let s = g.S.Session.sound a.n a.m a.list.lits.now a.list.ends.now in
    let u = g.S.Session.held a.n a.m a.list.lits.now a.list.ends.now c.loop-i.session in (
      part_more a.n a.m (g.S.Session.mode a.n a.m a.list.lits.now a.list.ends.now).ops inv.0 c.loop-i-test.true (called_kept s.Good u inv.0.good (s.kept u inv.0.good)) c.one_call.ensures.told,
      g.met.S.Session.same_trans _ _ _ inv.1 c.one_call.ensures.same_slices,
    )

pub returns-clause-ran : goal.returns-clause-ran
returns-clause-ran g c =
    let a = c.args in
    part_over a.n a.m (g.S.Session.mode a.n a.m a.list.lits.now a.list.ends.now).ops c.loop-i.invariant.0 (omega (arith, c.loop-i-test.false)) c.requires.calls_len.0
