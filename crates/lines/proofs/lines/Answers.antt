-- `lines` meets its contract: each line that is answered leaves the run's end where it was.
use Rattle.std.proofs.Common.{arith}
use Rattle.lines.specs.Lines.{went_none, went_more}
use Rattle.lines.proofs.lines.Goals as goal

pub loop-init : goal.loop-init
loop-init g c = record { went = went_none c.requires.room.0 c.requires.good; left = omega arith; same_slices = g.met.S.Session.same_refl _ }

pub next_line-q-requires : goal.next_line-q-requires
next_line-q-requires g c =
    let inv = c.loop.invariant in
    record { room = (inv.went.room, omega (arith, inv.left), c.requires.room.1); good = inv.went.good }

pub loop-preserved : goal.loop-preserved
loop-preserved g c =
    let inv = c.loop.invariant in
    record {
      went = went_more inv.went c.next_line-q.ensures.went;
      left = omega (arith, inv.left, c.next_line-q.ensures.left);
      same_slices = g.met.S.Session.same_trans _ _ _ inv.same_slices c.next_line-q.ensures.same_slices;
    }

pub returns-clause-left : goal.returns-clause-left
returns-clause-left g c = omega (arith, c.loop.invariant.left)

pub returns-clause-went : goal.returns-clause-went
returns-clause-went g c = c.loop.invariant.went
