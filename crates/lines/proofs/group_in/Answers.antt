-- `group_in` meets its contract: the group that was read is answered by the session; a line that is none is refused.
use Rattle.std.proofs.Common.{arith}
use Rattle.std.proofs.lemmas.List.{length-replicate}
use Rattle.lit.specs.Numbers.{NONE}
use Rattle.sheet.proofs.Called.{group_within, group_refused, group_answered}
use Rattle.lines.proofs.group_in.Goals as goal

pub whole_as_slice-read_group : goal.whole_as_slice-read_group
whole_as_slice-read_group g c = omega (arith, c.requires.room)

pub read_group-requires : goal.read_group-requires
read_group-requires g c = record { fits = λ k few short. rw (length-replicate g.row.ROOM NONE) (c.requires.fits k few short) }

pub shared_whole_as_front-group : goal.shared_whole_as_front-group
shared_whole_as_front-group g c = (
  omega (arith, group_within c.read_group.ensures c.in-Some.is, c.read_group.auto.vars, length-replicate g.row.ROOM NONE),
  omega (arith, c.requires.room),
)

pub returns-in_default-clause-answered : goal.returns-in_default-clause-answered
returns-in_default-clause-answered g c = group_refused c.read_group.ensures c.in_default.is

pub returns-clause-answered : goal.returns-clause-answered
returns-clause-answered g c = group_answered c.read_group.ensures c.in-Some.is c.group.ensures.answered
