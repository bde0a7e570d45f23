-- `desk::memory::without_clauses` meets its contract: the session's lines are all.
use Rattle.sheet.specs.Opening.{mode_of}
use Rattle.sheet.proofs.Opening.{no_clauses}
use Rattle.sheet.proofs.Section.{session_ended}
use Rattle.desk.proofs.memory.without_clauses.Goals as goal

pub few_lines-requires : goal.few_lines-requires
few_lines-requires c = record { room = (c.requires.room.0, rw c.few_vars.ensures at c.if-o-few_vars.true, no_clauses c.args.o.vars); positions = c.requires.positions }

pub returns-then-o-few_vars : goal.returns-then-o-few_vars
returns-then-o-few_vars c = session_ended (mode_of c.args.o.mode) c.requires.from_value c.few_lines.ensures

pub session_lines-requires : goal.session_lines-requires
session_lines-requires c = record { room = (c.requires.room.0, c.requires.room.1, no_clauses c.args.o.vars); positions = c.requires.positions }

pub returns : goal.returns
returns c = session_ended (mode_of c.args.o.mode) c.requires.from_value c.session_lines.ensures
