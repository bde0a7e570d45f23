-- `saved_desk::opening::without_clauses` meets its contract: the session made fresh is all, and its text has room for no clause at least.
use Prim.Native.Nat.{◌+◌, ◌≤◌}
use native.Mathlib.Omega.{arith}
use borrow.Author.Tests.{lt-leb}
use lib.ListN.{length}
use Rattle.sheet.specs.Running.{lines_from}
use Rattle.sheet.proofs.Steps.{line_inside}
use Rattle.sheet.specs.Opening.{mode_of}
use Rattle.sheet.proofs.Opening.{first_fits, first_room, no_clauses}
use Rattle.saved_desk.specs.New.{room_behind, room_none, session_saves, new_short, new_saved}
use Rattle.saved_desk.proofs.opening.without_clauses.Goals as goal

pub returns-then-text-longest : goal.returns-then-text-longest
returns-then-text-longest c =
    let ls = lines_from c.args.sheet.now (c.args.end + 1) in
    new_short c.args.o.mode c.args.o.vars ls c.args.out.now c.args.text.now (lt-leb (room_behind c.args.o.vars ls) (length c.args.text.now) (omega (arith, room_none c.args.o.vars ls c.requires.end_value, c.longest.ensures, c.if-text-longest.true)))

pub answer-at-requires : goal.answer-at-requires
answer-at-requires c =
    first_fits c.requires.room.0 c.requires.room.1 0 (omega arith)

pub second-p-requires : goal.second-p-requires
second-p-requires c =
    (c.requires.room.1, omega (arith, c.requires.room.2, c.requires.room.0.short, line_inside c.requires.room.0 c.requires.room.1))

pub session-requires : goal.session-requires
session-requires c =
    rw c.second-p.ensures (first_room c.requires.room.0 c.requires.room.1 c.requires.room.2 c.answer-at.ensures, c.requires.room.3, no_clauses c.args.o.vars, omega (arith, c.longest.ensures, c.if-text-longest.false))

pub returns : goal.returns
returns c =
    let ls = lines_from c.args.sheet.now (c.args.end + 1) in
    let room : room_behind c.args.o.vars ls ≤ length c.args.text.now = omega (arith, room_none c.args.o.vars ls c.requires.end_value, c.longest.ensures, c.if-text-longest.false) in
    new_saved c.args.o.mode c.args.o.vars c.args.count c.args.end room c.answer-at.ensures (session_saves (mode_of c.args.o.mode) c.requires.end_value (rw c.second-p.ensures at c.session.ensures))
