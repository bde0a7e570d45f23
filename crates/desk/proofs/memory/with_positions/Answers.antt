-- `desk::memory::with_positions` meets its contract: of the lent positions the session gets those that it needs, and the others stay as they were.
use mathlib.Core.Path.{sym}
use lib.Seq.{length-take-le}
use Rattle.sheet.specs.Opening.{opening_at}
use Rattle.desk.specs.Positions.{used-front, front_enough}
use Rattle.desk.proofs.memory.with_positions.Goals as goal

pub slice_bounds-short_lines-end-then-sheet-le-SHORT : goal.slice_bounds-short_lines-end-then-sheet-le-SHORT
slice_bounds-short_lines-end-then-sheet-le-SHORT c = sym (length-take-le c.positions_needed-k.result c.args.positions.now c.if-k-positions.false)

pub short_lines-requires : goal.short_lines-requires
short_lines-requires c = record { room = (c.requires.0, c.requires.1, c.if-sheet-le-SHORT.true); positions = front_enough (opening_at c.args.o.mode c.args.o.vars) c.args.positions.now c.positions_needed-k.ensures c.if-k-positions.false }

pub returns-then-sheet-le-SHORT : goal.returns-then-sheet-le-SHORT
returns-then-sheet-le-SHORT c =
    let l = c.short_lines in
    record { ended = l.ensures; same_from = used-front (opening_at c.args.o.mode c.args.o.vars) c.args.positions.now l.new.positions c.requires.1 c.positions_needed-k.ensures c.if-k-positions.false l.auto.positions }

pub slice_bounds-sheet_lines-end-2 : goal.slice_bounds-sheet_lines-end-2
slice_bounds-sheet_lines-end-2 c = sym (length-take-le c.positions_needed-k.result c.args.positions.now c.if-k-positions.false)

pub sheet_lines-requires : goal.sheet_lines-requires
sheet_lines-requires c = record { room = c.requires; positions = front_enough (opening_at c.args.o.mode c.args.o.vars) c.args.positions.now c.positions_needed-k.ensures c.if-k-positions.false }

pub returns : goal.returns
returns c =
    let l = c.sheet_lines in
    record { ended = l.ensures; same_from = used-front (opening_at c.args.o.mode c.args.o.vars) c.args.positions.now l.new.positions c.requires.1 c.positions_needed-k.ensures c.if-k-positions.false l.auto.positions }
