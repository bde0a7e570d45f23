-- `list_sheet::in_own_arrays` meets its contract: the parts of the arrays that are lent have n elements.
use lib.Seq.{length-take-le}
use Rattle.list_sheet.specs.Start.{room_in, clause_literals}
use Rattle.list_sheet.proofs.in_own_arrays.Goals as goal

pub start-session-requires : goal.start-session-requires
start-session-requires g c =
    let n = c.args.n in
    let r = room_in g.row.VARS c.requires.room.2 in
    record {
      lengths = (
        record {
          values_long = length-take-le n _ r.values_room;
          levels_long = length-take-le n _ r.levels_room;
          reasons_long = length-take-le n _ r.reasons_room;
          trail_long = length-take-le n _ r.trail_room;
          opened_long = length-take-le n _ r.opened_room;
        },
        length-take-le n _ r.next_room,
        length-take-le n _ r.prev_room,
        length-take-le n _ r.ts_room,
      );
      n_le_max_vars = (c.requires.room.1, clause_literals c.requires.room.3);
    }
