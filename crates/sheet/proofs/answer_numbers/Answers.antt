-- `sheet::answer_numbers` meets its contract: its pieces, one behind the other, are the answer line.
use Prim.Native.Nat.{ℕ, ◌+◌}
use mathlib.Core.Path.{◌≡◌}
use mathlib.Core.Option.{Option}
use mathlib.Core.List.{◌++◌}
use native.Mathlib.Omega.{arith}
use lib.ListN.{length, length-append}
use Rattle.sheet.specs.Sheet.{answer_line}
use Rattle.forms.specs.Written.{put_more, same_room}
use Rattle.sheet.specs.Writing.{reply_of, field, ending}
use Rattle.sheet.proofs.Writing.{answer_pieces}
use Rattle.sheet.proofs.answer_numbers.Goals as goal

-- an answer's length, piece by piece
pieces : (i k : ℕ) (r : Option ℕ) → length (answer_line i k r) ≡ length (field i) + (length (field k) + length (ending r))
pieces i k r = rw (answer_pieces i k r) (omega (arith, length-append (field i) (field k ++ ending r), length-append (field k) (ending r)))

pub put_field-a-requires : goal.put_field-a-requires
put_field-a-requires c = omega (arith, c.requires, pieces c.args.line c.args.status (reply_of c.args.reply))

pub put_field-b-requires : goal.put_field-b-requires
put_field-b-requires c =
    let w = c.put_field-a.ensures in
    omega (arith, c.requires, pieces c.args.line c.args.status (reply_of c.args.reply), w.place, same_room w)

pub put_ending-requires : goal.put_ending-requires
put_ending-requires c =
    let w = c.put_field-a.ensures in
    let v = c.put_field-b.ensures in
    omega (arith, c.requires, pieces c.args.line c.args.status (reply_of c.args.reply), w.place, v.place, same_room w, same_room v)

pub returns : goal.returns
returns c =
    let e = c.put_ending.ensures in
    let v = c.put_field-b.ensures in
    let w = c.put_field-a.ensures in
    rw (answer_pieces _ _ _) (put_more w (put_more v e))
