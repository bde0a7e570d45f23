-- `saved_desk::opening::from_first` meets its contract: what was read of the first line says how the sheet is run.
use mathlib.Core.Path.{sym}
use native.Mathlib.Omega.{arith}
use lib.ListN.{length}
use lib.Seq.{length-take-le}
use Rattle.forms.specs.Text.{newline}
use Rattle.forms.specs.TextLaws.{find_length}
use Rattle.saved_desk.specs.New.{first_read}
use Rattle.saved_desk.proofs.opening.from_first.Goals as goal

pub slice_bounds-read_first-end : goal.slice_bounds-read_first-end
slice_bounds-read_first-end c =
    sym (length-take-le c.find-end.result c.args.sheet.now (omega (arith, c.find-end.ensures, find_length newline c.args.sheet.now)))

pub returns-in-None : goal.returns-in-None
returns-in-None c =
    rw (first_read (length c.args.text.now) c.requires.0 c.requires.1 c.find-end.ensures c.read_first.ensures, c.in-None.is) (c.refused_first.ensures c.args.text.now)

pub returns-in-Some : goal.returns-in-Some
returns-in-Some c =
    rw (first_read (length c.args.text.now) c.requires.0 c.requires.1 c.find-end.ensures c.read_first.ensures, c.in-Some.is) c.«open».ensures
