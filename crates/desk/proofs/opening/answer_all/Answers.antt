-- `desk::opening::answer_all` meets its contract: what was read of the first line says how it is answered.
use mathlib.Core.Path.{sym}
use native.Mathlib.Omega.{arith}
use lib.Seq.{length-take-le}
use Rattle.forms.specs.Text.{newline}
use Rattle.forms.specs.TextLaws.{find_length}
use Rattle.sheet.proofs.Opening.{first_fits}
use Rattle.desk.specs.Opening.{first_done}
use Rattle.desk.specs.Positions.{untouched}
use Rattle.desk.proofs.opening.answer_all.Goals as goal

pub slice_bounds-read_first-end : goal.slice_bounds-read_first-end
slice_bounds-read_first-end c =
    let sheet = c.args.sheet.now in
    sym (length-take-le c.find-end.result sheet (omega (arith, c.find-end.ensures, find_length newline sheet)))

pub answer-requires : goal.answer-requires
answer-requires c = first_fits c.requires.0 c.requires.1 3 (omega arith)

pub returns-in-None : goal.returns-in-None
returns-in-None c =
    let w = c.answer.ensures in
    let both = first_done c.requires.0 c.requires.1 c.find-end.ensures c.read_first.ensures (rw c.in-None.is w) untouched in record { wrote = both.0; same_from = both.1 }

pub returns-in-Some : goal.returns-in-Some
returns-in-Some c =
    let w = c.«open».ensures in
    let both = first_done c.requires.0 c.requires.1 c.find-end.ensures c.read_first.ensures (rw c.in-Some.is w.wrote) (rw c.in-Some.is w.same_from) in record { wrote = both.0; same_from = both.1 }
