-- `list_desk::loaded::list_on` meets its contract: with too many variables the form alone is looked at.
use Prim.Native.Nat.{◌<◌}
use mathlib.Core.Bool.{true}
use mathlib.Core.List.{map}
use lib.ListN.{length}
use Rattle.lit.specs.Numbers.{max_vars}
use Rattle.forms.specs.Text.{lines}
use Rattle.forms.specs.Forms.{call_in}
use Rattle.saved_run.specs.Carried.{held_many, came_refused}
use borrow.Author.Rules.{rules}
use Rattle.list_desk.proofs.loaded.list_on.Goals as goal

pub returns-then-n-gt-MAX_VARS : goal.returns-then-n-gt-MAX_VARS
returns-then-n-gt-MAX_VARS c =
    let many : max_vars < c.args.n = search rules in
    came_refused (length c.args.text.now) (map call_in (lines c.args.sheet.now)) c.args.out.now c.args.text.now c.form_or.result (held_many true c.requires.1 many c.form_or.ensures)
