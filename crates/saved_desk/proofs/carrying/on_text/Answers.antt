-- `saved_desk::carrying::on_text` meets its contract: the first line of the text says the mode.
use mathlib.Core.List.{map}
use lib.ListN.{length}
use Rattle.lit.specs.declared.Refusal.TheVariants.{BadSaved}
use Rattle.forms.specs.Text.{lines}
use Rattle.forms.specs.Forms.{call_in}
use Rattle.saved_run.specs.Carried.{held_none, came_refused}
use Rattle.saved_desk.proofs.carrying.on_text.Goals as goal

pub heap_on-requires : goal.heap_on-requires
heap_on-requires c = (c.requires, rw c.in-Heap.is at c.in-Some.ensures)

pub list_on-requires : goal.list_on-requires
list_on-requires c = (c.requires, rw c.in-List.is at c.in-Some.ensures)

pub returns-in-None : goal.returns-in-None
returns-in-None c =
    came_refused (length c.args.text.now) (map call_in (lines c.args.sheet.now)) c.args.out.now c.args.text.now BadSaved (held_none c.args.old.now c.in-None.ensures)
