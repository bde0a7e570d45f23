-- `list_sheet::answer_few` meets its contract: without a line the run has ended.
use Rattle.forms.specs.Forms.{vmtf}
use Rattle.sheet.specs.Stages.{opened}
use Rattle.sheet.proofs.SessionLines.{nothing_left}
use Rattle.list_sheet.proofs.answer_few.Goals as goal

pub returns-then-p-eq0 : goal.returns-then-p-eq0
returns-then-p-eq0 c = nothing_left (opened vmtf c.args.n c.args.list.lits.now c.args.list.ends.now) c.requires.0 c.if-p-eq0.true
