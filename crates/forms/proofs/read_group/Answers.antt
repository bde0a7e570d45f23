-- `forms::read_group` meets its contract: what was counted is the group, unless it is too large.
use Rattle.std.proofs.Common.{drop}
use Rattle.forms.specs.Forms.{given, numbers}
use Rattle.forms.specs.Behind.{behind}
use Rattle.forms.specs.Told.{counted_some, group_is}
use Rattle.forms.proofs.read_group.Goals as goal

pub returns : goal.returns
returns c =
    let line = c.args.line.now in
    let out = c.read_list.new.out in
    group_is line out (counted_some out (given (behind (drop 1 line)) numbers) c.read_list.ensures c.in_ok-k.was) c.if-k.false c.requires c.read_list.auto.out
