-- `forms::read_first` meets its contract: the table tells the letter n.
use Rattle.std.proofs.Common.{sym, ap, ◌∙◌}
use Rattle.forms.specs.Read.{first_of}
use Rattle.forms.specs.Lines.{first_none, first_other, first_behind}
use Rattle.forms.proofs.read_first.Goals as goal

pub returns-then-line-eq0 : goal.returns-then-line-eq0
returns-then-line-eq0 c = sym (ap first_of (first_none c.args.line.now c.if-line-eq0.true))

pub returns-in_default : goal.returns-in_default
returns-in_default c = sym (ap first_of (first_other c.args.line.now c.if-line-eq0.false c.of.ensures c.in_default.not-First))

pub returns-in-First : goal.returns-in-First
returns-in-First c = c.read_opening.ensures ∙ sym (ap first_of (first_behind c.args.line.now c.if-line-eq0.false c.of.ensures c.in-First.is))
