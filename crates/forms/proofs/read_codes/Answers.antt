-- `forms::read_codes` meets its contract.
use Rattle.std.proofs.Common.{sym, ◌∙◌}
use Rattle.forms.specs.Lines.{codes_none, codes_behind}
use Rattle.forms.proofs.read_codes.Goals as goal

pub returns-then-not-begins_clause : goal.returns-then-not-begins_clause
returns-then-not-begins_clause c = rw (codes_none c.args.line.now (sym c.begins_clause.ensures ∙ c.if-not-begins_clause.true))

pub returns : goal.returns
returns c = rw (codes_behind c.args.line.now (sym c.begins_clause.ensures ∙ c.if-not-begins_clause.false)) c.read_list.ensures
