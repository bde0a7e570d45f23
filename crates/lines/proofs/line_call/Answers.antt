-- `line_call` meets its contract: the call that was read is answered by the session; a line that is none is refused.
use Rattle.std.specs.Prelude.{Some}
use Rattle.std.proofs.Common.{ap, ◌∙◌}
use Rattle.forms.specs.declared.Asked.{Asked}
use Rattle.sheet.proofs.Called.{line_refused, line_answered, line_group}
use Rattle.lines.proofs.line_call.Goals as goal

pub returns-in-None-clause-answered : goal.returns-in-None-clause-answered
returns-in-None-clause-answered g c = line_refused c.read_call.ensures c.in-None.is

pub returns-in-Some-Group-clause-answered : goal.returns-in-Some-Group-clause-answered
returns-in-Some-Group-clause-answered g c = line_group c.read_call.ensures (c.in-Some-Group.is ∙ ap (λ (x : Asked). Some x) c.in-Some-Group.field-0-is) c.group_line.ensures.answered

pub returns-in-Some-Is-clause-answered : goal.returns-in-Some-Is-clause-answered
returns-in-Some-Is-clause-answered g c = line_answered c.read_call.ensures (c.in-Some-Is.is ∙ ap (λ (x : Asked). Some x) c.in-Some-Is.field-0-is) c.call.ensures.answered
