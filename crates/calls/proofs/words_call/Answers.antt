-- `words_call` meets its contract: the call that was read is answered by the session; words that are none are refused.
use Rattle.std.specs.Prelude.{refl, Some, ◌+◌}
use Rattle.std.proofs.Common.{ap}
use Rattle.forms.specs.declared.Asked.{Asked}
use Rattle.words.specs.Read.{words_refused, words_answered, words_group}
use Rattle.calls.proofs.words_call.Goals as goal

pub returns-in-None-clause-answered : goal.returns-in-None-clause-answered
returns-in-None-clause-answered g c = words_refused c.in-None.ensures refl

pub returns-in-Some-Group-clause-answered : goal.returns-in-Some-Group-clause-answered
returns-in-Some-Group-clause-answered g c = words_group c.in-Some-Group.ensures (c.args.a + c.args.b) (ap (λ (x : Asked). Some x) c.in-Some-Group.field-0-is) refl c.group.ensures.answered

pub returns-in-Some-Is-clause-answered : goal.returns-in-Some-Is-clause-answered
returns-in-Some-Is-clause-answered g c = words_answered c.in-Some-Is.ensures (ap (λ (x : Asked). Some x) c.in-Some-Is.field-0-is) c.call.ensures.answered
