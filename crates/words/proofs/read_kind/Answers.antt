-- `words::read_kind` meets its contract, kind by kind.
use Rattle.std.proofs.Common.{sym}
use Rattle.words.specs.Kinds.{second_taken}
use Rattle.words.proofs.read_kind.Goals as goal

pub returns-then-b-ne0 : goal.returns-then-b-ne0
returns-then-b-ne0 c = let n = c.in_default in record { is = sym (second_taken _ _ _ c.if-b-ne0.true _ n.not-Enqueues n.not-SetsDecay n.not-MovesGroup); within = tt }
