-- `words::read_words` meets its contract: above the bytes there is no letter.
use Rattle.std.proofs.Common.{sym, arith}
use Rattle.words.specs.Kinds.{no_letter}
use Rattle.words.proofs.read_words.Goals as goal

pub returns-in_default : goal.returns-in_default
returns-in_default c = record { is = sym (no_letter _ c.args.letter _ _ (omega (arith, c.in_default.ensures))); within = tt }
