-- `saved_text::cursor::keep` meets its contract: a place that out does not have changes nothing.
use Rattle.saved_text.proofs.Values.{values_set}
use Rattle.saved_text.proofs.cursor.keep.Goals as goal

pub returns-then-at-out : goal.returns-then-at-out
returns-then-at-out g c = values_set g.met.N.Number.each _ _ _
