-- `saved_text::cursor::long_at` meets its contract: each kind has its reader.
use native.Mathlib.Omega.{arith}
use Rattle.saved_text.specs.CursorLaws.{digits_field}
use Rattle.saved_text.proofs.cursor.long_at.Goals as goal

pub returns-in-Number : goal.returns-in-Number
returns-in-Number c = rw (c.in-Number.is, c.digits_at.ensures) (digits_field _ _ _ (omega arith))
