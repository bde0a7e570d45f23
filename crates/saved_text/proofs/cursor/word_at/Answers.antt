-- `saved_text::cursor::word_at` meets its contract: each kind has its reader.
use native.Mathlib.Omega.{arith}
use Rattle.saved_text.specs.CursorLaws.{digits_field, read_small}
use Rattle.saved_text.proofs.cursor.word_at.Goals as goal

pub returns-in-UpTo : goal.returns-in-UpTo
returns-in-UpTo c = rw (c.in-UpTo.is, c.digits_at.ensures) (read_small (λ v h. omega arith) (digits_field _ _ _ (omega arith)))

pub returns-in-Reason : goal.returns-in-Reason
returns-in-Reason c = rw c.in-Reason.is (read_small (λ v h. h) c.reason_at.ensures)
