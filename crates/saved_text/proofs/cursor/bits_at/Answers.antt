-- `saved_text::cursor::bits_at` meets its contract: sixteen bytes are the pattern, or no field stands there.
use mathlib.Core.Path.{sym, ◌∙◌}
use mathlib.Core.Option.{none, some}
use Rattle.laws.specs.Options.{code_none, code_some}
use Rattle.saved_text.specs.CursorLaws.{bits_field, bits_short}
use Rattle.saved_text.proofs.cursor.bits_at.Goals as goal

pub returns-then-text-at-lt16 : goal.returns-then-text-at-lt16
returns-then-text-at-lt16 c = bits_short _ _ c.if-text-at-lt16.true

pub returns-in_err-value : goal.returns-in_err-value
returns-in_err-value c = rw c.from_residual.ensures (bits_field _ _ c.if-text-at-lt16.false none (code_none _ (sym c.pattern.ensures ∙ c.in_err-value.was)))

pub returns : goal.returns
returns c = bits_field _ _ c.if-text-at-lt16.false (some _) (code_some _ (sym c.pattern.ensures ∙ c.in_ok-value.was))
