-- `forms::text::double` meets its contract: a pattern above an infinity's is a NaN's, and the others are read as they stand.
use Rattle.std.proofs.Common.{sym, ◌∙◌}
use Rattle.forms.specs.Reading.{no_number, nan_pattern, no_nan}
use Rattle.forms.proofs.text.double.Goals as goal

pub returns-then-bits-gt-INFINITY : goal.returns-then-bits-gt-INFINITY
returns-then-bits-gt-INFINITY c = no_number ∙ sym (nan_pattern c.args.bits c.if-bits-gt-INFINITY.true)

pub float_from_bits-result : goal.float_from_bits-result
float_from_bits-result c = no_nan c.args.bits c.if-bits-gt-INFINITY.false
