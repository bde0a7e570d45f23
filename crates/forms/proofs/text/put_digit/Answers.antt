-- `forms::text::put_digit` meets its contract: one byte is written.
use Rattle.std.proofs.Common.{refl}
use Rattle.forms.specs.Text.{written}
use Rattle.forms.proofs.text.put_digit.Goals as goal

pub returns : goal.returns
unfolding written
returns c = record { buffer = refl; place = refl }
