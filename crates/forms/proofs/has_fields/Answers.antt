-- `forms::has_fields` meets its contract, test by test.
use Rattle.std.proofs.Common.{le-leb}
use Rattle.std.proofs.lemmas.Bool.{lt-leb}
use Rattle.forms.specs.Behind.{tabbed}
use Rattle.forms.proofs.has_fields.Goals as goal

pub returns-then-line-ge2 : goal.returns-then-line-ge2
unfolding tabbed
returns-then-line-ge2 c = rw (le-leb _ _ c.if-line-ge2.true)

pub returns-else-line-ge2 : goal.returns-else-line-ge2
unfolding tabbed
returns-else-line-ge2 c = rw (lt-leb _ _ c.if-line-ge2.false)
