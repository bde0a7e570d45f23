-- `forms::table::Kind::of` meets its contract: the table is what the rule gives at its 256 places, which one comparison shows.
use Rattle.std.proofs.Common.{ℕ, rules}
use Rattle.forms.specs.Forms.{kind_of}
use Rattle.forms.specs.Kinds.{code_kind}
use Rattle.forms.proofs.Rule.{entry}
use Rattle.forms.proofs.table.Kind.of.Goals as goal

pub returns : goal.returns
unfolding kind_of
returns c = entry _ (λ (b : ℕ). code_kind (kind_of b)) 256 c.args.b (search rules)
