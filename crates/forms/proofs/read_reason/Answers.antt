-- `forms::read_reason` meets its contract, test by test.
use Rattle.std.proofs.Common.{[], ◌∷◌, sym, eq-eqb, ne_eqb}
use Rattle.forms.specs.Text.{number}
use Rattle.forms.specs.Forms.{reason_in}
use Rattle.laws.specs.Options.{code_none, code_some}
use Rattle.forms.specs.Letters.{dash}
use Rattle.forms.specs.Laws.{is_told}
use Rattle.forms.proofs.read_reason.Goals as goal

pub returns-then-eq : goal.returns-then-eq
unfolding reason_in
returns-then-eq c = rw (is_told c.args.field.now (dash ∷ []) c.as_slice.ensures c.eq.ensures c.if-eq.true)

pub returns-in_err-reason : goal.returns-in_err-reason
unfolding reason_in
returns-in_err-reason c =
    let field = c.args.field.now in
    rw (is_told c.args.field.now (dash ∷ []) c.as_slice.ensures c.eq.ensures c.if-eq.false, code_none (number field) (sym c.in_err-reason.ensures), c.from_residual.ensures)

pub returns-then-reason : goal.returns-then-reason
unfolding reason_in
returns-then-reason c =
    let field = c.args.field.now in
    rw (is_told c.args.field.now (dash ∷ []) c.as_slice.ensures c.eq.ensures c.if-eq.false, code_some (number field) (sym c.in_ok-reason.ensures), eq-eqb _ _ c.if-reason.true)

pub returns : goal.returns
unfolding reason_in
returns c =
    let field = c.args.field.now in
    rw (is_told c.args.field.now (dash ∷ []) c.as_slice.ensures c.eq.ensures c.if-eq.false, code_some (number field) (sym c.in_ok-reason.ensures), ne_eqb _ _ c.if-reason.false)
