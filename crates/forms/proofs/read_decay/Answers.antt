-- `forms::read_decay` meets its contract.
use Rattle.std.proofs.Common.{drop, sym, refl, ◌∙◌}
use Rattle.forms.specs.Text.{pattern}
use Rattle.forms.specs.Forms.{sets_decay, call_with, decay_in}
use Rattle.forms.specs.Behind.{tabbed_long, untabbed}
use Rattle.laws.specs.Parts.{to_end}
use Rattle.forms.specs.Lines.{one_behind, decay_tab}
use Rattle.laws.specs.Options.{code_none, code_some}
use Rattle.forms.proofs.read_decay.Goals as goal

pub returns-then-not-has_fields : goal.returns-then-not-has_fields
returns-then-not-has_fields c =
    rw (untabbed c.args.line.now (call_with sets_decay) refl (sym c.has_fields.ensures ∙ c.if-not-has_fields.true))

pub slice_bounds-pattern-count : goal.slice_bounds-pattern-count
slice_bounds-pattern-count c = tabbed_long c.args.line.now (sym c.has_fields.ensures ∙ c.if-not-has_fields.false)

pub slice_bounds-pattern-start : goal.slice_bounds-pattern-start
slice_bounds-pattern-start c = tabbed_long c.args.line.now (sym c.has_fields.ensures ∙ c.if-not-has_fields.false)

pub returns-in_err-bits : goal.returns-in_err-bits
returns-in_err-bits c =
    let line = c.args.line.now in
    let nothing = code_none (pattern (drop 2 line)) (sym (c.in_err-bits.ensures ∙ rw (to_end 2 line))) in
    rw (c.from_residual.ensures, one_behind line (sym c.has_fields.ensures ∙ c.if-not-has_fields.false) decay_in decay_tab, nothing)

pub returns : goal.returns
returns c =
    let line = c.args.line.now in
    let is = code_some (pattern (drop 2 line)) (sym (c.pattern.ensures ∙ rw (to_end 2 line)) ∙ c.in_ok-bits.was) in
    rw (one_behind line (sym c.has_fields.ensures ∙ c.if-not-has_fields.false) decay_in decay_tab, is, c.double.ensures)
