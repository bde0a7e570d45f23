-- `forms::read_opening` meets its contract: the second tab lies between the number and the mode.
use Rattle.std.proofs.Common.{◌+◌, ◌-◌, ◌<◌, ◌≤◌, length, take, drop, sym, ap, ◌∙◌, arith, ◌≡◌, Some, None}
use Rattle.forms.specs.Text.{number}
use Rattle.forms.specs.Forms.{given, two, mode_in, opening_in}
use Rattle.forms.specs.Behind.{behind}
use Rattle.forms.specs.Told.{opening_told}
use mathlib.Core.Option.{some}
use Rattle.forms.specs.Read.{first_of}
use Rattle.laws.specs.Parts.{to_end}
use Rattle.forms.specs.Lines.{second_range, two_none, two_behind, opening_tab}
use Rattle.laws.specs.Options.{code_none, code_some}
use Rattle.forms.proofs.read_opening.Goals as goal
use Rattle.forms.proofs.read_opening.Goals.{Else-end-line, In_ok-vars}

-- where the second tab lies
range : (c : Else-end-line) → (2 ≤ c.second_tab-end.result) × (c.second_tab-end.result < length c.args.line.now)
range c = second_range c.args.line.now c.second_tab-end.ensures c.if-end-line.false

pub returns-then-end-line : goal.returns-then-end-line
returns-then-end-line c = sym (ap first_of (two_none c.args.line.now c.second_tab-end.ensures opening_in c.if-end-line.true))

pub slice_bounds-number-count : goal.slice_bounds-number-count
slice_bounds-number-count c = (range c).0

pub slice_bounds-number-start : goal.slice_bounds-number-start
slice_bounds-number-start c = (range c).0

pub slice_bounds-number-end : goal.slice_bounds-number-end
slice_bounds-number-end c = let h = (range c).1 in omega arith

pub returns-in_err-vars : goal.returns-in_err-vars
returns-in_err-vars c =
    let line = c.args.line.now in
    let end = c.second_tab-end.result in
    rw (two_behind line c.second_tab-end.ensures opening_in opening_tab c.if-end-line.false, code_none (number (take (end - 2) (drop 2 line))) (sym c.in_err-vars.ensures), c.from_residual.ensures)

pub slice_bounds-read_mode-count : goal.slice_bounds-read_mode-count
slice_bounds-read_mode-count c = omega (arith, range (goal.at.slice_bounds-read_mode-count c).Else-end-line)

pub slice_bounds-read_mode-start : goal.slice_bounds-read_mode-start
slice_bounds-read_mode-start c =
    let h : c.second_tab-end.result + 1 ≤ length c.args.line.now = omega (arith, range (goal.at.slice_bounds-read_mode-start c).Else-end-line) in
    h

-- what is left to say, behind the number
behind-vars : (c : In_ok-vars) → let line = c.args.line.now in let end = c.second_tab-end.result in
    first_of (given (behind (drop 1 line)) (two opening_in)) ≡ first_of (given (mode_in (drop (end + 1) line)) (λ m. some (record { vars = c.in_ok-vars.vars; mode = m })))
behind-vars c =
    let line = c.args.line.now in
    let end = c.second_tab-end.result in
    rw (two_behind line c.second_tab-end.ensures opening_in opening_tab c.if-end-line.false, code_some (number (take (end - 2) (drop 2 line))) (sym c.in_ok-vars.ensures))

pub returns-in_err-mode : goal.returns-in_err-mode
returns-in_err-mode c =
    let rest = to_end (c.second_tab-end.result + 1) c.args.line.now in
    c.from_residual-in_err-mode.ensures ∙ opening_told c.in_ok-vars.vars _ {r = None} (c.in_err-mode.ensures ∙ rw rest) ∙ sym (behind-vars (goal.at.returns-in_err-mode c).In_ok-vars)

pub returns : goal.returns
returns c =
    let rest = to_end (c.second_tab-end.result + 1) c.args.line.now in
    opening_told c.in_ok-vars.vars _ {r = Some c.in_ok-mode.mode} (c.in_ok-mode.ensures ∙ rw rest) ∙ sym (behind-vars (goal.at.returns c).In_ok-vars)
