-- `forms::read_enqueue` meets its contract: the second tab lies between the code and the reason.
use Rattle.std.proofs.Common.{◌+◌, ◌-◌, ◌<◌, ◌≤◌, length, take, drop, sym, ◌∙◌, arith}
use Rattle.forms.specs.Text.{number}
use Rattle.forms.specs.Forms.{enqueue_in, reason_in}
use Rattle.laws.specs.Parts.{to_end}
use Rattle.forms.specs.Lines.{second_range, two_none, two_behind, enqueue_tab}
use Rattle.laws.specs.Options.{code_none, code_some}
use Rattle.forms.proofs.read_enqueue.Goals as goal
use Rattle.forms.proofs.read_enqueue.Goals.{Else-end-line}

-- where the second tab lies
range : (c : Else-end-line) → (2 ≤ c.second_tab-end.result) × (c.second_tab-end.result < length c.args.line.now)
range c = second_range c.args.line.now c.second_tab-end.ensures c.if-end-line.false

pub returns-then-end-line : goal.returns-then-end-line
returns-then-end-line c = rw (two_none c.args.line.now c.second_tab-end.ensures enqueue_in c.if-end-line.true)

pub slice_bounds-number-count : goal.slice_bounds-number-count
slice_bounds-number-count c = (range c).0

pub slice_bounds-number-start : goal.slice_bounds-number-start
slice_bounds-number-start c = (range c).0

pub slice_bounds-number-end : goal.slice_bounds-number-end
slice_bounds-number-end c = let h = (range c).1 in omega arith

pub returns-in_err-code : goal.returns-in_err-code
returns-in_err-code c =
    let line = c.args.line.now in
    let end = c.second_tab-end.result in
    rw (two_behind line c.second_tab-end.ensures enqueue_in enqueue_tab c.if-end-line.false, code_none (number (take (end - 2) (drop 2 line))) (sym c.in_err-code.ensures), c.from_residual.ensures)

pub slice_bounds-read_reason-count : goal.slice_bounds-read_reason-count
slice_bounds-read_reason-count c = omega (arith, range (goal.at.slice_bounds-read_reason-count c).Else-end-line)

pub slice_bounds-read_reason-start : goal.slice_bounds-read_reason-start
slice_bounds-read_reason-start c =
    let h : c.second_tab-end.result + 1 ≤ length c.args.line.now = omega (arith, range (goal.at.slice_bounds-read_reason-start c).Else-end-line) in
    h

pub returns-in_err-reason : goal.returns-in_err-reason
returns-in_err-reason c =
    let line = c.args.line.now in
    let end = c.second_tab-end.result in
    let bad = code_none (reason_in (drop (end + 1) line)) (sym (c.in_err-reason.ensures ∙ rw (to_end (end + 1) line))) in
    rw (two_behind line c.second_tab-end.ensures enqueue_in enqueue_tab c.if-end-line.false, code_some (number (take (end - 2) (drop 2 line))) (sym c.in_ok-code.ensures), bad, c.from_residual-in_err-reason.ensures)

pub returns : goal.returns
returns c =
    let line = c.args.line.now in
    let end = c.second_tab-end.result in
    let is = code_some (reason_in (drop (end + 1) line)) (sym (c.in_ok-reason.ensures ∙ rw (to_end (end + 1) line))) in
    rw (two_behind line c.second_tab-end.ensures enqueue_in enqueue_tab c.if-end-line.false, code_some (number (take (end - 2) (drop 2 line))) (sym c.in_ok-code.ensures), is)
