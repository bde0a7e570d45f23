-- `forms::second_tab` meets its contract.
use Rattle.std.proofs.Common.{◌≡◌, ℕ, ◌≤◌, List, length, drop, sym, ap, ◌∙◌, arith, length-drop}
use Rattle.forms.specs.Text.{tab, find}
use Rattle.forms.specs.TextLaws.{find_length}
use Rattle.forms.specs.Behind.{tabbed_long, second_tab}
use Rattle.laws.specs.Parts.{to_end}
use Rattle.forms.proofs.second_tab.Goals as goal
use Rattle.forms.proofs.second_tab.Goals.{After-find, Else-not-has_fields}

long : (c : Else-not-has_fields) → 2 ≤ length c.args.line.now
long c = tabbed_long c.args.line.now (sym c.has_fields.ensures ∙ c.if-not-has_fields.false)

found : (c : After-find) → c.find.result ≡ find tab (drop 2 c.args.line.now)
found c = c.find.ensures ∙ ap (λ (bs : List ℕ). find tab bs) (to_end 2 c.args.line.now)

pub returns-then-not-has_fields : goal.returns-then-not-has_fields
unfolding second_tab
returns-then-not-has_fields c = rw (sym c.has_fields.ensures ∙ c.if-not-has_fields.true)

pub slice_bounds-find-count : goal.slice_bounds-find-count
slice_bounds-find-count c = long c

pub slice_bounds-find-start : goal.slice_bounds-find-start
slice_bounds-find-start c = long c

pub overflow_add-result : goal.overflow_add-result
overflow_add-result c =
    let line = c.args.line.now in
    omega (arith, found c, long (goal.at.overflow_add-result c).Else-not-has_fields, find_length tab (drop 2 line), length-drop 2 line, c.well_formed)

pub returns : goal.returns
unfolding second_tab
returns c = rw (sym c.has_fields.ensures ∙ c.if-not-has_fields.false, found c)
