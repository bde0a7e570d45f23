-- `sheet::clauses::next_is_clause` meets its contract: a line's first byte is the first byte from its place on.
use Prim.Native.Nat.{ℕ}
use mathlib.Core.Path.{sym, ap, ◌∙◌}
use mathlib.Core.List.{List}
use native.Mathlib.Omega.{arith}
use borrow.Author.Tests.{le-ltb}
use lib.ListN.{drop}
use Rattle.forms.specs.Forms.{begins_clause}
use Rattle.sheet.specs.Running.{next_clause}
use Rattle.laws.specs.Parts.{to_end}
use Rattle.sheet.proofs.Steps.{lines_over, lines_more}
use Rattle.sheet.proofs.ClauseLines.{begins_front}
use Rattle.sheet.proofs.clauses.next_is_clause.Goals as goal

pub returns-then-p-gt0 : goal.returns-then-p-gt0
returns-then-p-gt0 c =
    c.begins_clause.ensures
    ∙ ap begins_clause (to_end c.args.p.from c.args.sheet.now)
    ∙ sym (begins_front (drop c.args.p.from c.args.sheet.now))
    ∙ sym (ap (λ (ls : List (List ℕ)). next_clause ls) (lines_more c.requires.1 c.if-p-gt0.true))

pub returns-else-p-gt0 : goal.returns-else-p-gt0
returns-else-p-gt0 c =
    rw (lines_over c.requires.1 (omega (arith, c.if-p-gt0.false))) (le-ltb 0 c.args.p.left c.if-p-gt0.false)
