-- `saved_text::form::clause_section` meets its contract: each turn reads a clause into what is left of the codes, and clauses that stand there go on behind it.
use Prim.Native.Nat.{ℕ, ◌≤◌}
use Rattle.std.specs.Prelude.{min}
use Rattle.std.proofs.Common.{rules}
use Rattle.saved_text.specs.CursorLaws.{row_long}
use Rattle.saved_text.specs.FormLaws.{no_clauses, section_bad, section_next, section_ends, put_back}
use lib.ListN.{length, take}
use mathlib.Core.List.{◌++◌}
use mathlib.Core.Path.{◌≡◌, refl, ap, ◌∙◌}
use native.Mathlib.Omega.{arith}
use Rattle.saved_text.proofs.form.clause_section.Goals as goal
use Rattle.saved_text.proofs.form.clause_section.Goals.{After-min-start}

-- the place from which the codes have room
lower : (c : After-min-start) → c.min-start.result ≡ min c.loop-at.literals (length c.loop-at.lits)
lower c = search rules

least : (c : After-min-start) → c.min-start.result ≤ length c.loop-at.lits
least c = omega (arith, lower c)

pub loop-at-init : goal.loop-at-init
loop-at-init c = (refl, refl, no_clauses _ _ c.requires.0 _ _)

pub returns-in_err-clause : goal.returns-in_err-clause
returns-in_err-clause c = rw c.from_residual.ensures (section_bad _ _ _ _ _ _ _ _ c.loop-at.invariant.2 c.loop-at-test.true c.if-text-at-eq-CLAUSE.true (rw c.in_err-clause.was at c.read_row.ensures) _ _)

pub overflow_add-literals : goal.overflow_add-literals
overflow_add-literals c = let i = c.read_row.ensures.sound _ c.in_ok-clause.was in omega (arith, c.loop-at.invariant.2.few, row_long i, i.within, c.well_formed)

pub loop-at-smaller : goal.loop-at-smaller
loop-at-smaller c = let i = c.read_row.ensures.sound _ c.in_ok-clause.was in omega (arith, row_long i, i.within)

pub loop-at-preserved : goal.loop-at-preserved
loop-at-preserved c =
    let l = c.loop-at in
    let p = put_back c.loop-at.lits c.read_row.new.out c.min-start.result (least (goal.at.loop-at-preserved c).After-min-start) c.read_row.auto.out in (
      p.1 ∙ l.invariant.0,
      c.put_end.auto.ends ∙ l.invariant.1,
      section_next _ _ _ _ _ _ _ _ l.invariant.2 c.loop-at-test.true c.if-text-at-eq-CLAUSE.true (rw c.in_ok-clause.was at c.read_row.ensures) c.max-greatest.ensures p.1 (λ h. p.0 ∙ ap (λ (k : ℕ). take k l.lits ++ c.read_row.new.out) (omega (arith, lower (goal.at.loop-at-preserved c).After-min-start))) c.put_end.ensures,
    )

pub returns-else-text-at-eq-CLAUSE : goal.returns-else-text-at-eq-CLAUSE
returns-else-text-at-eq-CLAUSE c = section_ends _ _ _ _ _ _ _ _ c.loop-at.invariant.2 (λ h e. c.if-text-at-eq-CLAUSE.false e)

pub returns-after-loop-at : goal.returns-after-loop-at
returns-after-loop-at c = section_ends _ _ _ _ _ _ _ _ c.loop-at.invariant.2 (λ h e. omega (arith, c.loop-at-test.false))
