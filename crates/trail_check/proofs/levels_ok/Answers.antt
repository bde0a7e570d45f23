-- `trail_check::levels_ok` meets its contract: the rows passed so far have their levels, and what is left starts at the next row.
use Rattle.std.proofs.Common.{◌∙◌, sym, arith}
use Rattle.laws.specs.Every.{every_all}
use Rattle.trail_check.specs.Checked.{Openings}
use Rattle.trail_check.proofs.Checked.{opened_right}
use Rattle.trail_check.proofs.Rows.{row_more, row_fails, row_last}
use Rattle.trail_check.proofs.levels_ok.Goals as goal
use Rattle.trail_check.proofs.levels_ok.Goals.{Start}

pub loop-l-init : goal.loop-l-init
loop-l-init c = record { passed = every_all _ 0 (λ i b. absurd (omega arith)); at = omega arith; low = λ k b. absurd (omega arith) }

-- the opened levels rise, below the trail length
openings : (c : Start) → Openings c.args.t.opened.now c.args.t.at.level c.args.t.at.len
openings c = (opened_right _ _ _).0 c.requires.len_value

pub row_ok-requires : goal.row_ok-requires
row_ok-requires c =
    let b = (openings (goal.at.row_ok-requires c).Start).below c.loop-l.l (omega arith) in
    record { to_in_bounds = omega arith; by_index = λ i h. c.requires.by_index i (omega arith) }

pub returns-then-not-row_ok : goal.returns-then-not-row_ok
returns-then-not-row_ok c =
    sym (row_fails c.loop-l.invariant (openings (goal.at.returns-then-not-row_ok c).Start) (omega arith) (sym c.if-not-row_ok.ensures))

pub loop-l-preserved : goal.loop-l-preserved
loop-l-preserved c =
    row_more c.loop-l.invariant (openings (goal.at.loop-l-preserved c).Start) (omega arith) (sym c.if-not-row_ok.ensures)

pub returns : goal.returns
returns c = c.row_ok-2.ensures ∙ row_last c.loop-l.invariant _ (omega arith)
