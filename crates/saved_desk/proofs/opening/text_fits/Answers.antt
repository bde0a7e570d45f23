-- `saved_desk::opening::text_fits` meets its contract: what the clause lines count is the clause list of the session.
use Prim.Native.Nat.{ℕ}
use mathlib.Core.Path.{sym, ap, ◌∙◌}
use mathlib.Core.List.{[]}
use native.Mathlib.Omega.{arith}
use borrow.Author.Tests.{le-leb}
use lib.Dec.{leb}
use Rattle.sheet.specs.Sheet.{clause_lines}
use Rattle.sheet.specs.Running.{lines_from}
use Rattle.sheet.proofs.ClauseLines.{listed_good}
use Rattle.sheet.proofs.Opening.{no_clauses}
use Rattle.saved_sheet.specs.Sheets.{text_room}
use Rattle.saved_desk.specs.New.{room_behind, room_most}
use Rattle.saved_desk.proofs.opening.text_fits.Goals as goal

pub returns-then-longest-space : goal.returns-then-longest-space
returns-then-longest-space c =
    let ls = lines_from c.args.sheet.now c.args.p.from in
    sym (le-leb (room_behind c.args.n ls) c.args.space (omega (arith, room_most c.args.n ls, c.longest.ensures, c.if-longest-space.true)))

pub longest-requires-2 : goal.longest-requires-2
longest-requires-2 c =
    let g = listed_good c.args.n (clause_lines (lines_from c.args.sheet.now c.args.p.from)) ([], []) (no_clauses c.args.n) in
    let e = c.count_clauses-s.ensures in
    (c.requires.0, omega (arith, e.1, g.list.few_clauses), omega (arith, e.0, g.list.few_literals_lem))

pub returns : goal.returns
returns c =
    let e = c.count_clauses-s.ensures in
    ap (λ (k : ℕ). leb k c.args.space) (c.longest-2.ensures ∙ (λ i. text_room c.args.n (e.1 i) (e.0 i)))
