-- `saved_desk::opening::open` meets its contract: a first line with too many variables is refused; else the lines behind it are run, with slices for the clauses where there are any.
use Prim.Native.Nat.{◌+◌, ◌≤◌, ◌<◌}
use mathlib.Core.Path.{◌≡◌, sym, ◌∙◌}
use mathlib.Core.Bool.{false}
use native.Mathlib.Omega.{arith}
use lib.ListN.{length}
use Rattle.lit.specs.Numbers.{max_vars}
use Rattle.sheet.specs.Running.{lines_from}
use Rattle.sheet.proofs.Steps.{line_inside}
use Rattle.sheet.proofs.Opening.{second_room}
use Rattle.saved_desk.specs.New.{first_many, first_few}
use borrow.Author.Rules.{rules}
use Rattle.saved_desk.proofs.opening.open.Goals as goal

pub returns-then-o-gt-MAX_VARS : goal.returns-then-o-gt-MAX_VARS
returns-then-o-gt-MAX_VARS c =
    let many : max_vars < c.args.o.vars = search rules in
    rw (first_many c.args.o.mode c.args.o.vars (length c.args.text.now) (lines_from c.args.sheet.now (c.args.end + 1)) many) (c.refused_first.ensures c.args.text.now)

pub second-p-requires : goal.second-p-requires
second-p-requires c =
    (c.requires.1, omega (arith, c.requires.2, c.requires.0.short, line_inside c.requires.0 c.requires.1))

pub next_is_clause-requires : goal.next_is_clause-requires
next_is_clause-requires c =
    (c.args.out.now, rw c.second-p.ensures (second_room c.requires.0 c.requires.1 c.requires.2))

pub without_clauses-requires : goal.without_clauses-requires
without_clauses-requires c =
    let few : c.args.o.vars ≤ max_vars = search rules in
    let e : c.next_is_clause.result ≡ false = c.if-not-next_is_clause.true in
    record { room = (c.requires.0, c.requires.1, c.requires.2, few); end_value = sym (rw c.second-p.ensures at c.next_is_clause.ensures) ∙ e }

pub returns-then-not-next_is_clause : goal.returns-then-not-next_is_clause
returns-then-not-next_is_clause c =
    let few : c.args.o.vars ≤ max_vars = search rules in
    rw (first_few c.args.o.mode c.args.o.vars (length c.args.text.now) (lines_from c.args.sheet.now (c.args.end + 1)) few) c.without_clauses.ensures

pub returns-then-sheet-le-SHORT : goal.returns-then-sheet-le-SHORT
returns-then-sheet-le-SHORT c =
    let few : c.args.o.vars ≤ max_vars = search rules in
    rw (first_few c.args.o.mode c.args.o.vars (length c.args.text.now) (lines_from c.args.sheet.now (c.args.end + 1)) few) c.clauses_in.ensures

pub returns : goal.returns
returns c =
    let few : c.args.o.vars ≤ max_vars = search rules in
    rw (first_few c.args.o.mode c.args.o.vars (length c.args.text.now) (lines_from c.args.sheet.now (c.args.end + 1)) few) c.clauses_in-2.ensures
