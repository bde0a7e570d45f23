-- `desk::opening::open` meets its contract: a first line with too many variables is refused; else it is answered, and so are the lines behind it.
use Prim.Native.Nat.{◌≤◌, ◌<◌}
use native.Mathlib.Omega.{arith}
use Rattle.lit.specs.Numbers.{max_vars}
use Rattle.sheet.proofs.Steps.{line_inside}
use Rattle.sheet.proofs.Opening.{first_fits, first_room}
use Rattle.desk.specs.Opening.{first_refused, first_opened}
use Rattle.desk.specs.Positions.{untouched}
use borrow.Author.Rules.{rules}
use Rattle.desk.proofs.opening.open.Goals as goal

pub answer-requires : goal.answer-requires
answer-requires c = first_fits c.requires.0 c.requires.1 4 (omega arith)

pub returns-then-o-gt-MAX_VARS : goal.returns-then-o-gt-MAX_VARS
returns-then-o-gt-MAX_VARS c =
    let many : max_vars < c.args.o.vars = search rules in
    let w = c.answer.ensures in
    record { wrote = first_refused c.args.o.mode c.args.o.vars many _ w; same_from = untouched }

pub answer-at-requires : goal.answer-at-requires
answer-at-requires c = first_fits c.requires.0 c.requires.1 0 (omega arith)

pub behind-p-requires : goal.behind-p-requires
behind-p-requires c =
    (c.requires.1, omega arith, omega (arith, c.requires.2, c.requires.0.short, line_inside c.requires.0 c.requires.1))

pub with_positions-requires : goal.with_positions-requires
with_positions-requires c =
    let few : c.args.o.vars ≤ max_vars = search rules in
    rw c.behind-p.ensures (first_room c.requires.0 c.requires.1 c.requires.2 c.answer-at.ensures, few)

pub returns : goal.returns
returns c =
    let few : c.args.o.vars ≤ max_vars = search rules in
    let e = c.with_positions.ensures in
    record { wrote = first_opened c.args.o.mode c.args.o.vars few c.args.sheet.now c.args.count c.args.end c.answer-at.ensures (rw c.behind-p.ensures at e.ended); same_from = e.same_from }
