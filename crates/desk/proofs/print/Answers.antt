-- `desk::print` meets its contract: a count below the refusals is that of the answers, and any other is a refusal, told where there is room for its line.
use Prim.Native.Nat.{◌<◌, ◌≤◌}
use native.Mathlib.Omega.{arith}
use lib.ListN.{length}
use Rattle.desk.specs.Ran.{refusal_room, printed_fits, printed_answers, printed_no_room, printed_refusal}
use Rattle.desk.proofs.print.Goals as goal

pub returns-then-r : goal.returns-then-r
returns-then-r c =
    let e = c.run-r.ensures in
    let g = printed_answers c.args.sheet.now c.args.out.now e.fact c.if-r.true in
    record { fact = g; fact_2 = λ two. omega (arith, g.0, printed_fits c.args.sheet.now two); fact_3 = e.fact_2 }

pub returns-then-out : goal.returns-then-out
returns-then-out c =
    let r = c.run-r in
    let few : length c.args.out.now < refusal_room = omega (arith, c.if-out.true, r.auto.out) in
    record { fact = printed_no_room c.args.sheet.now c.args.out.now r.ensures.fact few; fact_2 = λ two. absurd (omega (arith, few, two)); fact_3 = r.ensures.fact_2 }

pub returns : goal.returns
returns c =
    let r = c.run-r in
    let two : refusal_room ≤ length c.args.out.now = omega (arith, c.if-out.false, r.auto.out) in
    record { fact = printed_refusal c.args.sheet.now c.args.out.now r.ensures.fact c.if-r.false two; fact_2 = λ _. two; fact_3 = r.ensures.fact_2 }
