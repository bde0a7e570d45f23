-- `bump_vec_of_vars`: the sorted group holds variables, and its moves are `move_all`.
use Prim.Native.Nat.{ℕ}
use mathlib.Core.Path.{ap, ◌∙◌}
use mathlib.Core.List.{List}
use native.Mathlib.Omega.{arith}
use Rattle.vmtf.specs.Vmtf.{vmtf_in, move_all, bump_vec_of_vars}
use Rattle.vmtf.specs.Sort.{by_stamp_vars}
use Rattle.move_to_front.proofs.bump_vec_of_vars.Goals as goal

pub move_all-requires-clause-vars : goal.move_all-requires-clause-vars
move_all-requires-clause-vars c =
    rw c.group_order.ensures (by_stamp_vars c.args.list.now.ts.now _ c.args.vars.now (λ i h. omega (arith, c.requires.group.vars i h, c.requires.safe.ts_long)))

pub returns-clause-moved : goal.returns-clause-moved
unfolding bump_vec_of_vars
returns-clause-moved c = c.move_all.ensures.moved ∙ ap (λ (vs : List ℕ). move_all vs (vmtf_in c.args.list.now)) c.group_order.ensures
