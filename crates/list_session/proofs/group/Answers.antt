-- `group`: a good list is safe to move in and gives each of its variables a stamp of its own.
use mathlib.Core.Path.{sym, ◌∙◌}
use native.Mathlib.Omega.{arith}
use Rattle.vmtf.specs.Good.{good_safe}
use Rattle.vmtf.specs.Sort.{group_apart}
use Rattle.book.specs.Session.{call, tuned}
use Rattle.session.proofs.Outcomes.{failed, passed, rechosen}
use Rattle.choosers.specs.List.{below_each}
use Rattle.list_session.proofs.group.Goals as goal

pub returns-then-not-vars_below-clause-answered : goal.returns-then-not-vars_below-clause-answered
unfolding call
returns-then-not-vars_below-clause-answered c = λ m lits t. failed _ (sym c.vars_below.ensures ∙ c.if-not-vars_below.true)

pub bump_vec_of_vars-requires-clause-safe : goal.bump_vec_of_vars-requires-clause-safe
bump_vec_of_vars-requires-clause-safe c = let g = c.requires.in_order.1 in rw g.linked.next_long (good_safe g)

pub bump_vec_of_vars-requires-clause-group : goal.bump_vec_of_vars-requires-clause-group
bump_vec_of_vars-requires-clause-group c =
    let g = c.requires.in_order.1 in
    let vars = below_each _ _ (sym c.vars_below.ensures ∙ c.if-not-vars_below.false) in
    record {
      vars = λ i h. omega (arith, vars i h, g.ts_long);
      stamps_long = c.requires.stamps_len.0;
      order_long = c.requires.stamps_len.1;
      apart = group_apart g c.args.vars.now vars;
    }

pub returns-clause-answered : goal.returns-clause-answered
unfolding call tuned
returns-clause-answered c = λ m lits t. passed _ _ (sym c.vars_below.ensures ∙ c.if-not-vars_below.false) (rechosen c.bump_vec_of_vars.ensures.moved)
