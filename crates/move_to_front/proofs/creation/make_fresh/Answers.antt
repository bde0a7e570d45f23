-- `creation::make_fresh`: the order has as many variables as the slices have places, and is linked in them.
use Prim.Native.Nat.{ℕ}
use mathlib.Core.Path.{◌≡◌, ap, ◌∙◌}
use mathlib.Core.List.{List}
use Rattle.vmtf.specs.Vmtf.{lit_order, make_linked_list, new}
use Rattle.vmtf.specs.Laws.{lit_ordering}
use Rattle.move_to_front.proofs.creation.make_fresh.Goals as goal

-- the counts are as many as the variables
order_is : (codes order : List ℕ) (m n : ℕ) → m ≡ n → order ≡ lit_order m codes → order ≡ lit_order n codes
order_is codes order m n long e = e ∙ ap (λ (k : ℕ). lit_order k codes) long

pub make_linked_list-requires-clause-ordering : goal.make_linked_list-requires-clause-ordering
make_linked_list-requires-clause-ordering c = rw (order_is _ _ _ _ c.requires.fresh.counts_long c.lit_order.ensures) (lit_ordering _ _)

pub returns-clause-made : goal.returns-clause-made
unfolding new
returns-clause-made c = c.make_linked_list.ensures.made ∙ ap make_linked_list (order_is _ _ _ _ c.requires.fresh.counts_long c.lit_order.ensures)
