-- `move_to_front::creation::order::lit_order` meets its contract: counts and numbers, sorted side by side, are `lit_order`.
use Prim.Native.Nat.{ℕ}
use mathlib.Core.Path.{sym, ap, ◌∙◌}
use mathlib.Core.List.{List}
use lib.ListN.{replicate}
use Rattle.laws.specs.InPlace.{up_to}
use Rattle.vmtf.specs.Vmtf.{count_lits}
use Rattle.vmtf.specs.Laws.{order_from}
use Rattle.move_to_front.proofs.creation.order.lit_order.Goals as goal

pub count_lits-requires : goal.count_lits-requires
count_lits-requires c = let f = c.fill.ensures in record { literals = rw f.len c.requires.literals; counts_value = f.after (λ y e. e) ∙ ap (λ k. replicate k 0) (sym f.len) }

pub returns : goal.returns
returns c =
    let counted = c.count_lits.ensures ∙ ap (λ (l : List ℕ). count_lits l c.args.codes.now) (c.fill.ensures.after (λ y e. e)) in
    let numbered = c.number.ensures ∙ ap up_to c.requires.counts_len_bound.1 in
    order_from _ _ _ _ _ _ counted numbered c.sort_reverse.ensures
