-- `make_linked_list`: the slices are filled as `Default` fills nodes, then linked.
use mathlib.Core.Path.{ap, ◌∙◌}
use lib.ListN.{length, replicate}
use Rattle.lit.specs.Numbers.{NONE}
use Rattle.vmtf.specs.Laws.{make_from}
use Rattle.move_to_front.proofs.creation.make_linked_list.Goals as goal

pub returns-clause-made : goal.returns-clause-made
returns-clause-made c =
    let s = c.requires in
    let n = length c.args.list.now.next.now in
    let a = c.fill.ensures.after (λ y e. e) in
    let b = c.fill-2.ensures.after (λ y e. e) ∙ ap (λ k. replicate k NONE) s.even.0 in
    let t = c.fill-3.ensures.after (λ y e. e) ∙ ap (λ k. replicate k 0) s.even.1 in
    c.link.ensures.linked ∙ make_from n _ _ _ _ _ s.ordering.long a b t c.var_at-start.ensures
