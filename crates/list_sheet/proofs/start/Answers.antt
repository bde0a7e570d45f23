-- `list_sheet::start` meets its contract: the slices have the lengths that creation needs.
use Prim.Native.Nat.{ℕ}
use mathlib.Core.Path.{ap, ◌∙◌}
use Rattle.trail.specs.Trail.{fresh_trail}
use Rattle.vmtf.specs.Vmtf.{new}
use Rattle.list_sheet.proofs.start.Goals as goal

pub make_fresh_unaided-requires : goal.make_fresh_unaided-requires
make_fresh_unaided-requires c =
    let long = c.requires.lengths in
    rw long.1 (record { trail = long.0; even = (long.2, long.3); literals = c.requires.n_le_max_vars })

pub returns-clause-trail : goal.returns-clause-trail
returns-clause-trail c = c.make_fresh_unaided.ensures.trail ∙ ap fresh_trail c.requires.lengths.1

pub returns-clause-list : goal.returns-clause-list
returns-clause-list c = c.make_fresh_unaided.ensures.list ∙ ap (λ (k : ℕ). new k c.args.lits.now) c.requires.lengths.1
