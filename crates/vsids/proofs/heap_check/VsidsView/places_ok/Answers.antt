-- `places_ok` meets its contract: the test of every place is that of the places in use and that of the others.
use mathlib.Core.Path.{◌≡◌, sym, ◌∙◌}
use mathlib.Core.Bool.{◌&&◌}
use lib.ListN.{length}
use Rattle.laws.specs.Every.{every}
use Rattle.lit.specs.Unused.{unused_ok}
use Rattle.vsids.specs.Vsids.{places, before}
use Rattle.vsids.specs.View.{vsids_seen}
use Rattle.vsids.specs.Check.{member_ok, place_ok}
use Rattle.vsids.proofs.heap_check.Branches.{split_places}
use Rattle.vsids.proofs.heap_check.VsidsView.places_ok.Goals as goal
use Rattle.vsids.proofs.heap_check.VsidsView.places_ok.Goals.{Start}

split : (c : Start) → let h = vsids_seen c.args.self in let n = length h.activity in
    (every (member_ok n (before h) (places h)) h.len && unused_ok h.heap h.len) ≡ every (place_ok n h.len (before h) (places h)) n
split c = split_places _ _ _ _ c.requires.len_in_bounds c.requires.lengths.1.0

pub returns-then-members_ok : goal.returns-then-members_ok
returns-then-members_ok c = c.unused_ok.ensures ∙ (rw (sym c.members_ok.ensures ∙ c.if-members_ok.true) at (split (goal.at.returns-then-members_ok c).Start))

pub returns-else-members_ok : goal.returns-else-members_ok
returns-else-members_ok c = c.if-members_ok.false ∙ (rw (sym c.members_ok.ensures ∙ c.if-members_ok.false) at (split (goal.at.returns-else-members_ok c).Start))
