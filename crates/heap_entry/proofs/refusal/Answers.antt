-- `heap_entry::refusal` meets its contract: the state is checked where the sizes are right.
use Rattle.std.proofs.Common.{sym}
use Rattle.std.proofs.lemmas.Result.{err_from_is_err_and}
use Rattle.vsids.specs.View.{vsids_seen}
use Rattle.book.specs.Session.{need}
use Rattle.session.specs.Entry.{checked}
use Rattle.session.proofs.Checks.{size_refused_by, size_passed, size_accepted}
use Rattle.session.specs.Sizes.{sizes_right}
use Rattle.heap_entry.specs.Checked.{heap_sized}
use Rattle.heap_entry.proofs.refusal.Goals as goal

pub returns-in_err-size_refusal : goal.returns-in_err-size_refusal
unfolding checked
returns-in_err-size_refusal c =
    let p = err_from_is_err_and c.from_residual.result c.from_residual.ensures.1 in
    rw (p.1, p.2) ((size_refused_by _ _ _ _ tt _ (rw c.lengths_ok-lengths.ensures at c.in_err-size_refusal.ensures)).status)

pub check-requires : goal.check-requires
check-requires c =
    let p = size_passed _ _ _ (rw c.lengths_ok-lengths.ensures at c.in_ok-size_refusal.ensures) in
    let z = (sizes_right _ _ _ _ _ _ _ _ p.lengths_ok_lem).0 in
    let l = heap_sized c.args.n (vsids_seen c.args.lent.vsids) z.chooser in
    record { lengths = rw z.trail.values_long z.trail; same_lengths = rw l.activity_long (record { small = p.small; values_long = z.trail.values_long; heap_long = l.heap_long; indices_long = l.indices_long; decision_long = l.decision_long }) }

pub returns-then-not-check : goal.returns-then-not-check
unfolding checked need
returns-then-not-check c = rw (size_accepted _ _ _ _ (rw c.lengths_ok-lengths.ensures at c.in_ok-size_refusal.ensures), sym c.if-not-check.ensures)

pub returns : goal.returns
unfolding checked need
returns c = rw (size_accepted _ _ _ _ (rw c.lengths_ok-lengths.ensures at c.in_ok-size_refusal.ensures), sym c.if-not-check.ensures)
