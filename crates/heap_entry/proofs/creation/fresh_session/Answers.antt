-- `heap_entry::creation::fresh_session` meets its contract: a refusal is the answer; without one the slices have the lengths that creation needs.
use Rattle.std.proofs.Common.{◌∙◌, ap}
use Rattle.std.proofs.lemmas.Result.{err_from_is_err_and}
use Rattle.trail.specs.Trail.{fresh_trail}
use Rattle.vsids.specs.Vsids as vsids
use Rattle.choosers.specs.Heap.{heap_ops}
use Rattle.session.specs.Sizes.{sizes_right}
use Rattle.session.proofs.Checks.{size_refused_by, size_passed, size_accepted, opened}
use Rattle.session.specs.Mode.{made}
use Rattle.heap_session.specs.Held.{session_in, vsids_held}
use Rattle.heap_entry.specs.Checked.{heap_sized}
use Rattle.heap_entry.proofs.creation.fresh_session.Goals as goal

pub returns-in_err-size_refusal-clause-answered : goal.returns-in_err-size_refusal-clause-answered
unfolding made
returns-in_err-size_refusal-clause-answered c =
    let p = err_from_is_err_and c.from_residual.result c.from_residual.ensures.1 in
    rw (p.1, p.2) (size_refused_by _ _ _ _ _ _ (rw (c.lengths_ok-lengths.ensures, c.view.ensures.trail, c.view.ensures.vsids) at c.in_err-size_refusal.ensures))

pub make_fresh-requires : goal.make_fresh-requires
make_fresh-requires c =
    let p = size_passed _ _ _ (rw (c.lengths_ok-lengths.ensures, c.view.ensures.trail, c.view.ensures.vsids) at c.in_ok-size_refusal.ensures) in
    let z = (sizes_right _ _ _ _ _ _ _ _ p.lengths_ok_lem).0 in
    let l = heap_sized c.args.n (vsids_held c.args.session.now) z.chooser in
    record {
      lengths = rw z.trail.values_long z.trail;
      same_lengths = rw l.activity_long (record { small = p.small; values_long = z.trail.values_long; heap_long = l.heap_long; indices_long = l.indices_long; decision_long = l.decision_long });
    }

pub returns-clause-answered : goal.returns-clause-answered
unfolding made
returns-clause-answered c =
    let a = c.args in
    let e = rw (c.lengths_ok-lengths.ensures, c.view.ensures.trail, c.view.ensures.vsids) at c.in_ok-size_refusal.ensures in
    let z = sizes_right _ _ _ _ _ _ _ _ (size_passed _ _ _ e).lengths_ok_lem in
    let l = heap_sized a.n (vsids_held a.session.now) z.0.chooser in
    let lits = a.list.lits.now in
    let ends = a.list.ends.now in
    rw (size_accepted _ _ _ _ e)
    (opened a.n a.clauses (heap_ops a.n lits ends) (session_in a.n a.clauses lits ends a.session.now) _ _ (c.make_fresh.ensures.trail ∙ ap fresh_trail z.0.trail.values_long) (c.make_fresh.ensures.vsids ∙ ap vsids.new l.activity_long))
