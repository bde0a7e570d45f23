-- `list_entry::creation::fresh_session_unaided` meets its contract: a refusal is the answer; without one the slices have the lengths that creation needs.
use Rattle.std.proofs.Common.{◌∙◌, ap, arith}
use Rattle.std.proofs.lemmas.Result.{err_from_is_err_and}
use Rattle.formula.specs.Good.{clauses_facts}
use Rattle.trail.specs.Trail.{fresh_trail}
use Rattle.vmtf.specs.Vmtf as vmtf
use Rattle.choosers.specs.List.{list_ops}
use Rattle.session.specs.Sizes.{sizes_right}
use Rattle.session.proofs.Checks.{size_refused_by, size_passed, size_accepted, opened}
use Rattle.session.specs.Mode.{made}
use Rattle.list_session.specs.Memory.{vmtf_held, session_in}
use Rattle.list_entry.specs.Checked.{list_sized}
use Rattle.list_entry.proofs.creation.fresh_session_unaided.Goals as goal

pub returns-in_err-size_refusal-clause-answered : goal.returns-in_err-size_refusal-clause-answered
unfolding made
returns-in_err-size_refusal-clause-answered c =
    let p = err_from_is_err_and c.from_residual.result c.from_residual.ensures.1 in
    rw (p.1, p.2) (size_refused_by _ _ _ _ _ _ (rw (c.lengths_ok-lengths.ensures, c.view.ensures.trail, c.view.ensures.list) at c.in_err-size_refusal.ensures))

pub make_fresh_unaided-requires : goal.make_fresh_unaided-requires
make_fresh_unaided-requires c =
    let p = size_passed _ _ _ (rw (c.lengths_ok-lengths.ensures, c.view.ensures.trail, c.view.ensures.list) at c.in_ok-size_refusal.ensures) in
    let z = sizes_right _ _ _ _ _ _ _ _ p.lengths_ok_lem in
    let l = list_sized c.args.n (vmtf_held c.args.session.now) z.0.chooser in
    let g = (clauses_facts _ _ _).0 p.clauses_ok_lem in
    rw l.next_long (record {
      trail = z.0.trail;
      even = (l.prev_long, l.ts_long);
      literals = (p.small, record { few = omega (arith, g.list.few_literals_lem); vars = g.below });
    })

pub returns-clause-answered : goal.returns-clause-answered
unfolding made
returns-clause-answered c =
    let a = c.args in
    let e = rw (c.lengths_ok-lengths.ensures, c.view.ensures.trail, c.view.ensures.list) at c.in_ok-size_refusal.ensures in
    let z = sizes_right _ _ _ _ _ _ _ _ (size_passed _ _ _ e).lengths_ok_lem in
    let l = list_sized a.n (vmtf_held a.session.now) z.0.chooser in
    let lits = a.list.lits.now in
    rw (size_accepted _ _ _ _ e)
    (opened a.n a.clauses (list_ops a.n lits) (session_in a.n a.clauses lits a.session.now) _ _ (c.make_fresh_unaided.ensures.trail ∙ ap fresh_trail l.next_long) (c.make_fresh_unaided.ensures.list ∙ ap (λ k. vmtf.new k lits) l.next_long))
