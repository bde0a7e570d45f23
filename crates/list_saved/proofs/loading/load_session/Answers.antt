-- `list_saved::loading::load_session` meets its contract: what the text says, judged, restored and checked.
use Prim.Native.Nat.{◌≤◌}
use Rattle.laws.specs.Tests.{and_left}
use Rattle.list_saved.specs.Loading.{loads_none, loads_ready, loads_bad, loads_unfit, loads_failed, loads_all}
use Rattle.lit.specs.Numbers.{max_clauses, max_vars}
use Rattle.saved_text.specs.Reading.{read_text}
use borrow.Author.Tests.{leb-true}
use lib.Dec.{leb}
use lib.ListN.{length}
use mathlib.Core.Path.{refl, sym, subst, ◌∙◌}
use Rattle.list_session.specs.Check.{state_ok}
use Rattle.trail.specs.Memory.{Sized}
use Rattle.trail.specs.Trail.{Trail}
use Rattle.vmtf.specs.Vmtf.{Even}
use native.Mathlib.Omega.{arith}
use Rattle.list_saved.proofs.loading.load_session.Goals as goal

pub returns-in_err-c-clause-loads : goal.returns-in_err-c-clause-loads
returns-in_err-c-clause-loads c = rw (loads_none c.args.n (read_text c.args.text.now) _ _ _ _ _ _ _ c.in_err-c.ensures, c.from_residual.ensures) refl

pub returns-then-not-clauses_good-clause-loads : goal.returns-then-not-clauses_good-clause-loads
returns-then-not-clauses_good-clause-loads c = rw c.loaded_with.ensures (loads_bad c.requires.opens_with.0 c.requires.opens_with.1 c.in_ok-c.field-0.clauses c.in_ok-c.field-0.trail c.in_ok-c.field-0.list _ _ _ _ _ _ _ c.in_ok-c.ensures _ _ _ _ _ _ _ _ (sym c.clauses_good.ensures ∙ c.if-not-clauses_good.true))

pub returns-then-not-fitting-clause-loads : goal.returns-then-not-fitting-clause-loads
returns-then-not-fitting-clause-loads c = rw c.loaded_with-then-not-fitting.ensures (loads_unfit c.requires.opens_with.0 c.requires.opens_with.1 c.in_ok-c.field-0.clauses c.in_ok-c.field-0.trail c.in_ok-c.field-0.list _ _ _ _ _ _ _ c.in_ok-c.ensures _ _ _ _ _ _ _ _ (sym c.clauses_good.ensures ∙ c.if-not-clauses_good.false) (sym c.fitting.ensures ∙ c.if-not-fitting.true))

pub restore-requires : goal.restore-requires
restore-requires c =
    let w = c.requires in
    let l = w.lengths in
    let r = w.level_row_len in
    let fit = sym c.fitting.ensures ∙ c.if-not-fitting.false in
    let n = l.values_long in record {
      lengths = record { values_long = refl; levels_long = l.levels_long ∙ sym n; reasons_long = l.reasons_long ∙ sym n; trail_long = c.list_text.auto.trail ∙ l.trail_long ∙ sym n; opened_long = l.opened_long ∙ sym n };
      next_len = (w.next_len.0 ∙ sym n, w.next_len.1 ∙ sym n, w.next_len.2 ∙ sym n);
      level_row_len = (c.list_text.auto.level_row ∙ r.0 ∙ sym n, c.list_text.auto.reason_row ∙ r.1 ∙ sym n, c.list_text.auto.order ∙ r.2 ∙ sym n, c.list_text.auto.stamp_row ∙ r.3 ∙ sym n);
      ready = loads_ready c.requires.opens_with.0 c.requires.opens_with.1 c.in_ok-c.field-0.clauses c.in_ok-c.field-0.trail c.in_ok-c.field-0.list _ _ _ _ _ _ _ c.in_ok-c.ensures fit (c.list_text.auto.trail ∙ l.trail_long) (c.list_text.auto.level_row ∙ r.0) (c.list_text.auto.reason_row ∙ r.1) (c.list_text.auto.order ∙ r.2) (c.list_text.auto.stamp_row ∙ r.3) l.values_long;
    }

pub overflow_cast-c : goal.overflow_cast-c
overflow_cast-c c =
    let good = sym c.clauses_good.ensures ∙ c.if-not-clauses_good.false in
    let few : c.in_ok-c.field-0.clauses.count ≤ max_clauses = leb-true _ _ (and_left (leb c.in_ok-c.field-0.clauses.count max_clauses) _ good) in
    omega (arith, few)

pub check-requires : goal.check-requires
check-requires c =
    let w = c.requires in
    let h = w.next_len in
    let e = c.restore.ensures.same_lengths in
    let l = e.1 in
    let n = l.values_long ∙ w.lengths.values_long in
    let a = e.2 ∙ h.0 in record {
      lengths = subst (λ (t : Trail). Sized (length t.values) t) (sym c.view.ensures.trail) (record { values_long = refl; levels_long = l.levels_long ∙ sym l.values_long; reasons_long = l.reasons_long ∙ sym l.values_long; trail_long = l.trail_long ∙ sym l.values_long; opened_long = l.opened_long ∙ sym l.values_long });
      small = subst (λ (t : Trail). length t.values ≤ max_vars) (sym c.view.ensures.trail) (omega (arith, n, w.opens_with.1));
      even = subst Even (sym c.view.ensures.list) (e.3 ∙ h.1 ∙ sym a, e.4 ∙ h.2 ∙ sym a);
    }

pub returns-then-not-check-clause-loads : goal.returns-then-not-check-clause-loads
returns-then-not-check-clause-loads c =
    let w = c.requires in
    let l = w.lengths in
    let r = w.level_row_len in
    let fit = sym c.fitting.ensures ∙ c.if-not-fitting.false in
    rw c.loaded_with-then-not-check.ensures (loads_failed c.requires.opens_with.0 c.requires.opens_with.1 c.in_ok-c.field-0.clauses c.in_ok-c.field-0.trail c.in_ok-c.field-0.list _ _ _ _ _ _ _ c.in_ok-c.ensures _ _ _ _ _ _ _ _ (sym c.clauses_good.ensures ∙ c.if-not-clauses_good.false) fit (c.list_text.auto.trail ∙ l.trail_long) (c.list_text.auto.level_row ∙ r.0) (c.list_text.auto.reason_row ∙ r.1) (c.list_text.auto.order ∙ r.2) (c.list_text.auto.stamp_row ∙ r.3) l.values_long c.restore.ensures.restored (sym c.if-not-check.true ∙ c.check.ensures ∙ (λ i. state_ok c.in_ok-c.field-0.clauses.count (c.view.ensures.trail i) (c.view.ensures.list i))))

pub returns-clause-loads : goal.returns-clause-loads
returns-clause-loads c =
    let w = c.requires in
    let l = w.lengths in
    let r = w.level_row_len in
    let fit = sym c.fitting.ensures ∙ c.if-not-fitting.false in
    rw c.loaded_with-2.ensures (loads_all c.requires.opens_with.0 c.requires.opens_with.1 c.in_ok-c.field-0.clauses c.in_ok-c.field-0.trail c.in_ok-c.field-0.list _ _ _ _ _ _ _ c.in_ok-c.ensures _ _ _ _ _ _ _ _ (sym c.clauses_good.ensures ∙ c.if-not-clauses_good.false) fit (c.list_text.auto.trail ∙ l.trail_long) (c.list_text.auto.level_row ∙ r.0) (c.list_text.auto.reason_row ∙ r.1) (c.list_text.auto.order ∙ r.2) (c.list_text.auto.stamp_row ∙ r.3) l.values_long c.restore.ensures.restored (sym c.if-not-check.false ∙ c.check.ensures ∙ (λ i. state_ok c.in_ok-c.field-0.clauses.count (c.view.ensures.trail i) (c.view.ensures.list i))))

pub returns-in_err-c-clause-same_lengths : goal.returns-in_err-c-clause-same_lengths
returns-in_err-c-clause-same_lengths c =
    let l = c.requires.lengths in
    let h = c.requires.next_len in
    (record { values_long = l.values_long; levels_long = l.levels_long; reasons_long = l.reasons_long; trail_long = c.list_text.auto.trail ∙ l.trail_long; opened_long = l.opened_long }, h.0, h.1, h.2)

pub returns-then-not-clauses_good-clause-same_lengths : goal.returns-then-not-clauses_good-clause-same_lengths
returns-then-not-clauses_good-clause-same_lengths c =
    let l = c.requires.lengths in
    let h = c.requires.next_len in
    (record { values_long = l.values_long; levels_long = l.levels_long; reasons_long = l.reasons_long; trail_long = c.list_text.auto.trail ∙ l.trail_long; opened_long = l.opened_long }, h.0, h.1, h.2)

pub returns-then-not-fitting-clause-same_lengths : goal.returns-then-not-fitting-clause-same_lengths
returns-then-not-fitting-clause-same_lengths c =
    let l = c.requires.lengths in
    let h = c.requires.next_len in
    (record { values_long = l.values_long; levels_long = l.levels_long; reasons_long = l.reasons_long; trail_long = c.list_text.auto.trail ∙ l.trail_long; opened_long = l.opened_long }, h.0, h.1, h.2)

pub returns-then-not-check-clause-same_lengths : goal.returns-then-not-check-clause-same_lengths
returns-then-not-check-clause-same_lengths c =
    let h = c.requires.next_len in
    let e = c.restore.ensures.same_lengths in
    let l = e.1 in
    let n = c.requires.lengths.values_long in
    (record { values_long = l.values_long ∙ n; levels_long = l.levels_long ∙ n; reasons_long = l.reasons_long ∙ n; trail_long = l.trail_long ∙ n; opened_long = l.opened_long ∙ n }, e.2 ∙ h.0, e.3 ∙ h.1, e.4 ∙ h.2)

pub returns-clause-same_lengths : goal.returns-clause-same_lengths
returns-clause-same_lengths c =
    let h = c.requires.next_len in
    let e = c.restore.ensures.same_lengths in
    let l = e.1 in
    let n = c.requires.lengths.values_long in
    (record { values_long = l.values_long ∙ n; levels_long = l.levels_long ∙ n; reasons_long = l.reasons_long ∙ n; trail_long = l.trail_long ∙ n; opened_long = l.opened_long ∙ n }, e.2 ∙ h.0, e.3 ∙ h.1, e.4 ∙ h.2)
