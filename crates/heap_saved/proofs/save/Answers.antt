-- `heap_saved::save` meets its contract: a refusal is the answer; without one the session is good, and its text is written where it fits.
use Prim.Native.Nat.{ℕ}
use mathlib.Core.Path.{◌≡◌, sym, ap, ◌∙◌}
use mathlib.Core.List.{List}
use native.Mathlib.Omega.{arith}
use Rattle.std.specs.Prelude.{Err}
use Rattle.std.proofs.Common.{rules}
use lib.Dec.{leb}
use lib.ListN.{length}
use Rattle.lit.specs.Refusals.{refusal_number, refusal_above, status_of}
use Rattle.book.specs.Session.{Session}
use Rattle.choosers.specs.Heap.{heap_ops}
use Rattle.heap_session.specs.Memory.{session_of}
use Rattle.heap_entry.specs.Entry.{heap_mode}
use Rattle.saved_text.specs.Saved.{text_of}
use Rattle.saved_state.specs.Written.{saved_heap}
use Rattle.saved_state.specs.Wrote.{wrote_refused, wrote_none, wrote_all}
use Rattle.heap_saved.specs.Pieces.{session_text, session_text_lem, Lines, session_lines, lent_savable}
use Rattle.heap_saved.proofs.save.Goals as goal
use Rattle.heap_saved.proofs.save.Goals.{In_ok-refusal, Start}

-- the session that was lent, and its text
abbrev lent : (c : Start) → let a = c.args in Session a.n a.clauses (heap_ops a.n a.lits.now a.ends.now)
lent c = let a = c.args in session_of a.n a.clauses a.lits.now a.ends.now a.values.now a.levels.now a.reasons.now a.trail.now a.opened.now a.activity.now a.heap.now a.indices.now a.decision.now a.s

abbrev text : Start → List ℕ
text c = let a = c.args in session_text a.n a.lits.now a.ends.now a.levels.now a.reasons.now a.trail.now a.activity.now a.heap.now a.decision.now a.s

-- once the tests have passed, the session is one that can be written
lines : (c : In_ok-refusal) → let a = c.args in Lines a.n a.lits.now a.ends.now a.levels.now a.reasons.now a.trail.now a.activity.now a.heap.now a.decision.now a.s
lines c =
    let a = c.args in
    let step = c.well_formed.1.1.1.1.1.1.1.1.1.1.1.1.1.1.0.1.1.1.0.1.1.1.0.1.1 in
    let u = session_of a.n a.clauses a.lits.now a.ends.now a.values.now a.levels.now a.reasons.now a.trail.now a.opened.now a.activity.now a.heap.now a.indices.now a.decision.now a.s in
    session_lines (lent_savable a.n a.clauses a.lits.now a.literals a.ends.now u (sym (ap status_of c.in_ok-refusal.was) ∙ c.refusal.ensures) (λ v b. search rules) (rw step.0.1 tt, rw step.1.0.1 tt))

-- the text that is asked for is the one that is written
same : (c : Start) → let a = c.args in text_of (saved_heap a.n a.lits.now a.ends.now (lent c).trail (lent c).chooser) ≡ text c
same c = let a = c.args in session_text_lem a.n a.lits.now a.ends.now a.values.now a.levels.now a.reasons.now a.trail.now a.opened.now a.activity.now a.heap.now a.indices.now a.decision.now a.s

pub returns-in_err-refusal : goal.returns-in_err-refusal
returns-in_err-refusal c =
    let a = c.args in
    let saved = λ (u : Session a.n a.clauses (heap_ops a.n a.lits.now a.ends.now)). saved_heap a.n a.lits.now a.ends.now u.trail u.chooser in
    let e = c.in_err-refusal.field-0.0 in
    let r : c.from_residual.result ≡ Err e = search rules in
    rw r (wrote_refused a.n a.clauses (heap_mode a.n a.clauses a.lits.now a.ends.now) a.lits.now a.literals a.ends.now saved (lent (goal.at.returns-in_err-refusal c).Start) a.text.now
    (refusal_number e) (sym (ap status_of c.in_err-refusal.was) ∙ c.refusal.ensures) (λ z. omega (arith, refusal_above e)))

pub text_fits-requires : goal.text_fits-requires
text_fits-requires c = lines (goal.at.text_fits-requires c).In_ok-refusal

pub returns-then-not-text_fits : goal.returns-then-not-text_fits
returns-then-not-text_fits c =
    let a = c.args in
    let s = (goal.at.returns-then-not-text_fits c).Start in
    let saved = λ (u : Session a.n a.clauses (heap_ops a.n a.lits.now a.ends.now)). saved_heap a.n a.lits.now a.ends.now u.trail u.chooser in
    wrote_none a.n a.clauses (heap_mode a.n a.clauses a.lits.now a.ends.now) a.lits.now a.literals a.ends.now saved (lent s) a.text.now (sym (ap status_of c.in_ok-refusal.was) ∙ c.refusal.ensures)
    (ap (λ (t : List ℕ). leb (length t) (length a.text.now)) (same s) ∙ sym c.text_fits.ensures ∙ c.if-not-text_fits.true)

pub put_text-requires-clause-lines : goal.put_text-requires-clause-lines
put_text-requires-clause-lines c = lines (goal.at.put_text-requires-clause-lines c).In_ok-refusal

pub overflow_cast-result : goal.overflow_cast-result
overflow_cast-result c =
    let l = lines (goal.at.overflow_cast-result c).In_ok-refusal in
    omega (arith, c.put_text.ensures.place, l.short, l.shape.few_clauses, l.shape.few_literals_lem, l.in_heap_lem.small)

pub returns : goal.returns
returns c =
    let a = c.args in
    let s = (goal.at.returns c).Start in
    let saved = λ (u : Session a.n a.clauses (heap_ops a.n a.lits.now a.ends.now)). saved_heap a.n a.lits.now a.ends.now u.trail u.chooser in
    wrote_all a.n a.clauses (heap_mode a.n a.clauses a.lits.now a.ends.now) a.lits.now a.literals a.ends.now saved (lent s) a.text.now (sym (ap status_of c.in_ok-refusal.was) ∙ c.refusal.ensures)
    (ap (λ (t : List ℕ). leb (length t) (length a.text.now)) (same s) ∙ sym c.text_fits.ensures ∙ c.if-not-text_fits.false) _ _ (rw (same s) c.put_text.ensures)
