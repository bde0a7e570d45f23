-- `list_saved::save` meets its contract: a refusal is the answer; without one the session is good, and its text is written where it fits.
use Prim.Native.Nat.{ℕ}
use mathlib.Core.Path.{◌≡◌, sym, ap, ◌∙◌}
use mathlib.Core.List.{List}
use mathlib.Core.Bool.{true}
use native.Mathlib.Omega.{arith}
use Rattle.std.specs.Prelude.{Err}
use Rattle.std.proofs.Common.{rules}
use lib.Dec.{leb}
use lib.ListN.{length}
use Rattle.lit.specs.Refusals.{refusal_number, refusal_above, status_of}
use Rattle.book.specs.Session.{Session}
use Rattle.choosers.specs.List.{list_ops}
use Rattle.session.specs.Checks.{state_refusal}
use Rattle.session.specs.Mode.{lengths_ok}
use Rattle.formula.specs.Clauses.{clauses_ok}
use Rattle.list_session.specs.Check.{state_ok}
use Rattle.list_session.specs.Memory.{session_of}
use Rattle.list_entry.specs.Entry.{list_mode}
use Rattle.saved_text.specs.Saved.{text_of}
use Rattle.saved_state.specs.Written.{saved_list}
use Rattle.saved_state.specs.Wrote.{wrote_refused, wrote_none, wrote_all}
use Rattle.list_saved.specs.Pieces.{session_text, session_text_lem, Lines, session_lines, lent_savable}
use Rattle.list_saved.proofs.save.Goals as goal
use Rattle.list_saved.proofs.save.Goals.{Start}

-- the session that was lent, what is saved of it, and the refusal of the two
abbrev lent : (c : Start) → let a = c.args in Session a.n a.clauses (list_ops a.n a.lits.now)
lent c = let a = c.args in session_of a.n a.clauses a.lits.now a.values.now a.levels.now a.reasons.now a.trail.now a.opened.now a.next.now a.prev.now a.ts.now a.s

abbrev refused : Start → ℕ
refused c =
    let a = c.args in
    state_refusal a.n (lengths_ok a.n a.clauses (list_mode a.n a.clauses a.lits.now) a.lits.now a.literals a.ends.now (lent c) true) (clauses_ok a.n a.lits.now a.ends.now) (state_ok a.clauses (lent c).trail (lent c).chooser)

abbrev text : Start → List ℕ
text c = let a = c.args in session_text a.n a.lits.now a.ends.now a.levels.now a.reasons.now a.trail.now a.next.now a.ts.now a.s

-- once the tests have passed, the session is one that can be written
lines : (c : Start) → 0 ≡ refused c → let a = c.args in Lines a.n a.lits.now a.ends.now a.levels.now a.reasons.now a.trail.now a.next.now a.ts.now a.s
lines c none = let a = c.args in session_lines (lent_savable a.n a.clauses a.lits.now a.literals a.ends.now (lent c) none (omega arith))

-- the text that is asked for is the one that is written
same : (c : Start) → let a = c.args in text_of (saved_list a.n a.lits.now a.ends.now (lent c).trail (lent c).chooser) ≡ text c
same c = let a = c.args in session_text_lem a.n a.lits.now a.ends.now a.values.now a.levels.now a.reasons.now a.trail.now a.opened.now a.next.now a.prev.now a.ts.now a.s

pub returns-in_err-refusal : goal.returns-in_err-refusal
returns-in_err-refusal c =
    let a = c.args in
    let saved = λ (u : Session a.n a.clauses (list_ops a.n a.lits.now)). saved_list a.n a.lits.now a.ends.now u.trail u.chooser in
    let e = c.in_err-refusal.field-0.0 in
    let r : c.from_residual.result ≡ Err e = search rules in
    rw r (wrote_refused a.n a.clauses (list_mode a.n a.clauses a.lits.now) a.lits.now a.literals a.ends.now saved (lent (goal.at.returns-in_err-refusal c).Start) a.text.now
    (refusal_number e) (sym (ap status_of c.in_err-refusal.was) ∙ c.refusal.ensures) (λ z. omega (arith, refusal_above e)))

pub text_fits-requires : goal.text_fits-requires
text_fits-requires c = lines (goal.at.text_fits-requires c).Start (sym (ap status_of c.in_ok-refusal.was) ∙ c.refusal.ensures)

pub returns-then-not-text_fits : goal.returns-then-not-text_fits
returns-then-not-text_fits c =
    let a = c.args in
    let s = (goal.at.returns-then-not-text_fits c).Start in
    let saved = λ (u : Session a.n a.clauses (list_ops a.n a.lits.now)). saved_list a.n a.lits.now a.ends.now u.trail u.chooser in
    wrote_none a.n a.clauses (list_mode a.n a.clauses a.lits.now) a.lits.now a.literals a.ends.now saved (lent s) a.text.now (sym (ap status_of c.in_ok-refusal.was) ∙ c.refusal.ensures)
    (ap (λ (t : List ℕ). leb (length t) (length a.text.now)) (same s) ∙ sym c.text_fits.ensures ∙ c.if-not-text_fits.true)

pub put_text-requires-clause-lines : goal.put_text-requires-clause-lines
put_text-requires-clause-lines c = lines (goal.at.put_text-requires-clause-lines c).Start (sym (ap status_of c.in_ok-refusal.was) ∙ c.refusal.ensures)

pub overflow_cast-result : goal.overflow_cast-result
overflow_cast-result c =
    let l = lines (goal.at.overflow_cast-result c).Start (sym (ap status_of c.in_ok-refusal.was) ∙ c.refusal.ensures) in
    omega (arith, c.put_text.ensures.place, l.short, l.shape.few_clauses, l.shape.few_literals_lem, l.in_list.small)

pub returns : goal.returns
returns c =
    let a = c.args in
    let s = (goal.at.returns c).Start in
    let saved = λ (u : Session a.n a.clauses (list_ops a.n a.lits.now)). saved_list a.n a.lits.now a.ends.now u.trail u.chooser in
    wrote_all a.n a.clauses (list_mode a.n a.clauses a.lits.now) a.lits.now a.literals a.ends.now saved (lent s) a.text.now (sym (ap status_of c.in_ok-refusal.was) ∙ c.refusal.ensures)
    (ap (λ (t : List ℕ). leb (length t) (length a.text.now)) (same s) ∙ sym c.text_fits.ensures ∙ c.if-not-text_fits.false) _ _ (rw (same s) c.put_text.ensures)
