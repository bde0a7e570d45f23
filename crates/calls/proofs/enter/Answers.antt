-- `enter` meets its contract: a refusal is the answer; without one the memory is good, and the run answers.
use Rattle.std.specs.Prelude.{refl, length}
use Rattle.std.proofs.Common.{arith}
use Rattle.std.proofs.lemmas.Result.{err_from_is_err_and}
use Rattle.lit.specs.Refusals.{refusal_above}
use Rattle.words.proofs.Entered.{fit_thirds, list_refused, list_ran}
use Rattle.calls.proofs.enter.Goals as goal

pub returns-in_err-refusal-clause-answered : goal.returns-in_err-refusal-clause-answered
returns-in_err-refusal-clause-answered g c =
    let a = c.args in
    let n = a.n in
    let m = a.clauses in
    let lits = a.list.lits.now in
    let ends = a.list.ends.now in
    let e = c.in_err-refusal in
    let p = err_from_is_err_and c.from_residual.result c.from_residual.ensures.1 in
    rw (p.1, p.2) (list_refused n m (g.S.Session.mode n m lits ends) lits a.literals ends a.vars.now a.calls.now (g.S.Session.held n m lits ends a.session.now) a.answers.now
    _ (rw c.words_fit.ensures at e.ensures.refused) (λ z. omega (arith, refusal_above e.field-0.0)))

pub run_calls-requires : goal.run_calls-requires
run_calls-requires g c =
    let a = c.args in
    let p = c.in_ok-refusal.ensures.good refl in
    record { calls_len = fit_thirds (length a.calls.now) (length a.answers.now) (rw c.words_fit.ensures at p.1); good = p.0 }

pub returns-clause-answered : goal.returns-clause-answered
returns-clause-answered g c =
    let a = c.args in
    let n = a.n in
    let m = a.clauses in
    let lits = a.list.lits.now in
    let ends = a.list.ends.now in
    list_ran n m (g.S.Session.mode n m lits ends) lits a.literals ends a.vars.now a.calls.now (g.S.Session.held n m lits ends a.session.now) a.answers.now
    (rw c.words_fit.ensures at c.in_ok-refusal.ensures.refused)
    c.run_calls.ensures.ran
