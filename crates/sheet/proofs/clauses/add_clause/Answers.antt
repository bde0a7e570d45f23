-- `sheet::clauses::add_clause` meets its contract: codes that would not fit are refused, others stand where the longer list has them.
use Prim.Native.Nat.{◌+◌, ◌≤◌}
use mathlib.Core.Logic.{by_cases}
use native.Mathlib.Decide.{dec_lt}
use lib.ListN.{length}
use mathlib.Core.Path.{◌≡◌, sym, ap, ◌∙◌}
use mathlib.Core.Bool.{true, false}
use native.Mathlib.Omega.{arith}
use Rattle.lit.specs.Numbers.{max_literals}
use Rattle.formula.specs.Clauses.{clause_fits}
use Rattle.sheet.proofs.Steps.{part_of}
use Rattle.sheet.proofs.ClauseLines.{too_long, fits_clauses, no_fit, fit}
use Rattle.sheet.proofs.clauses.add_clause.Goals as goal

pub returns-then-k-lits : goal.returns-then-k-lits
returns-then-k-lits c mode codes e held =
    no_fit mode c.args.n c.args.s c.requires.0 codes (too_long c.args.n c.args.s.clauses c.args.s.literals codes (by_cases (dec_lt max_literals (c.args.s.literals + length codes)) (λ long. long) (λ few. absurd (let room : c.args.s.literals + c.args.k ≤ length c.args.lits.now = c.requires.1.codes (omega (arith, e)) in omega (arith, c.if-k-lits.true)))))

pub returns-then-not-clause_fits : goal.returns-then-not-clause_fits
returns-then-not-clause_fits c mode codes e held =
    let room : c.args.s.literals + c.args.k ≤ length c.args.lits.now = omega (arith, c.if-k-lits.false, c.requires.0.few_literals_lem) in
    let t : c.clause_fits.result ≡ false = c.if-not-clause_fits.true in
    no_fit mode c.args.n c.args.s c.requires.0 codes (ap (clause_fits c.args.n c.args.s.clauses c.args.s.literals) (sym (held room) ∙ sym (part_of c.args.s.literals c.args.k c.args.lits.now)) ∙ sym c.clause_fits.ensures ∙ t)

pub bounds-ends-s : goal.bounds-ends-s
bounds-ends-s c =
    c.requires.1.clause (fits_clauses c.args.n c.args.s.clauses c.args.s.literals _ (sym c.clause_fits.ensures ∙ c.if-not-clause_fits.false))

pub returns : goal.returns
returns c mode codes e held =
    let room : c.args.s.literals + c.args.k ≤ length c.args.lits.now = omega (arith, c.if-k-lits.false, c.requires.0.few_literals_lem) in
    let t : c.clause_fits.result ≡ true = c.if-not-clause_fits.false in
    let f : clause_fits c.args.n c.args.s.clauses c.args.s.literals codes ≡ true =
    ap (clause_fits c.args.n c.args.s.clauses c.args.s.literals) (sym (held room) ∙ sym (part_of c.args.s.literals c.args.k c.args.lits.now)) ∙ sym c.clause_fits.ensures ∙ t in
    rw (sym e) (fit mode c.args.n c.args.s c.requires.0 codes f (rw e room) (c.requires.1.clause (fits_clauses c.args.n c.args.s.clauses c.args.s.literals codes f)) (rw e (held room)))

pub overflow_add-result : goal.overflow_add-result
overflow_add-result c =
    let a = c.args in
    record { fits = omega (arith, fits_clauses a.n a.s.clauses a.s.literals _ (sym c.clause_fits.ensures ∙ c.if-not-clause_fits.false)) }
