-- The clause list's paragraph of document 01, a field for each of its facts. The check asks these facts and no more. Assumes nothing.
use Rattle.std.specs.Prelude.{ℕ, zero, suc, ◌-◌, ◌≤◌, ◌<◌, ◌≡◌, refl, ◌↔◌, true, ◌&&◌, List, [], ◌∷◌, length, get_or, leb}
use Rattle.std.proofs.Common.{sym, ◌∙◌, arith, leb-true, ltb-true, eqb-true, le-leb, lt-ltb, eq-eqb}
use Rattle.std.proofs.Math.Logic.{by_cases}
use Rattle.std.proofs.Math.Decide.{ℕ_discrete}
use Rattle.std.proofs.Math.Dec.{leb-zero}
use Rattle.laws.specs.Tests.{and_left, and_right, and_both, and_true}
use Rattle.laws.specs.Every.{every, every_at, every_all}
use Rattle.lit.specs.Numbers.{max_clauses, max_literals}
use Rattle.lit.specs.Lits.{index}
use Rattle.formula.specs.Clauses.{start, no_fall_at, ends_ok, list_ok, var_below, vars_below, clauses_ok}

-- "At most 2,048 clauses and 8,192 literals; ends never fall; the last equals the literal count, which is 0 without clauses"
pub record GoodShape (lits ends : List ℕ) : Type 0 where
  pub few_clauses : length ends ≤ max_clauses
  pub few_literals_lem : length lits ≤ max_literals
  pub never_fall : (i j : ℕ) → i < j → j < length ends → get_or ends i 0 ≤ get_or ends j 0
  pub last_end : 0 < length ends → get_or ends (length ends - 1) 0 ≡ length lits
  pub no_clauses : length ends ≡ 0 → length lits ≡ 0

-- "variables are below N"
pub record GoodClauses (n : ℕ) (lits ends : List ℕ) : Type 0 where
  pub list : GoodShape lits ends
  pub below : (i : ℕ) → i < length lits → index (get_or lits i 0) < n

-- a clause but the first starts where the one before it ends
pub start_later : (ends : List ℕ) (i : ℕ) → 0 < i → start ends i ≡ get_or ends (i - 1) 0
start_later ends zero h = absurd (omega arith)
start_later ends (suc i) h = let e : suc i - 1 ≡ i = omega arith in rw e

-- ends of which none is below the one before it never fall
climbs : (ends : List ℕ) → every (no_fall_at ends) (length ends) ≡ true → (i j : ℕ) → i ≤ j → j < length ends → get_or ends i 0 ≤ get_or ends j 0
unfolding no_fall_at
climbs ends all i zero h b = let e : i ≡ 0 = omega arith in rw e (omega arith)
climbs ends all i (suc j) h b =
    by_cases (ℕ_discrete i (suc j))
    (λ same. rw same (omega arith))
    (λ other.
    (let before : get_or ends i 0 ≤ get_or ends j 0 = climbs ends all i j (omega arith) (omega arith) in
    let step : get_or ends j 0 ≤ get_or ends (suc j) 0 = leb-true _ _ (every_at (no_fall_at ends) (length ends) (suc j) all b) in
    omega arith))

-- and back: none is below the one before it, and the last is the literal count
pub no_fall : {lits ends : List ℕ} → GoodShape lits ends → (i : ℕ) → i < length ends → no_fall_at ends i ≡ true
unfolding no_fall_at
no_fall {lits} {ends} g zero b = leb-zero (get_or ends 0 0)
no_fall g (suc i) b = le-leb _ _ (g.never_fall i (suc i) (omega arith) b)

pub last_start : {lits ends : List ℕ} → GoodShape lits ends → start ends (length ends) ≡ length lits
last_start {lits} {ends} g =
    by_cases (ℕ_discrete (length ends) 0)
    (λ none. sym (g.no_clauses none ∙ rw none))
    (λ some. start_later ends (length ends) (omega arith) ∙ g.last_end (omega arith))

-- With variables left aside, the check asks the first of these records.
pub list_facts : (lits ends : List ℕ) → (list_ok lits ends ≡ true) ↔ GoodShape lits ends
unfolding list_ok ends_ok
list_facts lits ends = (forth, back)
  where
    forth : list_ok lits ends ≡ true → GoodShape lits ends
    forth e =
        let limits = and_left (leb (length ends) max_clauses && leb (length lits) max_literals) _ e in
        let right = and_right (leb (length ends) max_clauses && leb (length lits) max_literals) _ e in
        let up = and_left (every (no_fall_at ends) (length ends)) _ right in
        let last : start ends (length ends) ≡ length lits = eqb-true _ _ (and_right (every (no_fall_at ends) (length ends)) _ right) in
        record {
          few_clauses = leb-true _ _ (and_left (leb (length ends) max_clauses) _ limits);
          few_literals_lem = leb-true _ _ (and_right (leb (length ends) max_clauses) _ limits);
          never_fall = λ i j h b. climbs ends up i j (omega arith) b;
          last_end = λ h. sym (start_later ends (length ends) h) ∙ last;
          no_clauses = λ h. sym last ∙ rw h;
        }

    back : GoodShape lits ends → list_ok lits ends ≡ true
    back g =
        and_both (and_both (le-leb _ _ g.few_clauses) (le-leb _ _ g.few_literals_lem))
        (and_both (every_all (no_fall_at ends) (length ends) (no_fall g)) (eq-eqb _ _ (last_start g)))

-- Refusal 6 comes exactly where one of these facts fails.
pub clauses_facts : (n : ℕ) (lits ends : List ℕ) → (clauses_ok n lits ends ≡ true) ↔ GoodClauses n lits ends
unfolding clauses_ok vars_below var_below
clauses_facts n lits ends = (
  λ e. record {
    list = (list_facts lits ends).0 (and_left (list_ok lits ends) _ e);
    below = λ i h. ltb-true _ _ (every_at (var_below n lits) (length lits) i (and_right (list_ok lits ends) _ e) h);
  },
  λ g. and_both ((list_facts lits ends).1 g.list) (every_all (var_below n lits) (length lits) (λ i h. lt-ltb _ _ (g.below i h))),
)

-- A list of one clause alone is held to the limit of literals.
pub alone : (codes : List ℕ) → list_ok codes (length codes ∷ []) ≡ leb (length codes) max_literals
unfolding list_ok ends_ok no_fall_at every
alone codes = rw (leb-zero (length codes), eq-eqb (length codes) (length codes) refl) (and_true _)
