-- The list without clauses, and one more clause on a good list: its codes behind the others, its end behind the ends. Assumes nothing.
use Rattle.std.specs.Prelude.{ℕ, ◌+◌, ◌-◌, ◌≤◌, ◌<◌, ◌≡◌, refl, true, ◌&&◌, List, [], ◌∷◌, ◌++◌, get_or, ltb}
use Rattle.std.proofs.Math.Logic.{by_cases}
use Rattle.std.proofs.Math.Decide.{ℕ_discrete, dec_lt}
use native.Mathlib.Omega.{arith}
use borrow.Author.Tests.{leb-true, ltb-true, le-leb, lt-ltb}
use Rattle.std.proofs.Math.ListN.{length, length-append, get_or-append}
use Rattle.std.proofs.Math.Dec.{leb}
use Rattle.std.proofs.Math.Seq.{get_or-append_seam}
use Rattle.std.proofs.Common.{get_or-append-add}
use Rattle.laws.specs.Tests.{and_left, and_right, and_both, same_test}
use Rattle.laws.specs.Every.{every, every_at, every_all}
use Rattle.lit.specs.Numbers.{max_clauses, max_literals}
use Rattle.lit.specs.Lits.{index}
use Rattle.formula.specs.Clauses.{ends_ok, list_ok, clauses_ok, clause_fits, vars_below, var_below}
use Rattle.formula.specs.Good.{GoodClauses, clauses_facts}
use Rattle.formula.specs.Reading.{clause_at}

pub none_ok : (n : ℕ) → clauses_ok n [] [] ≡ true
unfolding clauses_ok list_ok ends_ok vars_below every
none_ok n = refl

-- the ends of the longer list
abbrev pub with_end : List ℕ → List ℕ → List ℕ → List ℕ
with_end lits ends codes = ends ++ (length lits + length codes) ∷ []

module _ (lits ends codes : List ℕ) where
  old_end : (i : ℕ) → i < length ends → get_or (with_end lits ends codes) i 0 ≡ get_or ends i 0
  old_end i h = get_or-append ends ((length lits + length codes) ∷ []) 0 i h

  new_end : get_or (with_end lits ends codes) (length ends) 0 ≡ length lits + length codes
  new_end = get_or-append_seam ends (length lits + length codes) [] 0

  ends_length : length (with_end lits ends codes) ≡ length ends + 1
  ends_length = length-append ends ((length lits + length codes) ∷ [])

module _ {n : ℕ} {lits ends : List ℕ} (g : GoodClauses n lits ends) (codes : List ℕ) where
  fits_forth : GoodClauses n (lits ++ codes) (with_end lits ends codes) → clause_fits n (length ends) (length lits) codes ≡ true
  unfolding clause_fits vars_below var_below
  fits_forth a =
      let clauses : length ends < max_clauses = omega (arith, ends_length lits ends codes, a.list.few_clauses) in
      let literals : length lits + length codes ≤ max_literals = omega (arith, length-append lits codes, a.list.few_literals_lem) in
      and_both (and_both (lt-ltb _ _ clauses) (le-leb _ _ literals))
      (every_all (var_below n codes) (length codes) (λ i h. lt-ltb _ _ (rw (get_or-append-add lits codes i 0) at (a.below (length lits + i) (simp length-append (omega arith))))))

  -- an end, old or new, is not below an earlier one
  still_up : (i j : ℕ) → i < j → j < length ends + 1 → get_or (with_end lits ends codes) i 0 ≤ get_or (with_end lits ends codes) j 0
  still_up i j h b =
      rw (old_end lits ends codes i (omega arith))
      (by_cases (ℕ_discrete j (length ends))
      (λ new. rw (new, new_end lits ends codes) (omega (arith, (clause_at g.list i (omega arith)).within)))
      (λ old. rw (old_end lits ends codes j (omega arith)) (g.list.never_fall i j h (omega arith))))

  all_below : vars_below n codes ≡ true → (i : ℕ) → i < length lits + length codes → index (get_or (lits ++ codes) i 0) < n
  unfolding vars_below var_below
  all_below e i b =
      by_cases (dec_lt i (length lits))
      (λ old. rw get_or-append (g.below i old))
      (λ new.
      (let at : i ≡ length lits + (i - length lits) = omega arith in
      rw (at, get_or-append-add) (ltb-true _ _ (every_at (var_below n codes) (length codes) (i - length lits) e (omega arith)))))

  fits_back : clause_fits n (length ends) (length lits) codes ≡ true → GoodClauses n (lits ++ codes) (with_end lits ends codes)
  unfolding clause_fits
  fits_back e =
      let limits = and_left (ltb (length ends) max_clauses && leb (length lits + length codes) max_literals) _ e in
      let vars = and_right (ltb (length ends) max_clauses && leb (length lits + length codes) max_literals) _ e in
      let fewer : length ends < max_clauses = ltb-true _ _ (and_left (ltb (length ends) max_clauses) _ limits) in
      record {
        list = record {
          few_clauses = rw (ends_length lits ends codes) (omega arith);
          few_literals_lem = rw length-append (leb-true _ _ (and_right (ltb (length ends) max_clauses) _ limits));
          never_fall = λ i j h b. still_up i j h (rw (ends_length lits ends codes) at b);
          last_end = λ _. (let last : length ends + 1 - 1 ≡ length ends = omega arith in rw (ends_length lits ends codes, last, length-append) (new_end lits ends codes));
          no_clauses = λ none. absurd (omega (arith, ends_length lits ends codes));
        };
        below = λ i h. all_below vars i (rw length-append at h);
      }

-- The check of one clause more is the check of the longer list.
pub fits_added : (n : ℕ) (lits ends codes : List ℕ) → clauses_ok n lits ends ≡ true → clauses_ok n (lits ++ codes) (with_end lits ends codes) ≡ clause_fits n (length ends) (length lits) codes
fits_added n lits ends codes ok =
    let g = (clauses_facts n lits ends).0 ok in
    let facts = clauses_facts n (lits ++ codes) (with_end lits ends codes) in
    same_test _ _ (λ e. fits_forth g codes (facts.0 e)) (λ e. facts.1 (fits_back g codes e))
