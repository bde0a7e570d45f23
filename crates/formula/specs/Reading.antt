-- What a good clause list gives to whoever reads a clause. Assumes nothing.
use Rattle.std.specs.Prelude.{ℕ, zero, suc, ◌+◌, ◌-◌, ◌≤◌, ◌<◌, ◌≡◌, refl, length, get_or, drop}
use Rattle.std.proofs.Common.{sym, ◌∙◌, add-one, arith, length-take, length-drop, take-append-drop, drop_of_length-le, get_or-take, get_or-drop, drop-cons, drop-drop}
use Rattle.std.proofs.Math.Logic.{by_cases}
use mathlib.Core.List.{List, [], ◌∷◌, flatten}
use Rattle.std.proofs.Math.Decide.{ℕ_discrete}
use borrow.Author.Tests.{leb-true}
use Rattle.lit.specs.Lits.{index}
use Rattle.formula.specs.Clauses.{start, part, clause, clauses, clauses_from, no_fall_at, ClauseAt}
use Rattle.formula.specs.Good.{GoodShape, GoodClauses, no_fall, last_start}

module _ {lits ends : List ℕ} (g : GoodShape lits ends) (i : ℕ) (one : i < length ends) where
  -- no end is past the last literal
  within : get_or ends i 0 ≤ length lits
  within =
      by_cases (ℕ_discrete i (length ends - 1))
      (λ last. rw last (omega (arith, g.last_end (omega arith))))
      (λ other. omega (arith, g.never_fall i (length ends - 1) (omega arith) (omega arith), g.last_end (omega arith)))

  pub clause_at : ClauseAt lits ends i
  unfolding no_fall_at
  clause_at = record { one = one; rises = leb-true _ _ (no_fall g i one); within = within }

  pub clause_length : length (clause lits ends i) ≡ get_or ends i 0 - start ends i
  clause_length = let at = clause_at in simp (length-take, length-drop) (omega arith)

  -- a code of a clause is one of the list's
  pub clause_code : (j : ℕ) → j < length (clause lits ends i) → get_or (clause lits ends i) j 0 ≡ get_or lits (start ends i + j) 0
  clause_code j h = let h' : j < get_or ends i 0 - start ends i = omega (arith, clause_length) in rw (get_or-take, get_or-drop)

-- so its variable is one of n
pub clause_below : {n : ℕ} {lits ends : List ℕ} → GoodClauses n lits ends → (i j : ℕ) → i < length ends → j < length (clause lits ends i) → index (get_or (clause lits ends i) j 0) < n
clause_below {n} {lits} {ends} g i j one h =
    let at = clause_at g.list i one in
    rw (clause_code g.list i one j h) (g.below (start ends i + j) (omega (arith, clause_length g.list i one)))

-- the clauses one by one
pub length_clauses : (from : ℕ) (lits ends : List ℕ) → length (clauses_from from lits ends) ≡ length ends
unfolding clauses_from
length_clauses from lits [] = refl
length_clauses from lits (e ∷ es) = rw (length_clauses e lits es)

clause_from : (from : ℕ) (lits ends : List ℕ) (i : ℕ) → i < length ends → get_or (clauses_from from lits ends) i [] ≡ part (get_or (from ∷ ends) i 0) (get_or ends i 0) lits
unfolding clauses_from
clause_from from lits [] i h = absurd (omega arith)
clause_from from lits (e ∷ es) zero h = refl
clause_from from lits (e ∷ es) (suc i) h = clause_from e lits es i (omega arith)

pub get_or_clauses : (lits ends : List ℕ) (i : ℕ) → i < length ends → get_or (clauses lits ends) i [] ≡ clause lits ends i
get_or_clauses lits ends i h = clause_from 0 lits ends i h

pub drop_clauses : (lits ends : List ℕ) (i : ℕ) → i < length ends → drop i (clauses lits ends) ≡ clause lits ends i ∷ drop (i + 1) (clauses lits ends)
drop_clauses lits ends i h =
    let h' : i < length (clauses lits ends) = rw length_clauses h in
    rw (add-one i, drop-cons (clauses lits ends) i [], get_or_clauses lits ends i h)

-- one after the other, they are the codes of the list
join_from : (from : ℕ) (lits ends : List ℕ) → ((i : ℕ) → i < length ends → get_or (from ∷ ends) i 0 ≤ get_or ends i 0) → get_or (from ∷ ends) (length ends) 0 ≡ length lits → flatten (clauses_from from lits ends) ≡ drop from lits
unfolding clauses_from flatten
join_from from lits [] up last = sym (drop_of_length-le lits {i = from} (omega arith))
join_from from lits (e ∷ es) up last =
    let at : from + (e - from) ≡ e = omega (arith, up 0 (omega arith)) in
    let rest : drop (e - from) (drop from lits) ≡ drop e lits = drop-drop (e - from) from lits ∙ rw at in
    rw (join_from e lits es (λ i h. up (suc i) (omega arith)) last, ← rest) (take-append-drop (e - from) (drop from lits))

pub join_clauses : {lits ends : List ℕ} → GoodShape lits ends → flatten (clauses lits ends) ≡ lits
unfolding no_fall_at
join_clauses {lits} {ends} g = join_from 0 lits ends (λ i h. leb-true _ _ (no_fall g i h)) (last_start g)
