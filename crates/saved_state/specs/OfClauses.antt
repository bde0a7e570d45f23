-- A good clause list is what its clauses say, and back. Assumes nothing.
use Rattle.std.specs.Prelude.{ℕ, suc, ◌+◌, ◌-◌, ◌<◌, ◌≤◌, ◌≡◌, refl, length, get_or, drop}
use Rattle.std.proofs.Common.{ap, ◌∙◌, arith, length-append, length-take, length-drop, drop_at}
use mathlib.Core.List.{List, [], ◌∷◌, ◌++◌, flatten, append_assoc}
use Rattle.std.proofs.Math.Seq.{take-append_seam}
use Rattle.laws.specs.Each.{Each}
use Rattle.lit.specs.Numbers.{max_vars}
use Rattle.lit.specs.Lits.{index}
use Rattle.formula.specs.Clauses.{part, clauses, clauses_from}
use Rattle.formula.specs.Good.{GoodClauses}
use Rattle.formula.specs.Reading.{join_clauses, clause_at}
use Rattle.forms.specs.Spelling.{Whole}
use Rattle.saved_text.specs.Saved.{Row, clause_form}
use Rattle.saved_text.specs.Form.{ends_from}
use Rattle.saved_state.specs.Eachs.{each_of, each_take, each_drop}

ends_again : (from : ℕ) (lits ends : List ℕ) → ((i : ℕ) → i < length ends → (get_or (from ∷ ends) i 0 ≤ get_or ends i 0) × (get_or ends i 0 ≤ length lits)) → ends_from from (clauses_from from lits ends) ≡ ends
unfolding ends_from clauses_from
ends_again from lits [] f = refl
ends_again from lits (e ∷ es) f =
    let long : from + length (part from e lits) ≡ e = simp (length-take, length-drop) (omega (arith, (f 0 (omega arith)).0, (f 0 (omega arith)).1)) in
    rw long (ap (λ (r : List ℕ). e ∷ r) (ends_again e lits es (λ i h. f (suc i) (omega arith))))

-- written and read
pub clauses_again : {n : ℕ} {lits ends : List ℕ} → GoodClauses n lits ends → (flatten (clauses lits ends) ≡ lits) × (ends_from 0 (clauses lits ends) ≡ ends)
clauses_again {lits = lits} {ends} g = (join_clauses g.list, ends_again 0 lits ends (λ i h. let c = clause_at g.list i h in (c.rises, c.within)))

-- what holds of each literal holds in each clause
each_part : (P : ℕ → Type 0) (from : ℕ) (lits ends : List ℕ) → Each P lits → Each (Each P) (clauses_from from lits ends)
unfolding clauses_from
each_part P from lits [] h = tt
each_part P from lits (e ∷ es) h = (each_take P (e - from) (drop from lits) (each_drop P from lits h), each_part P e lits es h)

pub each_clause : {n : ℕ} {lits ends : List ℕ} → GoodClauses n lits ends → (P : ℕ → Type 0) → ((c : ℕ) → index c < n → P c) → Each (Each P) (clauses lits ends)
each_clause {lits = lits} {ends} g P f = each_part P 0 lits ends (each_of P lits 0 (λ i h. f (get_or lits i 0) (g.below i h)))

each_row : (cs : List (List ℕ)) → Each (Each Whole) cs → Each (Row clause_form) cs
each_row [] h = tt
each_row (c ∷ cs) h = ((tt, h.0), each_row cs h.1)

-- what is written has the form
pub clauses_formed : {n : ℕ} {lits ends : List ℕ} → GoodClauses n lits ends → n ≤ max_vars → Each (Row clause_form) (clauses lits ends)
clauses_formed {lits = lits} {ends} g small = each_row (clauses lits ends) (each_clause g Whole (λ c h. omega arith))

clauses_from_lem : (before : List ℕ) (cs : List (List ℕ)) (at : ℕ) → length before ≡ at → clauses_from at (before ++ flatten cs) (ends_from at cs) ≡ cs
unfolding clauses_from ends_from flatten
clauses_from_lem before [] at e = refl
clauses_from_lem before (c ∷ cs) at e =
    let size : at + length c - at ≡ length c = omega arith in
    let first : part at (at + length c) (before ++ (c ++ flatten cs)) ≡ c = rw (drop_at before (c ++ flatten cs) at e, size) (take-append_seam c (flatten cs)) in
    let rest : clauses_from (at + length c) ((before ++ c) ++ flatten cs) (ends_from (at + length c) cs) ≡ cs = clauses_from_lem (before ++ c) cs (at + length c) (length-append before c ∙ rw e) in
    rw first (ap (λ (r : List (List ℕ)). c ∷ r) (rw (append_assoc before c (flatten cs)) at rest))

-- read and written
pub clauses_back : (cs : List (List ℕ)) → clauses (flatten cs) (ends_from 0 cs) ≡ cs
clauses_back cs = clauses_from_lem [] cs 0 refl
