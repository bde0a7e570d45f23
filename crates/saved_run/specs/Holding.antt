-- A saved text is twice as long at least as its literals and its clauses are many, so that slices which hold any clause list of so many bytes hold its own. Assumes nothing.
use Rattle.std.specs.Prelude.{ℕ, ◌+◌, ◌*◌, ◌≤◌, ◌≡◌, true, length}
use Rattle.std.proofs.Common.{ap, arith, length-append}
use Rattle.std.proofs.Math.Option.{some}
use mathlib.Core.List.{List, [], ◌∷◌, map, flatten}
use Rattle.formula.specs.Clauses.{clauses_ok}
use Rattle.formula.specs.Good.{clauses_facts}
use Rattle.forms.specs.TextLaws.{digits_some}
use Rattle.forms.specs.Spelling.{ended, behind}
use Rattle.saved_text.specs.Saved.{clause_form, Saved, row_line}
use Rattle.saved_text.specs.Reading.{read_text}
use Rattle.saved_text.specs.Read.{read_said}
use Rattle.saved_text.specs.Length.{text_length}
use Rattle.saved_state.specs.Said.{lits_said, ends_said}
use Rattle.saved_state.specs.Judging.{ends_length}
use Rattle.sheet.specs.Running.{Holds}

line_least : (c : List ℕ) → 1 + 2 * length c ≤ length (row_line clause_form c)
unfolding behind
line_least [] = omega arith
line_least (v ∷ c) = simp length-append (omega (arith, line_least c, digits_some 19 v))

clauses_least : (cs : List (List ℕ)) → 2 * length cs + 2 * length (flatten cs) ≤ length (ended (map (row_line clause_form) cs))
unfolding ended flatten
clauses_least [] = omega arith
clauses_least (c ∷ cs) = simp length-append (omega (arith, line_least c, clauses_least cs))

module _ (text : List ℕ) (s : Saved) (e : read_text text ≡ some s) where
  least : 2 * length (ends_said s) + 2 * length (lits_said s) ≤ length text
  least = omega (arith, ap length ((read_said text s).0 e).1, text_length s, clauses_least s.clauses, ends_length 0 s.clauses)

  -- where the clause list is good
  module _ {lits ends : List ℕ} (holds : Holds text lits ends) (good : clauses_ok s.opening.vars (lits_said s) (ends_said s) ≡ true) where
    pub codes_held : length (lits_said s) ≤ length lits
    codes_held = holds.codes (length (lits_said s)) ((clauses_facts s.opening.vars (lits_said s) (ends_said s)).0 good).list.few_literals_lem (omega (arith, least))

    pub ends_held : length (ends_said s) ≤ length ends
    ends_held = holds.clauses (length (ends_said s)) ((clauses_facts s.opening.vars (lits_said s) (ends_said s)).0 good).list.few_clauses (omega (arith, least))

-- slices of the same lengths hold the same clause lists
pub still_holds : {text lits ends lits' ends' : List ℕ} → length lits' ≡ length lits → length ends' ≡ length ends → Holds text lits ends → Holds text lits' ends'
still_holds a b h = record { codes = λ k few short. omega (arith, h.codes k few short, a); clauses = λ k few short. omega (arith, h.clauses k few short, b) }
