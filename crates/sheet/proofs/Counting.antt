-- The clause lines of a sheet, read and not answered: the clause list that they leave. Assumes nothing.
use Rattle.std.specs.Prelude.{ℕ, ◌+◌, ◌≡◌, refl, true, false, List, []}
use Rattle.std.proofs.Math.Path.{sym, ap}
use Rattle.std.proofs.Common.{◌∙◌, length-take-le}
use native.Mathlib.Omega.{arith}
use Rattle.std.proofs.Math.ListN.{length}
use Rattle.book.specs.Session.{leaves}
use Rattle.book.specs.Mapped.{mapped_leaves}
use Rattle.forms.specs.Text.{written}
use Rattle.forms.specs.Forms.{Mode, vsids, codes_in}
use Rattle.lit.specs.declared.Refusal.{Refusal}
use Rattle.std.specs.Prelude as code
use Rattle.sheet.specs.declared.clauses.Section.{Section}
use Rattle.sheet.specs.Sheet.{ClauseList, added, clause_lines, listed}
use Rattle.sheet.specs.Stages.{Stage, on_list}
use Rattle.sheet.specs.Running.{lines_from, line_length, line_from, after, next_clause, kept, ClauseAdded, Ready}
use Rattle.sheet.proofs.ClauseLines.{no_clause_line}
use Rattle.sheet.proofs.Steps.{lines_more, room_behind}
use Rattle.sheet.proofs.Section.{clause_more, is_clause, ready_behind}
use Rattle.sheet.specs.Counting.{Counted, front, list_of, listed_from}

module _ {n : ℕ} {sheet out : List ℕ} where
  -- no line is read yet, or one after another
  pub counted_none : {s : Section} {lits ends : List ℕ} → Ready n sheet s out lits ends → Counted n sheet out s lits ends s lits ends
  counted_none ready = record { ready = ready; list = refl; lits_same = refl; ends_same = refl }

  pub counted_more : {s u v : Section} {lits ends lits' ends' lits'' ends'' : List ℕ}
      → Counted n sheet out s lits ends u lits' ends' → Counted n sheet out u lits' ends' v lits'' ends'' → Counted n sheet out s lits ends v lits'' ends''
  counted_more a b = record { ready = b.ready; list = b.list ∙ a.list; lits_same = b.lits_same ∙ a.lits_same; ends_same = b.ends_same ∙ a.ends_same }

  -- or all of them: then the slices hold the list
  pub counted_all : {s u : Section} {lits ends lits' ends' : List ℕ} → Counted n sheet out s lits ends u lits' ends' → next_clause (lines_from sheet u.place.from) ≡ false
      → let list = listed_from n sheet lits ends s in (u.literals ≡ length list.0) × (u.clauses ≡ length list.1)
  unfolding listed
  counted_all {s} {u} {lits} {ends} {lits'} {ends'} c over =
      let e : front lits' ends' u ≡ listed_from n sheet lits ends s = ap (listed n (front lits' ends' u)) (sym (no_clause_line (lines_from sheet u.place.from) over)) ∙ c.list in (
        sym (length-take-le u.literals lits' c.ready.slices.few_literals_lem) ∙ ap (λ (l : ClauseList). length l.0) e,
        sym (length-take-le u.clauses ends' c.ready.slices.few_clauses) ∙ ap (λ (l : ClauseList). length l.1) e,
      )

-- one line is read, and the answer's place stays
module _ {n : ℕ} {sheet out lits ends : List ℕ} {s : Section} (ready : Ready n sheet s out lits ends) (next : next_clause (lines_from sheet s.place.from) ≡ true)
    {a : code.Result Section Refusal} {lits' ends' : List ℕ} (read : (mode : Mode) → ClauseAdded mode n (codes_in (line_from sheet s.place.from)) lits ends s a lits' ends')
    (lits_same : length lits' ≡ length lits) (ends_same : length ends' ≡ length ends) where
  abbrev behind : Section
  behind = record { place = after s.place (s.place.from + line_length sheet s.place.from) s.place.at; literals = (kept s a).literals; clauses = (kept s a).clauses }

  list_behind : front lits' ends' behind ≡ leaves (front lits ends s) (added n (front lits ends s) (codes_in (line_from sheet s.place.from)))
  list_behind =
      let x = added n (front lits ends s) (codes_in (line_from sheet s.place.from)) in
      ap (λ (t : Stage). list_of t) ((read vsids).stage ∙ mapped_leaves (on_list vsids n) (front lits ends s) x)

  pub counted_one : Counted n sheet out s lits ends behind lits' ends'
  unfolding clause_lines listed written
  counted_one = record {
    ready = ready_behind ready next read lits_same ends_same (room_behind ready.room (clause_more ready next) {a = []} (record { buffer = refl; place = omega arith }) (omega arith));
    list = rw (lines_more ready.room (clause_more ready next), is_clause ready next, list_behind);
    lits_same = lits_same;
    ends_same = ends_same;
  }
