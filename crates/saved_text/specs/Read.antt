-- A text is read as what it says just where it is the text of that: the reader takes that text alone, and two saved states have two. Assumes nothing.
use Rattle.std.specs.Prelude.{ℕ, ◌<◌, ◌≡◌, refl, ◌↔◌, true, false, List, [], ◌∷◌, ◌++◌, map, eqb, length}
use Rattle.std.proofs.Common.{sym, ap, ◌∙◌, append-nil, append_assoc, arith, eqb-true}
use Rattle.std.proofs.Math.Option.{some}
use Rattle.laws.specs.Each.{Each}
use Rattle.laws.specs.Tests.{true_or_false}
use Rattle.forms.specs.Text.{newline, occurs, find, split_from, lines}
use Rattle.forms.specs.TextLaws.{split_length, split_last, occurs_none}
use Rattle.forms.specs.Forms.{Opening, begins_clause, first_in}
use Rattle.forms.specs.Spelling.{Without, Whole, ended, first_line}
use Rattle.forms.specs.Pieces.{lines_said}
use Rattle.forms.specs.Words.{never, same_some, given_some, cond_some}
use Rattle.saved_text.specs.Saved.{Form, clause_form, trail_form, forms, Saved, Row, Rows, forms_of, WellFormed, row_line, row_lines, text_of}
use Rattle.saved_text.specs.Reading.{row_in, clauses_in, rows_in, behind_clauses, saved_in, last_empty, closed, read_text}
use Rattle.saved_text.specs.Fields.{Ready, a_row, first, clause_ready, trail_ready, forms_ready}

-- ---- the lines of a list of forms

rows_said : (fs : List Form) → Each Ready fs → (ls rows : List (List ℕ)) → rows_in fs ls ≡ some rows → (ls ≡ row_lines fs rows) × Rows fs rows
unfolding rows_in row_lines Rows
rows_said [] h [] rows e = same_some (λ rows. ([] ≡ row_lines [] rows) × Rows [] rows) e (refl, tt)
rows_said [] h (l ∷ ls) rows e = never e
rows_said (f ∷ fs) h [] rows e = never e
rows_said (f ∷ fs) h (l ∷ ls) rows e =
    given_some (row_in f l) _ e (λ vs d e. given_some (rows_in fs ls) _ e (λ more ds e.
    let s = (a_row f h.0).said l vs d in
    let others = rows_said fs h.1 ls more ds in
    same_some (λ rows. (l ∷ ls ≡ row_lines (f ∷ fs) rows) × Rows (f ∷ fs) rows) e (cc (s.0, others.0), (s.1, others.1))))

rows_back : (fs : List Form) → Each Ready fs → (rows : List (List ℕ)) → Rows fs rows → rows_in fs (row_lines fs rows) ≡ some rows
unfolding rows_in row_lines Rows
rows_back [] h [] r = refl
rows_back [] h (vs ∷ rows) r = absurd r
rows_back (f ∷ fs) h [] r = absurd r
rows_back (f ∷ fs) h (vs ∷ rows) r = rw ((a_row f h.0).back vs r.0, rows_back fs h.1 rows r.1)

rows_clean : (fs : List Form) → Each Ready fs → (rows : List (List ℕ)) → Rows fs rows → Each (Without newline) (row_lines fs rows)
unfolding row_lines Rows
rows_clean [] h rows r = tt
rows_clean (f ∷ fs) h [] r = tt
rows_clean (f ∷ fs) h (vs ∷ rows) r = ((a_row f h.0).clean vs r.0, rows_clean fs h.1 rows r.1)

-- ---- the clauses, up to a line that does not begin as theirs do

clauses_said : (ls : List (List ℕ)) (p : List (List ℕ) × List (List ℕ)) → clauses_in ls ≡ some p → (ls ≡ map (row_line clause_form) p.0 ++ p.1) × Each (Row clause_form) p.0
unfolding clauses_in
clauses_said [] p e = same_some (λ p. ([] ≡ map (row_line clause_form) p.0 ++ p.1) × Each (Row clause_form) p.0) e (refl, tt)
clauses_said (l ∷ ls) p e =
    true_or_false (begins_clause l)
    (λ t. given_some (row_in clause_form l) _ (rw t at e) (λ c d e. given_some (clauses_in ls) _ e (λ q ds e.
    let s = (a_row clause_form clause_ready).said l c d in
    let others = clauses_said ls q ds in
    same_some (λ p. (l ∷ ls ≡ map (row_line clause_form) p.0 ++ p.1) × Each (Row clause_form) p.0) e (cc (s.0, others.0), (s.1, others.1)))))
    (λ f. same_some (λ p. (l ∷ ls ≡ map (row_line clause_form) p.0 ++ p.1) × Each (Row clause_form) p.0) (rw f at e) (refl, tt))

clauses_back : (cs : List (List ℕ)) (l : List ℕ) (ls : List (List ℕ)) → Each (Row clause_form) cs → begins_clause l ≡ false → clauses_in (map (row_line clause_form) cs ++ (l ∷ ls)) ≡ some (cs, l ∷ ls)
unfolding clauses_in begins_clause
clauses_back [] l ls h n = rw n
clauses_back (c ∷ cs) l ls h n = rw ((a_row clause_form clause_ready).back c h.0, clauses_back cs l ls h.1 n)

clauses_clean : (cs ls : List (List ℕ)) → Each (Row clause_form) cs → Each (Without newline) ls → Each (Without newline) (map (row_line clause_form) cs ++ ls)
clauses_clean [] ls h k = k
clauses_clean (c ∷ cs) ls h k = ((a_row clause_form clause_ready).clean c h.0, clauses_clean cs ls h.1 k)

-- ---- all lines

abbrev pub trail_lines : Saved → List (List ℕ)
trail_lines s = row_line trail_form s.codes ∷ row_lines (forms_of s) s.rows

abbrev pub lines_of : Saved → List (List ℕ)
lines_of s = first_line s.opening ∷ map (row_line clause_form) s.clauses ++ trail_lines s

abbrev Is : List (List ℕ) → Saved → Type 0
Is ls s = WellFormed s × (ls ≡ lines_of s)

behind_said : (o : Opening) (cs ls : List (List ℕ)) (s : Saved) → Whole o.vars → Each (Row clause_form) cs → behind_clauses o cs ls ≡ some s → Is (first_line o ∷ map (row_line clause_form) cs ++ ls) s
unfolding behind_clauses
behind_said o cs [] s h k e = never e
behind_said o cs (l ∷ ls) s h k e =
    given_some (row_in trail_form l) _ e (λ codes d e. given_some (rows_in (forms o.mode o.vars (length codes)) ls) _ e (λ rows ds e.
    let t = (a_row trail_form trail_ready).said l codes d in
    let r = rows_said _ (forms_ready o.mode o.vars (length codes)) ls rows ds in
    same_some (Is (first_line o ∷ map (row_line clause_form) cs ++ (l ∷ ls))) e (record { vars = h; clauses = k; codes = t.1; rows = r.1 }, rw (t.0, r.0))))

saved_said : (ls : List (List ℕ)) (s : Saved) → saved_in ls ≡ some s → Is ls s
unfolding saved_in
saved_said [] s e = never e
saved_said (l ∷ ls) s e =
    given_some (first_in l) _ e (λ o d e. given_some (clauses_in ls) _ e (λ p ds e.
    let f = first.said l o d in
    let c = clauses_said ls p ds in
    rw (f.0, c.0) (behind_said o p.0 p.1 s f.1 c.1 e)))

saved_back : (s : Saved) → WellFormed s → saved_in (lines_of s) ≡ some s
unfolding saved_in behind_clauses begins_clause
saved_back s w =
    let forms = forms_ready s.opening.mode s.opening.vars (length s.codes) in
    rw (
      first.back s.opening w.vars,
      clauses_back s.clauses (row_line trail_form s.codes) (row_lines (forms_of s) s.rows) w.clauses refl,
      (a_row trail_form trail_ready).back s.codes w.codes,
      rows_back (forms_of s) forms s.rows w.rows,
    )

lines_clean : (s : Saved) → WellFormed s → Each (Without newline) (lines_of s)
lines_clean s w =
    let forms = forms_ready s.opening.mode s.opening.vars (length s.codes) in (
      first.clean s.opening w.vars,
      clauses_clean s.clauses (trail_lines s) w.clauses ((a_row trail_form trail_ready).clean s.codes w.codes, rows_clean (forms_of s) forms s.rows w.rows),
    )

-- ---- the bytes

pub last_behind : (p : List ℕ) (ps : List (List ℕ)) → 0 < length ps → last_empty (p ∷ ps) ≡ last_empty ps
unfolding last_empty
last_behind p [] h = absurd (omega arith)
last_behind p (q ∷ ps) h = refl

-- without a newline a text is closed where nothing is left
closed_last : (bs : List ℕ) → find newline bs ≡ length bs → closed bs ≡ eqb (length bs) 0
unfolding last_empty
closed_last bs e = ap last_empty (split_last newline bs e)

-- ended lines are followed by what decides whether the text is closed
closed_line : (piece l more : List ℕ) → last_empty (split_from newline piece (l ++ newline ∷ more)) ≡ closed more
unfolding split_from
closed_line piece [] more = last_behind piece (split_from newline [] more) (omega (arith, split_length newline more))
closed_line piece (b ∷ l) more =
    true_or_false (eqb b newline)
    (λ t. rw t (last_behind piece (split_from newline [] (l ++ newline ∷ more)) (omega (arith, split_length newline (l ++ newline ∷ more))) ∙ closed_line [] l more))
    (λ f. rw f (closed_line (piece ++ (b ∷ [])) l more))

closed_ended : (ls : List (List ℕ)) (rest : List ℕ) → closed (ended ls ++ rest) ≡ closed rest
unfolding ended
closed_ended [] rest = refl
closed_ended (l ∷ ls) rest = rw (append_assoc l (newline ∷ ended ls) rest) (closed_line [] l (ended ls ++ rest) ∙ closed_ended ls rest)

nothing_left : (rest : List ℕ) → length rest ≡ 0 → rest ≡ []
nothing_left [] e = refl
nothing_left (b ∷ rest) e = absurd (omega arith)

-- The reader takes the text of s, and no other text, as s.
pub read_said : (bytes : List ℕ) (s : Saved) → (read_text bytes ≡ some s) ↔ (WellFormed s × (bytes ≡ text_of s))
unfolding read_text text_of occurs last_empty split_from
read_said bytes s = (
  λ e. (let c = cond_some (closed bytes) (saved_in (lines bytes)) e in
      let is = saved_said (lines bytes) s c.1 in
      let l = (lines_said bytes (lines bytes)).0 refl in
      let rest = l.0 in
      let end : closed bytes ≡ eqb (length rest) 0 = ap closed l.1 ∙ closed_ended (lines bytes) rest ∙ closed_last rest (occurs_none newline rest l.2) in
      let none : rest ≡ [] = nothing_left rest (eqb-true (length rest) 0 (sym end ∙ c.0)) in
      (is.0, l.1 ∙ rw (none, append-nil, is.1))),
  λ h. (let text : bytes ≡ ended (lines_of s) ++ [] = h.1 ∙ sym (append-nil (ended (lines_of s))) in
      let l : lines bytes ≡ lines_of s = (lines_said bytes (lines_of s)).1 ([], text, refl, lines_clean s h.0) in
      let end : closed bytes ≡ true = ap closed text ∙ closed_ended (lines_of s) [] in
      rw (end, l) (saved_back s h.0)),
)

-- Two saved states have two texts.
pub text_once : (s u : Saved) → WellFormed s → WellFormed u → text_of s ≡ text_of u → s ≡ u
text_once s u w x e =
    let a : read_text (text_of s) ≡ some s = (read_said (text_of s) s).1 (w, refl) in
    let b : read_text (text_of s) ≡ some u = (read_said (text_of s) u).1 (x, e) in
    cc
