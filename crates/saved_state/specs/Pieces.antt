-- A saved text in the pieces that are written one behind the other: the first line, the clauses, the lines of the trail, and those of the chooser; and
-- what a good session says of the numbers on them. Assumes nothing.
use Rattle.std.specs.Prelude.{ℕ, ◌+◌, ◌*◌, ◌<◌, ◌≤◌, ◌≡◌, List, [], ◌∷◌, ◌++◌, map, length, drop}
use Rattle.std.proofs.Common.{ap, ◌∙◌, append_assoc, arith, drop_of_length-le}
use Rattle.laws.specs.Each.{Each}
use Rattle.lit.specs.Numbers.{NONE, max_vars}
use Rattle.formula.specs.Clauses.{clause, clauses}
use Rattle.formula.specs.Good.{GoodShape}
use Rattle.formula.specs.Reading.{clause_at, clause_length, length_clauses, get_or_clauses, drop_clauses}
use Rattle.trail.specs.Trail.{Trail}
use Rattle.trail.specs.Good.{GoodTrail}
use Rattle.forms.specs.Letters.{clause_letter}
use Rattle.forms.specs.Forms.{Mode}
use Rattle.forms.specs.Spelling.{Whole, ended, mode_text}
use Rattle.saved_text.specs.Saved.{Form, whole, reason, form, Row, clause_form, chooser_forms, Rows, row_line, row_lines, text_of}
use Rattle.saved_text.specs.Puts.{row_text, first_text, max_row}
use Rattle.saved_text.specs.Sinks.{SinkLaws}
use Rattle.saved_text.specs.Writing.{ended_append, text_parts, rows_parts}
use Rattle.saved_state.specs.Written.{codes_of, along, saved_of}
use Rattle.saved_state.specs.Eachs.{each_at}
use Rattle.saved_state.specs.Loops.{Codes}
use Rattle.saved_state.specs.OfTrail.{codes_length, code_is, codes_formed, trail_formed}

unfoldable pub clauses_text : List ℕ → List ℕ → List ℕ
clauses_text lits ends = ended (map (row_line clause_form) (clauses lits ends))

unfoldable pub trail_text : List ℕ → List ℕ → List ℕ → ℕ → List ℕ
trail_text codes levels reasons curr = row_text 116 whole codes ++ (row_text 108 whole (along codes levels) ++ (row_text 114 reason (along codes reasons) ++ row_text 113 whole (curr ∷ [])))

-- what both modes write: the word is that of the mode
unfoldable pub front_text : ℕ → List ℕ → List ℕ → List ℕ → List ℕ → List ℕ → List ℕ → ℕ → List ℕ
front_text n word lits ends codes levels reasons curr = first_text n word ++ (clauses_text lits ends ++ trail_text codes levels reasons curr)

joined : (a b c d e f g : List ℕ) → a ++ (b ++ (c ++ (d ++ (e ++ (f ++ g))))) ≡ (a ++ (b ++ (c ++ (d ++ (e ++ f))))) ++ g
joined a b c d e f g = simp append_assoc

-- how long a text over n variables with so many clauses and literals is at most
abbrev pub longest : ℕ → ℕ → ℕ → ℕ
longest n clauses literals = 80 + 41 * n + 2 * clauses + 5 * literals

-- the text is these, and the lines of the chooser
pub text_pieces : (mode : Mode) (n : ℕ) (lits ends : List ℕ) (t : Trail) (rows : List (List ℕ))
    → text_of (saved_of mode n lits ends t rows) ≡ front_text n (mode_text mode) lits ends (codes_of t) t.levels t.reasons t.curr ++ ended (row_lines (chooser_forms mode n) rows)
unfolding saved_of front_text clauses_text trail_text ended
text_pieces mode n lits ends t rows =
    let k = length (codes_of t) in
    let levels = along (codes_of t) t.levels in
    let reasons = along (codes_of t) t.reasons in
    let fs = chooser_forms mode n in
    let first = first_text n (mode_text mode) in
    let cs = clauses_text lits ends in
    let codes = row_text 116 whole (codes_of t) in
    let ls = row_text 108 whole levels in
    let rs = row_text 114 reason reasons in
    let curr = row_text 113 whole (t.curr ∷ []) in
    let one = rows_parts (form 108 whole k) (form 114 reason k ∷ form 113 whole 1 ∷ fs) levels (reasons ∷ (t.curr ∷ []) ∷ rows) in
    let two = rows_parts (form 114 reason k) (form 113 whole 1 ∷ fs) reasons ((t.curr ∷ []) ∷ rows) in
    let three = rows_parts (form 113 whole 1) fs (t.curr ∷ []) rows in
    text_parts (saved_of mode n lits ends t rows)
    ∙ ap (λ (l : List ℕ). first ++ (cs ++ (codes ++ l))) (one ∙ ap (λ (l : List ℕ). ls ++ l) (two ∙ ap (λ (l : List ℕ). rs ++ l) three))
    ∙ joined first cs codes ls rs curr (ended (row_lines fs rows))

-- and these are four
pub four_lines : (a b c d : Form) (u v w x : List ℕ) → ended (row_lines (a ∷ b ∷ c ∷ d ∷ []) (u ∷ v ∷ w ∷ x ∷ []))
    ≡ row_text a.letter a.kind u ++ (row_text b.letter b.kind v ++ (row_text c.letter c.kind w ++ row_text d.letter d.kind x))
unfolding ended row_lines
four_lines a b c d u v w x =
    let one = rows_parts a (b ∷ c ∷ d ∷ []) u (v ∷ w ∷ x ∷ []) in
    let two = rows_parts b (c ∷ d ∷ []) v (w ∷ x ∷ []) in
    let three = rows_parts c (d ∷ []) w (x ∷ []) in
    one ∙ ap (λ (l : List ℕ). row_text a.letter a.kind u ++ l) (two ∙ ap (λ (l : List ℕ). row_text b.letter b.kind v ++ l) three)

-- ---- the numbers of the trail's lines
pub record TrailLines (codes levels reasons : List ℕ) : Type 0 where
  pub few : length codes ≤ max_vars
  pub codes_fit : Each Whole codes
  pub in_levels : Codes (length levels) codes
  pub in_reasons : Codes (length reasons) codes
  pub levels_fit : Each Whole (along codes levels)
  pub reasons_fit : Each Whole (along codes reasons)

pub trail_lines : {n m : ℕ} {t : Trail} → GoodTrail n m t → n ≤ max_vars → m ≤ NONE → TrailLines (codes_of t) t.levels t.reasons
unfolding Rows
trail_lines {n} {m} {t} g small few =
    let rows = trail_formed g small few [] [] tt in
    let code : Codes n (codes_of t) = λ i h. (let b : i < t.len = omega (arith, codes_length g) in rw (code_is g i b) (g.codes_in i b)) in
    record {
      few = omega (arith, codes_length g, g.len_in);
      codes_fit = (codes_formed g small few).1;
      in_levels = rw g.lengths.levels_long code;
      in_reasons = rw g.lengths.reasons_long code;
      levels_fit = rows.0.1;
      reasons_fit = rows.1.0.1;
    }

-- ---- the clauses, line by line
-- the lines from clause i on
abbrev clauses_left : List ℕ → List ℕ → ℕ → List ℕ
clauses_left lits ends i = ended (map (row_line clause_form) (drop i (clauses lits ends)))

-- once they are put too, the text of all clauses is
pub record ClausesPut {S : Type 0} (puts : S → List ℕ → S → Type 0) (room : S → List ℕ → Type 0) (lits ends : List ℕ) (s u : S) (i : ℕ) : Type 0 where
  pub within : i ≤ length ends
  pub left : room u (clauses_left lits ends i)
  pub rest : (v : S) → puts u (clauses_left lits ends i) v → puts s (clauses_text lits ends) v

clauses_next_line : (lits ends : List ℕ) (i : ℕ) → i < length ends → clauses_left lits ends i ≡ row_text clause_letter whole (clause lits ends i) ++ clauses_left lits ends (i + 1)
unfolding ended
clauses_next_line lits ends i h = rw (drop_clauses lits ends i h) (ended_append (row_line clause_form (clause lits ends i) ∷ []) (map (row_line clause_form) (drop (i + 1) (clauses lits ends))))

module _ {S : Type 0} {puts : S → List ℕ → S → Type 0} {room : S → List ℕ → Type 0} (laws : SinkLaws puts room) (lits ends : List ℕ) where
  pub clauses_start : (s : S) → room s (clauses_text lits ends) → ClausesPut puts room lits ends s s 0
  unfolding clauses_text
  clauses_start s m = record { within = omega arith; left = m; rest = λ v w. w }

  module _ {s u : S} {i : ℕ} (p : ClausesPut puts room lits ends s u i) where
    pub clause_room : i < length ends → room u (row_text clause_letter whole (clause lits ends i))
    clause_room h = laws.room_first (row_text clause_letter whole (clause lits ends i)) (clauses_left lits ends (i + 1)) (rw (clauses_next_line lits ends i h) at p.left)

    pub clauses_next : (v : S) → i < length ends → puts u (row_text clause_letter whole (clause lits ends i)) v → ClausesPut puts room lits ends s v (i + 1)
    clauses_next v h w =
        let line = row_text clause_letter whole (clause lits ends i) in
        record {
          within = omega arith;
          left = laws.room_next line (clauses_left lits ends (i + 1)) (rw (clauses_next_line lits ends i h) at p.left) w;
          rest = λ x q. p.rest x (rw (clauses_next_line lits ends i h) (laws.puts_more w q));
        }

    pub clauses_end : length ends ≤ i → puts s (clauses_text lits ends) u
    unfolding ended
    clauses_end h = p.rest u (rw (drop_of_length-le (clauses lits ends) {i = i} (rw length_clauses h)) (laws.puts_none u))

-- each has numbers that fit, and not too many
pub clause_fits_lem : {lits ends : List ℕ} {i : ℕ} → GoodShape lits ends → Each (Row clause_form) (clauses lits ends) → i < length ends → Each Whole (clause lits ends i) × (length (clause lits ends i) ≤ max_row)
clause_fits_lem {lits} {ends} {i} g f h =
    let row = each_at (Row clause_form) (clauses lits ends) i [] f (omega (arith, length_clauses 0 lits ends)) in
    let at = clause_at g i h in
    ((rw (get_or_clauses lits ends i h) at row).1, omega (arith, clause_length g i h, at.within, g.few_literals_lem))
