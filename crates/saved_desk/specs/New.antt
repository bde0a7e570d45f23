-- A sheet whose session is saved at its end, as code runs it: the room for the text, judged by the clause lines, then the answers and the text. Assumes nothing.
use Rattle.std.specs.Prelude.{ℕ, ◌+◌, ◌≤◌, ◌<◌, ◌≡◌, Bool, true, false, List, [], ◌++◌, leb, length, take, Ok, Err}
use Rattle.std.proofs.Math.Path.{refl}
use Rattle.std.proofs.Common.{sym, ap, subst, ◌∙◌, arith, le-leb}
use Rattle.std.proofs.Math.Option.{none, some}
use Rattle.std.proofs.lemmas.Bool.{lt-leb}
use Rattle.lit.specs.declared.Refusal.TheVariants.{ShortBuffer}
use Rattle.lit.specs.Numbers.{max_vars, max_clauses, max_literals, many_vars}
use Rattle.book.specs.Session.{Result, done, need}
use Rattle.forms.specs.Text.{newline, lines, occurs, written}
use Rattle.forms.specs.TextLaws.{lines_end}
use Rattle.std.specs.Prelude as code
use Rattle.forms.specs.declared.Opening as opens
use Rattle.forms.specs.declared.Mode as mode
use Rattle.forms.specs.Forms.{Mode, vsids, Opening, first_in}
use Rattle.forms.specs.Read.{first_of}
use Rattle.forms.specs.Written.{Wrote, put_more}
use Rattle.forms.specs.Written.{Wrote}
use Rattle.sheet.specs.declared.Place.{Place}
use Rattle.sheet.specs.declared.clauses.Section.{Section}
use Rattle.sheet.specs.Sheet.{answer_line, ClauseList, clause_lines, listed, opening, answered}
use Rattle.sheet.specs.Stages.{reading, on_list, opened, answers, started}
use Rattle.sheet.specs.Running.{lines_from, line_length, after, next_clause, Room, stage_of, SoFar}
use Rattle.sheet.proofs.ClauseLines.{listed_good, no_clause_line}
use Rattle.sheet.proofs.Section.{session_ended, section_ended}
use Rattle.sheet.specs.Opening.{mode_of, opening_at, opening_of, at_first}
use Rattle.sheet.proofs.Opening.{first_told, first_lines, first_answers, no_clauses}
use Rattle.saved_sheet.specs.Sheets.{text_held, text_room, with_text, held_behind, held_first, held_by, with_text_of}
use Rattle.saved_run.specs.declared.Both.{Both}
use Rattle.saved_run.specs.Outcomes.{Comes}
use Rattle.saved_run.specs.Ends.{stage_text, Saves}
use Rattle.saved_run.specs.Behind.{text_behind, text_over, list_over}

-- the room that the text needs of the session over n variables which lines behind a first line make
abbrev pub room_behind : ℕ → List (List ℕ) → ℕ
room_behind n ls = let list = listed n ([], []) (clause_lines ls) in text_room n (length list.1) (length list.0)

-- what they come to, the first line being accepted, with so many bytes for the text
abbrev pub new_behind : ℕ → Opening → List (List ℕ) → Result (List ℕ × List ℕ)
new_behind space o ls = with_text space (answer_line 1 0 none ++ answers 2 (on_list o.mode o.vars ([], [])) ls) (held_behind o ls)

-- and what a sheet comes to whose first line came to x
abbrev pub new_first : ℕ → Result Opening → List (List ℕ) → Result (List ℕ × List ℕ)
new_first space x ls = with_text_of space (started x ls) (held_first x ls)

-- ---- the room

-- any session over n variables has room where one of the most clauses and literals has
pub room_most : (n : ℕ) (ls : List (List ℕ)) → room_behind n ls ≤ text_room n max_clauses max_literals
room_most n ls = let g = listed_good n (clause_lines ls) ([], []) (no_clauses n) in omega (arith, g.list.few_clauses, g.list.few_literals_lem)

module _ {n : ℕ} {sheet : List ℕ} {s u : Section} {out lits ends out' lits' ends' : List ℕ} (so : SoFar n sheet s out lits ends u out' lits' ends') (over : next_clause (lines_from sheet u.place.from) ≡ false) where
  -- the clause lines leave the list that they say
  section_list : ◌≡◌ {A = ClauseList} (take u.literals lits', take u.clauses ends') (listed n (take s.literals lits, take s.clauses ends) (clause_lines (lines_from sheet s.place.from)))
  section_list =
      list_over vsids n (take s.literals lits, take s.clauses ends) (take u.literals lits', take u.clauses ends') (lines_from sheet s.place.from) (lines_from sheet u.place.from) (so.end vsids).stage over

  -- so there is room for the text of its session
  pub section_room : (space : ℕ) → s.literals ≡ 0 → s.clauses ≡ 0 → room_behind n (lines_from sheet s.place.from) ≤ space → text_room n (length (take u.clauses ends')) (length (take u.literals lits')) ≤ space
  section_room space a b h = subst (λ (l : ClauseList). text_room n (length l.1) (length l.0) ≤ space) (sym (rw (a, b) at section_list)) h

-- without clause lines there are none
pub room_none : (n : ℕ) (ls : List (List ℕ)) → next_clause ls ≡ false → room_behind n ls ≡ text_room n 0 0
unfolding listed
room_none n ls over = rw (no_clause_line ls over) refl

-- ---- answers and text

-- where no clause line comes next, what saves the session made fresh saves it
pub session_saves : (mode : Mode) {n : ℕ} {sheet lits ends out text out' text' : List ℕ} {p : Place} {b : Both} → next_clause (lines_from sheet p.from) ≡ false
    → Saves sheet p (opened mode n lits ends) out text b out' text' → Saves sheet p (reading mode n lits ends) out text b out' text'
session_saves mode {n} {sheet} {lits} {ends} {text = text} {text' = text'} {p = p} {b = b} over x = record {
  answers = session_ended mode over x.answers;
  saved = subst (λ (t : List ℕ). Wrote 0 t text text' b.text) (sym (text_over mode n lits ends (lines_from sheet p.from) over)) x.saved;
}

-- the clause lines answered, it saves it from the first of them on
pub section_saves : (mode : Mode) {n : ℕ} {sheet out lits ends out' lits' ends' text out'' text' : List ℕ} {s u : Section} {b : Both} → SoFar n sheet s out lits ends u out' lits' ends'
    → next_clause (lines_from sheet u.place.from) ≡ false → Saves sheet u.place (opened mode n (take u.literals lits') (take u.clauses ends')) out' text b out'' text'
    → Saves sheet s.place (stage_of mode n lits ends s) out text b out'' text'
section_saves mode {text = text} {text' = text'} {b = b} so over x = record {
  answers = section_ended mode so over x.answers;
  saved = subst (λ (t : List ℕ). Wrote 0 t text text' b.text) (ap stage_text (so.end mode).stage) (session_saves mode over x).saved;
}

module _ (m : mode.Mode) (n : ℕ) (ls : List (List ℕ)) (out text : List ℕ) where
  -- 2, and nothing is written
  pub new_short : leb (room_behind n ls) (length text) ≡ false → Comes (new_behind (length text) (opening_at m n) ls) out text (Err ShortBuffer) out text
  unfolding need
  new_short few = rw few (ShortBuffer, refl, refl, refl, refl)

-- or the answers and the text
pub new_saved : (m : mode.Mode) (n count end : ℕ) {sheet out out' out'' text text' : List ℕ} {at : ℕ} {b : Both} → room_behind n (lines_from sheet (end + 1)) ≤ length text → Wrote 0 (answer_line 1 0 none) out out' at
    → Saves sheet (after (at_first count) end at) (reading (mode_of m) n [] []) out' text b out'' text'
    → Comes (new_behind (length text) (opening_at m n) (lines_from sheet (end + 1))) out text (Ok b) out'' text'
unfolding need
new_saved m n count end {sheet} {out} {out'' = out''} {text = text} {b = b} room w s =
    let ls = lines_from sheet (end + 1) in
    let a : Wrote 0 (answer_line 1 0 none ++ answers 2 (reading (mode_of m) n [] []) ls) out out'' b.answers = put_more w (record { buffer = s.answers.buffer; place = s.answers.count }) in
    let t = text_behind (opening_at m n) ls in
    let first : b.answers ≡ length (answer_line 1 0 none ++ answers 2 (reading (mode_of m) n [] []) ls) = omega (arith, a.place) in
    let second : b.text ≡ length (text_held (held_behind (opening_at m n) ls)) = omega (arith, s.saved.place, ap length t) in
    rw (le-leb (room_behind n ls) (length text) room) (ap Ok (λ i. record { answers = first i; text = second i }), a.buffer, s.saved.buffer ∙ ap (λ (x : List ℕ). written 0 x text) t)

-- ---- the first line

-- 4 alone, or the session with the lines behind it
module _ (m : mode.Mode) (n space : ℕ) (ls : List (List ℕ)) where
  pub first_many : max_vars < n → new_first space (opening (some (opening_at m n))) ls ≡ done none (answer_line 1 many_vars none, [])
  unfolding need
  first_many many = rw (lt-leb n max_vars many) refl

  pub first_few : n ≤ max_vars → new_first space (opening (some (opening_at m n))) ls ≡ new_behind space (opening_at m n) ls
  unfolding need
  first_few few = rw (le-leb n max_vars few) refl

-- the sheet comes to what was read of its first line
pub first_read : {sheet out : List ℕ} {count end : ℕ} {x : code.Option opens.Opening} (space : ℕ) → Room sheet (at_first count) out → 0 < count → end ≡ line_length sheet 0 → x ≡ first_of (first_in (take end sheet))
    → with_text_of space (answered (lines sheet)) (held_by (lines sheet)) ≡ new_first space (opening (opening_of x)) (lines_from sheet (end + 1))
unfolding held_by
first_read {sheet} {end = end} space room more e h = rw (first_answers room more, first_lines room more, sym e, first_told (first_in (take end sheet)) h) refl

-- a sheet without lines has neither
pub no_lines : (sheet : List ℕ) (space : ℕ) → occurs newline sheet ≡ 0 → with_text_of space (answered (lines sheet)) (held_by (lines sheet)) ≡ done none ([], [])
unfolding answered held_by
no_lines sheet space empty = rw (lines_end sheet empty) refl
