-- The form of a saved text as code reads it: lines one behind another, the clauses, the state, and the counts of the whole. As for a line, what was read is the text of it, and where the text of something stands, it is read.
use Rattle.std.specs.Prelude.{ℕ, ◌+◌, ◌<◌, ◌≤◌, ◌≡◌, Bool, true, false, cond, length, get_or, take, drop, Some, None}
use Rattle.std.specs.Prelude as code
use Rattle.std.proofs.Math.Option.{Option, none, some}
use mathlib.Core.List.{List, [], ◌∷◌, ◌++◌, flatten, map}
use Rattle.laws.specs.Each.{Each}
use Rattle.forms.specs.Letters.{clause_letter}
use Rattle.forms.specs.Forms.{Mode, vsids, vmtf, Opening}
use Rattle.forms.specs.Text.{newline, find}
use Rattle.forms.specs.Forms.{first_in}
use Rattle.forms.specs.Read.{mode_of}
use Rattle.forms.specs.declared.Mode as a-mode
use Rattle.forms.specs.declared.Mode.TheVariants as the-modes
use Rattle.forms.specs.Spelling.{ended, first_line}
use Rattle.saved_text.specs.declared.form.TrailRows.{TrailRows}
use Rattle.saved_text.specs.declared.form.HeapRows.{HeapRows}
use Rattle.saved_text.specs.declared.form.ListRows.{ListRows}
use Rattle.saved_text.specs.declared.form.HeapText.{HeapText}
use Rattle.saved_text.specs.declared.form.ListText.{ListText}
use Rattle.saved_text.specs.declared.form.Opened.{Opened}
use Rattle.saved_text.specs.declared.form.Clauses.{Clauses}
use Rattle.saved_text.specs.declared.form.Counts.{Counts}
use Rattle.saved_text.specs.Saved.{whole, long, switch, bits, reason, Form, form, any_of, clause_form, trail_form, forms, Saved, Row, Rows, WellFormed, row_line, row_lines}
use Rattle.saved_text.specs.Reading.{read_text}
use Rattle.saved_text.specs.Greatest.{greatest}
use Rattle.saved_text.specs.Puts.{row_text}

-- lines of these forms
abbrev pub rows_text : List Form → List (List ℕ) → List ℕ
rows_text fs rows = ended (row_lines fs rows)

-- Rows of these forms, and no others, stand from one place of a text up to another.
pub record Stand (fs : List Form) (text : List ℕ) (at p : ℕ) (rows : List (List ℕ)) : Type 0 where
  pub are : Rows fs rows
  pub within : p ≤ length text
  pub text_is : drop at text ≡ rows_text fs rows ++ drop p text
  pub only : (others : List (List ℕ)) (rest : List ℕ) → Rows fs others → drop at text ≡ rows_text fs others ++ rest → others ≡ rows

-- a row stands in front in a slice that has room for it; so do rows in theirs, as far as there are slices
abbrev pub Front : List ℕ → List ℕ → Type 0
Front out vs = length vs ≤ length out → take (length vs) out ≡ vs

unfoldable pub Fronts : List (List ℕ) → List (List ℕ) → Type 0
Fronts [] rows = Unit
Fronts (out ∷ outs) [] = Unit
Fronts (out ∷ outs) (vs ∷ rows) = Front out vs × Fronts outs rows

-- The place behind such rows was found, and they stand in front in their slices, or there are none.
pub record PastRows (fs : List Form) (text : List ℕ) (at : ℕ) (r : code.Option ℕ) (outs : List (List ℕ)) : Type 0 where
  pub sound : (p : ℕ) → r ≡ Some p → (rows : List (List ℕ)) × Stand fs text at p rows
  pub complete : (rows : List (List ℕ)) (rest : List ℕ) → Rows fs rows → drop at text ≡ rows_text fs rows ++ rest → (r ≡ Some (at + length (rows_text fs rows))) × Fronts outs rows

-- The same of a line whose numbers are counted, with the greatest of them, and of rows behind it whose forms its count says.
pub record HeadRead (f : Form) (more : ℕ → List Form) (text : List ℕ) (at : ℕ) (r : code.Option ℕ) (count top : ℕ) (out : List ℕ) (outs : List (List ℕ)) : Type 0 where
  pub sound : (p : ℕ) → r ≡ Some p → (vs : List ℕ) × (rows : List (List ℕ)) × (q : ℕ) × Stand (f ∷ []) text at q (vs ∷ []) × Stand (more (length vs)) text q p rows
  pub complete : (vs : List ℕ) (rows : List (List ℕ)) (rest : List ℕ) → Row f vs → Rows (more (length vs)) rows
      → drop at text ≡ row_text f.letter f.kind vs ++ (rows_text (more (length vs)) rows ++ rest)
      → (r ≡ Some (at + length (row_text f.letter f.kind vs) + length (rows_text (more (length vs)) rows))) × (count ≡ length vs) × (top ≡ greatest vs) × Front out vs × Fronts outs rows

-- the lines behind that of the trail's codes; of the heap's members; of the list's order
abbrev pub trail_rest : ℕ → List Form
trail_rest k = form 108 whole k ∷ form 114 reason k ∷ form 113 whole 1 ∷ []

abbrev pub heap_rest : ℕ → List Form
heap_rest n = form 97 bits n ∷ form 111 switch n ∷ form 119 bits 2 ∷ []

abbrev pub list_rest : ℕ → List Form
list_rest n = form 115 long n ∷ form 107 long 1 ∷ form 102 reason 1 ∷ []

-- as code has them
abbrev pub TrailRead : List ℕ → ℕ → code.Option TrailRows → List ℕ → List ℕ → List ℕ → Type 0
TrailRead text at (Some t) trail levels reasons = HeadRead trail_form trail_rest text at (Some t.behind) t.count t.greatest trail (levels ∷ reasons ∷ (t.curr ∷ []) ∷ [])
TrailRead text at None trail levels reasons = HeadRead trail_form trail_rest text at None 0 0 trail []

abbrev pub HeapRead : ℕ → List ℕ → ℕ → code.Option HeapRows → List ℕ → List ℕ → List ℕ → Type 0
HeapRead n text at (Some h) members activities switches = HeadRead (any_of 104 whole) (λ k. heap_rest n) text at (Some h.behind) h.count h.greatest members (activities ∷ switches ∷ (h.inc ∷ h.decay ∷ []) ∷ [])
HeapRead n text at None members activities switches = HeadRead (any_of 104 whole) (λ k. heap_rest n) text at None 0 0 members []

abbrev pub ListRead : ℕ → List ℕ → ℕ → code.Option ListRows → List ℕ → List ℕ → Type 0
ListRead n text at (Some l) order stamps = HeadRead (form 118 whole n) (λ k. list_rest n) text at (Some l.behind) n l.greatest order (stamps ∷ (l.timestamp ∷ []) ∷ (l.search ∷ []) ∷ [])
ListRead n text at None order stamps = HeadRead (form 118 whole n) (λ k. list_rest n) text at None 0 0 order []

-- a mode that code has, and what a first line with n variables and a mode opens
abbrev pub the_mode : a-mode.Mode → Mode
the_mode the-modes.Heap = vsids
the_mode the-modes.List = vmtf

abbrev pub opens : ℕ → Mode → Opening
opens n mode = record { vars = n; mode = mode }

abbrev pub opened : ℕ → Bool → Opening
opened n list = opens n (cond list vmtf vsids)

-- the lines of a state: the codes of the trail say how many numbers stand on some of the others
abbrev pub behind_trail : Opening → ℕ → List Form
behind_trail o k = forms o.mode o.vars k

abbrev pub state_forms : Opening → List ℕ → List Form
state_forms o codes = trail_form ∷ behind_trail o (length codes)

-- The place behind them was found, or no state stands there.
pub record StateRead (o : Opening) (text : List ℕ) (at : ℕ) (r : code.Option ℕ) : Type 0 where
  pub sound : (p : ℕ) → r ≡ Some p → (codes : List ℕ) × (rows : List (List ℕ)) × Stand (state_forms o codes) text at p (codes ∷ rows)
  pub complete : (codes : List ℕ) (rows : List (List ℕ)) (rest : List ℕ) → Rows (state_forms o codes) (codes ∷ rows) → drop at text ≡ rows_text (state_forms o codes) (codes ∷ rows) ++ rest
      → r ≡ Some (at + length (rows_text (state_forms o codes) (codes ∷ rows)))

-- the clauses, and how code has them
abbrev pub clauses_text : List (List ℕ) → List ℕ
clauses_text cs = ended (map (row_line clause_form) cs)

abbrev pub clauses_of : ℕ → List (List ℕ) → Clauses
clauses_of at cs = record { count = length cs; literals = length (flatten cs); greatest = greatest (flatten cs); behind = at + length (clauses_text cs) }

-- the ends of clauses, the first of which starts at a place
unfoldable pub ends_from : ℕ → List (List ℕ) → List ℕ
ends_from at [] = []
ends_from at (c ∷ cs) = (at + length c) ∷ ends_from (at + length c) cs

-- Clauses stand in front in slices that have room for them: their codes, and their ends.
pub record ClausesHeld (cs : List (List ℕ)) (lits ends : List ℕ) : Type 0 where
  pub codes_held : Front lits (flatten cs)
  pub ends_held : length (flatten cs) ≤ length lits → length cs ≤ length ends → take (length cs) ends ≡ ends_from 0 cs

-- no clause begins the bytes
abbrev pub Clauseless : List ℕ → Type 0
Clauseless [] = Unit
Clauseless (b ∷ bs) = b ≡ clause_letter → ⊥

-- These clauses, and no others, stand from a place on, and no clause behind them.
pub record ClausesAre (text : List ℕ) (at : ℕ) (c : Clauses) : Type 0 where
  pub clauses : List (List ℕ)
  pub are : c ≡ clauses_of at clauses
  pub rows : Each (Row clause_form) clauses
  pub within : c.behind ≤ length text
  pub text_is : drop at text ≡ clauses_text clauses ++ drop c.behind text
  pub last : Clauseless (drop c.behind text)
  pub only : (cs : List (List ℕ)) (rest : List ℕ) → Each (Row clause_form) cs → Clauseless rest → drop at text ≡ clauses_text cs ++ rest → cs ≡ clauses

-- They were read, or a line that begins as theirs do is no clause.
pub record SectionRead (text : List ℕ) (at : ℕ) (r : code.Option Clauses) (lits ends : List ℕ) : Type 0 where
  pub sound : (c : Clauses) → r ≡ Some c → ClausesAre text at c
  pub complete : (cs : List (List ℕ)) (rest : List ℕ) → Each (Row clause_form) cs → Clauseless rest → drop at text ≡ clauses_text cs ++ rest → (r ≡ Some (clauses_of at cs)) × ClausesHeld cs lits ends

-- the whole: behind the first line stand the clauses and the state
abbrev pub counts_with : Opening → ℕ → Clauses → Counts
counts_with o at c = record { mode = mode_of o.mode; n = o.vars; first = at; clauses = c }

abbrev pub counts_from : ℕ → Saved → Counts
counts_from at s = counts_with s.opening at (clauses_of at s.clauses)

abbrev pub behind_text : Saved → List ℕ
behind_text s = clauses_text s.clauses ++ rows_text (state_forms s.opening s.codes) (s.codes ∷ s.rows)

-- They were counted up to the end of the text, or the text goes on otherwise.
pub record BehindRead (o : Opening) (text : List ℕ) (at : ℕ) (r : code.Option Counts) : Type 0 where
  pub sound : (c : Counts) → r ≡ Some c → (s : Saved) × WellFormed s × (s.opening ≡ o) × (c ≡ counts_from at s) × (drop at text ≡ behind_text s)
  pub complete : (s : Saved) → WellFormed s → s.opening ≡ o → drop at text ≡ behind_text s → r ≡ Some (counts_from at s)

-- The counts of a text that says s: its mode, variables and clauses, the place of the first clause, and that of the trail.
abbrev pub counts_of : Saved → Counts
counts_of s = counts_from (length (ended (first_line s.opening ∷ []))) s

abbrev pub formed_of : Option Saved → code.Option Counts
formed_of none = None
formed_of (some s) = Some (counts_of s)

-- Where the clauses and the state of a text stand that says s: who reads them again starts there.
pub record Placed (text : List ℕ) (s : Saved) : Type 0 where
  pub well : WellFormed s
  pub first : (counts_of s).first ≤ length text
  pub clauses : drop (counts_of s).first text ≡ behind_text s
  pub trail : (counts_of s).clauses.behind ≤ length text
  pub state : drop (counts_of s).clauses.behind text ≡ rows_text (state_forms s.opening s.codes) (s.codes ∷ s.rows)

-- The first line of a text ends before a place, and opens a session.
pub record OpensWith (text : List ℕ) (at : ℕ) (o : Opening) : Type 0 where
  pub end : ℕ
  pub is_end : end ≡ find newline text
  pub place : at ≡ end + 1
  pub found : end < length text
  pub line : first_in (take end text) ≡ some o

-- as code has it
abbrev pub OpeningRead : List ℕ → code.Option Opened → Type 0
OpeningRead text (Some o) = OpensWith text o.at (opens o.n (the_mode o.mode))
OpeningRead text None = read_text text ≡ none

-- What a text says stands in memory, as far as there is room: its clauses, the codes of the trail, and its rows; the line behind the trail's is counted.
pub record Told (s : Saved) (c : Clauses) (t : TrailRows) (count top : ℕ) (lits ends trail : List ℕ) (outs : List (List ℕ)) : Type 0 where
  pub clauses : c.count ≡ length s.clauses
  pub literals : c.literals ≡ length (flatten s.clauses)
  pub highest : c.greatest ≡ greatest (flatten s.clauses)
  pub clauses_held : ClausesHeld s.clauses lits ends
  pub codes : t.count ≡ length s.codes
  pub high_code : t.greatest ≡ greatest s.codes
  pub codes_held : Front trail s.codes
  pub members : count ≡ length (get_or s.rows 3 [])
  pub high_member : top ≡ greatest (get_or s.rows 3 [])
  pub rows : Fronts outs s.rows

-- as code has it
abbrev pub HeapTold : Option Saved → code.Option HeapText → List ℕ → List ℕ → List ℕ → List ℕ → List ℕ → List ℕ → List ℕ → List ℕ → Type 0
HeapTold none r lits ends trail levels reasons members activities switches = r ≡ None
HeapTold (some s) r lits ends trail levels reasons members activities switches = (c : Clauses) × (t : TrailRows) × (h : HeapRows) × (r ≡ Some (record { clauses = c; trail = t; heap = h }))
    × Told s c t h.count h.greatest lits ends trail (levels ∷ reasons ∷ (t.curr ∷ []) ∷ members ∷ activities ∷ switches ∷ (h.inc ∷ h.decay ∷ []) ∷ [])

abbrev pub ListTold : ℕ → Option Saved → code.Option ListText → List ℕ → List ℕ → List ℕ → List ℕ → List ℕ → List ℕ → List ℕ → Type 0
ListTold n none r lits ends trail levels reasons order stamps = r ≡ None
ListTold n (some s) r lits ends trail levels reasons order stamps = (c : Clauses) × (t : TrailRows) × (l : ListRows) × (r ≡ Some (record { clauses = c; trail = t; list = l }))
    × Told s c t n l.greatest lits ends trail (levels ∷ reasons ∷ (t.curr ∷ []) ∷ order ∷ stamps ∷ (l.timestamp ∷ []) ∷ (l.search ∷ []) ∷ [])
