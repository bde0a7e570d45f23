-- A sheet whose session is saved behind its last line, and a sheet of calls on a saved session: from bytes to bytes. docs/SAVED.md has the text.
use Rattle.std.specs.Prelude.{ℕ, ◌+◌, ◌*◌, true, List, [], ◌∷◌, map, leb, length, drop}
use Rattle.std.proofs.Math.Option.{Option, none, some}
use Rattle.lit.specs.Numbers.{max_sheet, answer_room, long_sheet, short_buffer, bad_saved}
use Rattle.vsids.specs.Vsids.{Vsids}
use Rattle.vmtf.specs.Vmtf.{Vmtf}
use Rattle.book.specs.Calls.{Call}
use Rattle.choosers.specs.Heap.{heap_ops}
use Rattle.choosers.specs.List.{list_ops}
use Rattle.book.specs.Session.{Result, done, refuse, mapped, need}
use Rattle.book.specs.Claim.{Run, starting_with, begin, run}
use Rattle.book.specs.Read.{calls_of}
use Rattle.forms.specs.Text.{newline, lines, occurs}
use Rattle.forms.specs.Forms.{Mode, vsids, vmtf, Opening, call_in, first_in}
use Rattle.saved_text.specs.Saved.{Saved, text_of}
use Rattle.saved_text.specs.Reading.{read_text}
use Rattle.saved_state.specs.Written.{heap_rows, list_rows, saved_of}
use Rattle.saved_state.specs.Entry.{Memory, read_with}
use Rattle.heap_saved.specs.Reader.{heap_reader}
use Rattle.list_saved.specs.Reader.{list_reader}
use Rattle.sheet.specs.Sheet.{session_answers, ClauseList, chooser_of, clause_lines, listed, opening, answered}

-- a session of either mode, over its clause list, with the run that led to it
pub record Held : Type 0 where
  pub mode : Mode
  pub vars : ℕ
  pub list : ClauseList
  pub run : Run vars (length list.1) (chooser_of mode vars list)

-- its text
abbrev pub chooser_rows : (mode : Mode) (n : ℕ) (list : ClauseList) → (chooser_of mode n list).State → List (List ℕ)
chooser_rows vsids n list h = heap_rows h
chooser_rows vmtf n list l = list_rows l

abbrev pub text_held : Held → List ℕ
text_held h = let s = h.run.now in text_of (saved_of h.mode h.vars h.list.0 h.list.1 s.trail (chooser_rows h.mode h.vars h.list s.chooser))

-- 'at most 80 + 41 N + 2 m + 5 L bytes': the room that a text may need
abbrev pub text_room : ℕ → ℕ → ℕ → ℕ
text_room n clauses literals = 80 + 41 * n + 2 * clauses + 5 * literals

abbrev pub room_for : Held → ℕ
room_for h = text_room h.vars (length h.list.1) (length h.list.0)

-- the session that calls leave
abbrev pub after_calls : Held → List (Option Call) → Held
after_calls h cs =
    let n = h.vars in
    record { mode = h.mode; vars = n; list = h.list; run = run n (length h.list.1) (chooser_of h.mode n h.list) h.run (calls_of cs) }

-- answers and a text, and refusal 2 where the text may have no room
abbrev pub with_text : ℕ → List ℕ → Held → Result (List ℕ × List ℕ)
with_text space answers h = need (leb (room_for h) space) short_buffer (done none (answers, text_held h))

-- 1 and 2 by the sheet, as `ran` has them
abbrev pub taken : {S : Type 0} → List ℕ → ℕ → Result S → Result S
taken sheet room x = need (leb (length sheet) max_sheet) long_sheet (need (leb (answer_room * occurs newline sheet) room) short_buffer x)

-- ---- a new session

-- the session that lines leave behind an accepted first line, as `behind_first` runs them
abbrev pub held_behind : Opening → List (List ℕ) → Held
held_behind o ls =
    let n = o.vars in
    let cs = clause_lines ls in
    let list = listed n ([], []) cs in
    after_calls (record { mode = o.mode; vars = n; list = list; run = begin n (length list.1) (chooser_of o.mode n list) }) (map call_in (drop (length cs) ls))

abbrev pub held_first : Result Opening → List (List ℕ) → Option Held
held_first (done r o) ls = some (held_behind o ls)
held_first (refuse k) ls = none

unfoldable pub held_by : List (List ℕ) → Option Held
held_by [] = none
held_by (line ∷ ls) = held_first (opening (first_in line)) ls

-- without a session there is no text
abbrev pub with_text_of : ℕ → List ℕ → Option Held → Result (List ℕ × List ℕ)
with_text_of space answers none = done none (answers, [])
with_text_of space answers (some h) = with_text space answers h

-- a sheet with the text of its session: its answers are those of `ran`
unfoldable pub ran_new : List ℕ → ℕ → ℕ → Result (List ℕ × List ℕ)
ran_new sheet room space = taken sheet room (with_text_of space (answered (lines sheet)) (held_by (lines sheet)))

-- ---- a saved session

-- the session that a text says, in the mode that it names, read into memory of its lengths
abbrev pub heap_held : ℕ → Memory Vsids → Held
heap_held n (lits, ends, t, h) = record { mode = vsids; vars = n; list = (lits, ends); run = starting_with n (length ends) (heap_ops n lits ends) (record { trail = t; chooser = h }) }

abbrev pub list_held : ℕ → Memory Vmtf → Held
list_held n (lits, ends, t, l) = record { mode = vmtf; vars = n; list = (lits, ends); run = starting_with n (length ends) (list_ops n lits) (record { trail = t; chooser = l }) }

abbrev pub held_said : Mode → Saved → Result Held
held_said vsids s = mapped (heap_held s.opening.vars) (read_with heap_reader true s)
held_said vmtf s = mapped (list_held s.opening.vars) (read_with list_reader true s)

abbrev pub held_of : Option Saved → Result Held
held_of none = refuse bad_saved
held_of (some s) = held_said s.opening.mode s

unfoldable pub held_in : List ℕ → Result Held
held_in text = held_of (read_text text)

-- lines on a session, each a call, numbered from i on: the answers, and the text of the session that they leave
abbrev pub answers_held : Held → ℕ → List (Option Call) → List ℕ
answers_held h i cs = let n = h.vars in session_answers n (length h.list.1) (chooser_of h.mode n h.list) h.run.now i cs

abbrev pub carried_on : ℕ → List (Option Call) → Result Held → Result (List ℕ × List ℕ)
carried_on space cs (done r h) = with_text space (answers_held h 1 cs) (after_calls h cs)
carried_on space cs (refuse k) = refuse k

-- a sheet of calls on the session that a text says: 1, 2, 15, 4, 6, 7, and 2 for the room of the text
unfoldable pub ran_on : List ℕ → List ℕ → ℕ → ℕ → Result (List ℕ × List ℕ)
ran_on old sheet room space = taken sheet room (carried_on space (map call_in (lines sheet)) (held_in old))
