-- What is claimed of sheets with saved sessions. proofs/Claims.antt proves it: `new_answers`, `new_text`, `on_text`, `for_ever`, `carried_on`, `carried_again`, `day_told`,
-- `day_term3`.
use Rattle.std.specs.Prelude.{ℕ, ◌+◌, ◌*◌, ◌≤◌, ◌<◌, ◌≡◌, ◌⊎◌, true, false, List, [], ◌++◌, map, reverse, length, drop}
use Rattle.std.proofs.Math.Option.{Option, none, some}
use Rattle.laws.specs.Each.{Each}
use Rattle.lit.specs.Numbers.{max_sheet, answer_room, short_buffer}
use Rattle.book.specs.Calls.{Call, Line}
use Rattle.book.specs.Session.{Result, done, refuse, status, mapped, Session}
use Rattle.book.specs.Claim.{log, starting_with, Claim}
use Rattle.book.specs.Saved.{forgotten, read_back}
use Rattle.forms.specs.Text.{newline, lines, occurs}
use Rattle.forms.specs.Forms.{Mode, vsids, vmtf, call_in, begins_clause}
use Rattle.saved_text.specs.Reading.{closed}
use Rattle.heap_saved.specs.Reader as heap-saved
use Rattle.list_saved.specs.Reader as list-saved
use Rattle.sheet.specs.Sheet.{logged, ClauseList, chooser_of, ran}
use Rattle.sheet.specs.Running.{next_clause}
use Rattle.saved_sheet.specs.Sheets.{Held, text_held, room_for, after_calls, held_by, held_in, ran_new, ran_on}

-- the calls that a sheet's lines say
abbrev pub calls_on : List ℕ → List (Option Call)
calls_on sheet = map call_in (lines sheet)

-- a good session has a text
abbrev pub Savable : (mode : Mode) (n : ℕ) (list : ClauseList) → Session n (length list.1) (chooser_of mode n list) → Type 0
Savable vsids n list s = heap-saved.Savable n (list.0, list.1, s.trail, s.chooser)
Savable vmtf n list s = list-saved.Savable n (list.0, list.1, s.trail, s.chooser)

abbrev pub Good : Held → Type 0
Good h = Savable h.mode h.vars h.list h.run.now

-- what it is read back as: the levels of unassigned variables are forgotten, and the run that led to it is not in the text
abbrev pub read_held : Held → Held
read_held h =
    let n = h.vars in
    record { mode = h.mode; vars = n; list = h.list; run = starting_with n (length h.list.1) (chooser_of h.mode n h.list) (forgotten h.run.now) }

-- The bytes are the text of the good session h. They fit the space that was lent, and reading them refuses nothing.
pub record TextOf (h : Held) (space : ℕ) (text : List ℕ) : Type 0 where
  pub good : Good h
  pub is : text ≡ text_held h
  pub fits : length text ≤ space
  pub read : held_in text ≡ done none (read_held h)

-- ---- one sheet

-- A new sheet is answered, or refused, as without saving, unless there is no room for the text of its session.
abbrev pub NewAnswers : Type 0
NewAnswers = (sheet : List ℕ) (room space : ℕ) → (mapped (λ (p : List ℕ × List ℕ). p.0) (ran_new sheet room space) ≡ ran sheet room)
    ⊎ ((h : Held) × (held_by (lines sheet) ≡ some h) × (space < room_for h) × (ran_new sheet room space ≡ refuse short_buffer))

-- Where its first line is accepted, its text is that of a good session; else there is none.
abbrev pub TextNew : List ℕ → ℕ → Option Held → Type 0
TextNew text space none = text ≡ []
TextNew text space (some h) = TextOf h space text

abbrev pub NewText : Type 0
NewText = (sheet : List ℕ) (room space : ℕ) (x text : List ℕ) → ran_new sheet room space ≡ done none (x, text) → TextNew text space (held_by (lines sheet))

-- So is the text that a sheet of calls leaves: of the session that was read, behind its calls. Its answers fit their room.
abbrev pub OnText : Type 0
OnText = (old sheet : List ℕ) (room space : ℕ) (y text : List ℕ) → ran_on old sheet room space ≡ done none (y, text)
    → (h : Held) × (held_in old ≡ done none h) × TextOf (after_calls h (calls_on sheet)) space text × (length y ≤ room)

-- Once saved, a session is carried on for ever: a sheet of calls is refused by 1 or 2 alone, and the room for the text stays as it was.
abbrev pub ForEver : Type 0
ForEver = (h : Held) (old : List ℕ) (before : ℕ) → TextOf h before old → (sheet : List ℕ) (room space : ℕ)
    → length sheet ≤ max_sheet → answer_room * occurs newline sheet ≤ room → room_for h ≤ space → status (ran_on old sheet room space) ≡ 0

-- ---- two sheets, or one long one

-- z is y with its lines' numbers counted on by k: what one log says of the calls
abbrev pub CountedOn : ℕ → List (Option Call) → List ℕ → List ℕ → Type 0
CountedOn k cs y z = (ls : List Line) × (y ≡ logged 1 cs ls) × (z ≡ logged (1 + k) cs ls)

-- The sheets a and b are run one behind the other, b on the text that a left, and as one long sheet: the long one answers as both do, and leaves the same text.
pub record Cut (run : List ℕ → Result (List ℕ × List ℕ)) (a b : List ℕ) (room space : ℕ) : Type 0 where
  pub x : List ℕ
  pub y : List ℕ
  pub z : List ℕ
  pub text : List ℕ
  pub last : List ℕ
  pub first : run a ≡ done none (x, text)
  pub second : ran_on text b room space ≡ done none (y, last)
  pub counted : CountedOn (length (lines a)) (calls_on b) y z
  pub long : run (a ++ b) ≡ done none (x ++ z, last)

-- where all lines behind a's first line are clause lines, b does not begin with another
abbrev pub NoMoreClauses : List ℕ → List ℕ → Type 0
NoMoreClauses a b = Each (λ l. begins_clause l ≡ true) (drop 1 (lines a)) → next_clause (lines b) ≡ false

-- 'a' ends in a newline, its first line is accepted, and the long sheet has room
abbrev pub CarriedOn : Type 0
CarriedOn = (a b : List ℕ) (room space : ℕ) (h : Held) → closed a ≡ true → held_by (lines a) ≡ some h → NoMoreClauses a b
    → status (ran_new (a ++ b) room space) ≡ 0 → Cut (λ sheet. ran_new sheet room space) a b room space

abbrev pub CarriedAgain : Type 0
CarriedAgain = (old a b : List ℕ) (room space : ℕ) → closed a ≡ true → status (ran_on old (a ++ b) room space) ≡ 0 → Cut (λ sheet. ran_on old sheet room space) a b room space

-- ---- any number of them

-- the session saved and read back, with the run that led to it; and gone on with by more calls
abbrev pub saved_held : Held → Held
saved_held h = record { mode = h.mode; vars = h.vars; list = h.list; run = read_back h.run }

abbrev pub gone_on : Held → List ℕ → Held
gone_on h sheet = after_calls (saved_held h) (calls_on sheet)

-- A day: a sheet whose first line is accepted, and sheets of calls, each on the text that the one before it left; the session that they lead to, with the run of all
-- their calls, and the last text.
pub data Day : Held → List ℕ → Type 0 where
  opened : (sheet : List ℕ) (room space : ℕ) {x text : List ℕ} {h : Held} → ran_new sheet room space ≡ done none (x, text) → held_by (lines sheet) ≡ some h → Day h text
  carried : (sheet : List ℕ) (room space : ℕ) {old y text : List ℕ} {h : Held} → Day h old → ran_on old sheet room space ≡ done none (y, text) → Day (gone_on h sheet) text

-- The text is that session's, and the next sheet's answers are what the log gains.
pub record Told (h : Held) (old : List ℕ) : Type 0 where
  pub good : Good h
  pub is : old ≡ text_held h
  pub next : (sheet : List ℕ) (room space : ℕ) {y text : List ℕ} → ran_on old sheet room space ≡ done none (y, text)
      → (ls : List Line) × (y ≡ logged 1 (calls_on sheet) ls) × (log (gone_on h sheet).run.past ≡ reverse ls ++ log h.run.past)

abbrev pub DayTold : Type 0
DayTold = (h : Held) (text : List ℕ) → Day h text → Told h text

-- Term 3 of the whole day: going back after a save restores the records from before it.
abbrev pub DayTerm3 : Type 0
DayTerm3 = (h : Held) (text : List ℕ) → Day h text → Claim h.vars (length h.list.1) (chooser_of h.mode h.vars h.list) h.run
