-- A run between two lines, as code holds it: the sheet and the answer buffer, and a place in both.
use Rattle.std.specs.Prelude.{ℕ, ◌+◌, ◌*◌, ◌-◌, ◌≤◌, ◌<◌, ◌≡◌, Bool, false, List, [], ◌∷◌, length, drop, take}
use Rattle.std.specs.Result.{result_unwrap_or}
use Rattle.std.specs.Prelude as code
use Rattle.lit.specs.declared.Refusal.{Refusal}
use Rattle.lit.specs.Refusals.{status_of}
use Rattle.std.proofs.Math.Option.{Option, none, some}
use Rattle.lit.specs.Numbers.{max_sheet, max_clauses, max_literals, answer_room}
use Rattle.formula.specs.Good.{GoodClauses}
use Rattle.book.specs.Session.{Result, status, leaves}
use Rattle.forms.specs.Text.{newline, lines, occurs, find, written}
use Rattle.forms.specs.Forms.{Mode, begins_clause}
use Rattle.sheet.specs.declared.Place.{Place}
use Rattle.sheet.specs.declared.clauses.Section.{Section}
use Rattle.sheet.specs.Stages.{Stage, reading, clause_with, answers, stage_behind}

-- the lines from a place of the sheet on
abbrev pub lines_from : List ℕ → ℕ → List (List ℕ)
lines_from sheet from = lines (drop from sheet)

-- the first of them, and its length
abbrev pub line_length : List ℕ → ℕ → ℕ
line_length sheet from = find newline (drop from sheet)

abbrev pub line_from : List ℕ → ℕ → List ℕ
line_from sheet from = take (line_length sheet from) (drop from sheet)

-- the place behind a line that ends at `end` and has been answered up to `at`
abbrev pub after : Place → ℕ → ℕ → Place
after p end at = record { from = end + 1; left = p.left - 1; line = p.line + 1; at = at }

-- there is room in the buffer for the answers to the lines that are left
pub record Room (sheet : List ℕ) (p : Place) (out : List ℕ) : Type 0 where
  pub short : length sheet ≤ max_sheet
  pub inside : p.from ≤ length sheet
  pub lines_left : p.left ≡ occurs newline (drop p.from sheet)
  pub numbered : p.line + p.left ≤ max_sheet + 1
  pub fits : p.at + answer_room * p.left ≤ length out

-- the buffer once these lines are answered, and the count of bytes
abbrev pub finished : List ℕ → Place → Stage → List ℕ → List ℕ
finished sheet p stage out = written p.at (answers p.line stage (lines_from sheet p.from)) out

abbrev pub total : List ℕ → Place → Stage → ℕ
total sheet p stage = p.at + length (answers p.line stage (lines_from sheet p.from))

-- the lines that are left are answered: the buffer is what the run's answers leave, and r their count of bytes
pub record Ended (sheet : List ℕ) (p : Place) (stage : Stage) (out : List ℕ) (r : ℕ) (out' : List ℕ) : Type 0 where
  pub buffer : out' ≡ finished sheet p stage out
  pub count : r ≡ total sheet p stage

-- from the place q, the stage u and the buffer out' a run comes to the same end as from p, s and out
pub record SameEnd (sheet : List ℕ) (p : Place) (s : Stage) (out : List ℕ) (q : Place) (u : Stage) (out' : List ℕ) : Type 0 where
  pub buffer : finished sheet q u out' ≡ finished sheet p s out
  pub count : total sheet q u ≡ total sheet p s
  pub stage : stage_behind u (lines_from sheet q.from) ≡ stage_behind s (lines_from sheet p.from)

-- whether a clause line comes next
abbrev pub next_clause : List (List ℕ) → Bool
next_clause [] = false
next_clause (line ∷ ls) = begins_clause line

-- the clause list at the front of the slices, as a stage
abbrev reading_of : Mode → ℕ → List ℕ → List ℕ → ℕ → ℕ → Stage
reading_of mode n lits ends literals clauses = reading mode n (take literals lits) (take clauses ends)

abbrev pub stage_of : Mode → ℕ → List ℕ → List ℕ → Section → Stage
stage_of mode n lits ends s = reading_of mode n lits ends s.literals s.clauses

-- a clause line with these codes, on that clause list
abbrev pub clause_of : Mode → ℕ → List ℕ → List ℕ → ℕ → ℕ → Option (List ℕ) → Result Stage
clause_of mode n lits ends literals clauses codes = clause_with mode n (take literals lits) (take clauses ends) codes

-- how many codes a clause line has
abbrev pub code_count : Option (List ℕ) → ℕ
code_count none = 0
code_count (some codes) = length codes

-- where the run stands among the clause lines once a line is read: the longer list, or the same where it was refused
abbrev pub kept : Section → code.Result Section Refusal → Section
kept s a = result_unwrap_or a s

-- a clause line did what its turn says: the status, and the clause list behind it, longer by its codes at most
pub record ClauseAdded (mode : Mode) (n : ℕ) (codes : Option (List ℕ)) (lits ends : List ℕ) (s : Section) (a : code.Result Section Refusal) (lits' ends' : List ℕ) : Type 0 where
  pub status : status_of a ≡ status (clause_of mode n lits ends s.literals s.clauses codes)
  pub stage : stage_of mode n lits' ends' (kept s a) ≡ leaves (stage_of mode n lits ends s) (clause_of mode n lits ends s.literals s.clauses codes)
  pub few_literals_lem : (kept s a).literals ≤ length lits
  pub few_clauses : (kept s a).clauses ≤ length ends
  pub more_literals : (kept s a).literals ≤ s.literals + code_count codes
  pub more_clauses : (kept s a).clauses ≤ s.clauses + 1

-- the slices of the clause list, no longer than it may become, and so many of them in use
pub record Slices (lits ends : List ℕ) (literals clauses : ℕ) : Type 0 where
  pub lits_short : length lits ≤ max_literals
  pub few_literals_lem : literals ≤ length lits
  pub few_clauses : clauses ≤ length ends

-- they have room for one more clause of k codes, if a clause list may have it
pub record Takes (lits ends : List ℕ) (literals clauses k : ℕ) : Type 0 where
  pub codes : literals + k ≤ max_literals → literals + k ≤ length lits
  pub clause : clauses < max_clauses → clauses < length ends

-- they have room for every clause list that the sheet can have: a code takes two bytes at least, and so does a clause line
pub record Holds (sheet lits ends : List ℕ) : Type 0 where
  pub codes : (k : ℕ) → k ≤ max_literals → 2 * k ≤ length sheet → k ≤ length lits
  pub clauses : (k : ℕ) → k ≤ max_clauses → 2 * k ≤ length sheet → k ≤ length ends

-- there is room for the rest of the run, and the clause list is good
pub record Ready (n : ℕ) (sheet : List ℕ) (s : Section) (out lits ends : List ℕ) : Type 0 where
  pub room : Room sheet s.place out
  pub slices : Slices lits ends s.literals s.clauses
  pub holds : Holds sheet lits ends
  pub read_literals : 2 * s.literals ≤ s.place.from
  pub read_clauses : 2 * s.clauses ≤ s.place.from
  pub good : GoodClauses n (take s.literals lits) (take s.clauses ends)

-- Clause lines are answered, from s on up to u: the run comes to the same end from there, in either mode, and no slice has changed its length.
pub record SoFar (n : ℕ) (sheet : List ℕ) (s : Section) (out lits ends : List ℕ) (u : Section) (out' lits' ends' : List ℕ) : Type 0 where
  pub ready : Ready n sheet u out' lits' ends'
  pub end : (mode : Mode) → SameEnd sheet s.place (stage_of mode n lits ends s) out u.place (stage_of mode n lits' ends' u) out'
  pub out_same : length out' ≡ length out
  pub lits_same : length lits' ≡ length lits
  pub ends_same : length ends' ≡ length ends
