-- A sheet from its first line on, as code runs it: the first line answered as it was read, and the lines behind it. Assumes nothing.
use Rattle.std.specs.Prelude.{ℕ, ◌+◌, ◌≤◌, ◌<◌, ◌≡◌, List, [], length, take}
use Rattle.std.proofs.Common.{sym, le-leb}
use Rattle.std.proofs.Math.Option.{none, some}
use Rattle.std.proofs.lemmas.Bool.{lt-leb}
use Rattle.lit.specs.Numbers.{max_vars, many_vars}
use Rattle.book.specs.Session.{need}
use Rattle.forms.specs.Text.{lines}
use Rattle.std.specs.Prelude as code
use Rattle.forms.specs.declared.Opening as opens
use Rattle.forms.specs.declared.Mode as mode
use Rattle.forms.specs.Forms.{first_in}
use Rattle.forms.specs.Read.{first_of}
use Rattle.sheet.specs.Sheet.{answer_line, opening, answered}
use Rattle.sheet.specs.Stages.{reading, started}
use Rattle.forms.specs.Written.{Wrote, put_more}
use Rattle.sheet.specs.Running.{lines_from, line_length, after, Room, Ended}
use Rattle.sheet.specs.Opening.{mode_of, opening_at, opening_of, at_first}
use Rattle.sheet.proofs.Opening.{first_told, first_answers}
use Rattle.desk.specs.Positions.{used_by, used_on, SameFrom}
use Rattle.sheet.proofs.Steps.{lines_more}

module _ {sheet out : List ℕ} {count : ℕ} (room : Room sheet (at_first count) out) (more : 0 < count) where
  -- answered as what was read says, it is answered as the sheet says, and the positions that it says are used
  pub first_done : {end r : ℕ} {x : code.Option opens.Opening} {out' lent lent' : List ℕ} → end ≡ line_length sheet 0 → x ≡ first_of (first_in (take end sheet))
      → Wrote 0 (started (opening (opening_of x)) (lines_from sheet (end + 1))) out out' r → SameFrom (used_by (opening_of x) (length lent)) lent lent'
      → Wrote 0 (answered (lines sheet)) out out' r × SameFrom (used_on (lines sheet) (length lent)) lent lent'
  first_done {end} e h w k = let o = first_told (first_in (take end sheet)) h in (rw (first_answers room more, sym e, o) w, rw (lines_more room more, sym e, o) k)

-- 4, and the session with the lines behind it
module _ (m : mode.Mode) (n : ℕ) where
  pub first_refused : max_vars < n → (ls : List (List ℕ)) {out out' : List ℕ} {r : ℕ} → Wrote 0 (answer_line 1 many_vars none) out out' r
      → Wrote 0 (started (opening (some (opening_at m n))) ls) out out' r
  unfolding need
  first_refused many ls w = rw (lt-leb n max_vars many) w

  pub first_opened : n ≤ max_vars → (sheet : List ℕ) (count end : ℕ) {out out' out'' : List ℕ} {at r : ℕ} → Wrote 0 (answer_line 1 0 none) out out' at
      → Ended sheet (after (at_first count) end at) (reading (mode_of m) n [] []) out' r out''
      → Wrote 0 (started (opening (some (opening_at m n))) (lines_from sheet (end + 1))) out out'' r
  unfolding need
  first_opened few sheet count end w e = rw (le-leb n max_vars few) (put_more w (record { buffer = e.buffer; place = e.count }))
