-- One line further: where a run stands behind a line that it has answered. Assumes nothing.
use Rattle.std.specs.Prelude.{ℕ, ◌+◌, ◌-◌, ◌≤◌, ◌<◌, ◌≡◌, List, [], ◌∷◌, length, take, drop}
use Rattle.std.proofs.Common.{sym, ap, ◌∙◌, arith, length-drop, drop-drop}
use Rattle.std.proofs.Math.ListN.{length-append}
use Rattle.laws.specs.Parts.{to_end}
use Rattle.lit.specs.Numbers.{answer_room}
use Rattle.book.specs.Session.{status, reply, leaves}
use Rattle.forms.specs.Text.{newline, lines, occurs, find}
use Rattle.forms.specs.TextLaws.{occurs_found, occurs_next, lines_next, lines_end, written_append}
use Rattle.sheet.specs.declared.Place.{Place}
use Rattle.sheet.specs.Sheet.{answer_line}
use Rattle.sheet.specs.Stages.{Stage, meets, turn, answers, stage_behind}
use Rattle.forms.specs.Written.{Wrote, same_room}
use Rattle.sheet.specs.Running.{lines_from, line_length, line_from, after, Room, SameEnd}

pub same_end : {sheet : List ℕ} {p q r : Place} {s u v : Stage} {out out' out'' : List ℕ} → SameEnd sheet p s out q u out' → SameEnd sheet q u out' r v out'' → SameEnd sheet p s out r v out''
same_end a b = record { buffer = b.buffer ∙ a.buffer; count = b.count ∙ a.count; stage = b.stage ∙ a.stage }

-- a part of k elements
pub part_of : (a k : ℕ) (l : List ℕ) → take (a + k - a) (drop a l) ≡ take k (drop a l)
part_of a k l = let e : a + k - a ≡ k = omega arith in rw e

-- a line as code finds it
pub line_length_lem : (sheet : List ℕ) (from : ℕ) {k : ℕ} → k ≡ find newline (take (length sheet - from) (drop from sheet)) → k ≡ line_length sheet from
line_length_lem sheet from e = e ∙ ap (find newline) (to_end from sheet)

pub line_part : (sheet : List ℕ) (from : ℕ) {k : ℕ} → k ≡ line_length sheet from → take (from + k - from) (drop from sheet) ≡ line_from sheet from
line_part sheet from {k} e = part_of from k sheet ∙ ap (λ (j : ℕ). take j (drop from sheet)) e

module _ {sheet : List ℕ} {p : Place} {out : List ℕ} (room : Room sheet p out) where
  pub lines_over : p.left ≡ 0 → lines_from sheet p.from ≡ []
  lines_over none = lines_end (drop p.from sheet) (sym room.lines_left ∙ none)

  module _ (more : 0 < p.left) where
    pub line_found : line_length sheet p.from < length (drop p.from sheet)
    line_found = occurs_found newline (drop p.from sheet) (omega (arith, room.lines_left))

    pub line_inside : p.from + line_length sheet p.from < length sheet
    line_inside = omega (arith, line_found, length-drop p.from sheet)

    -- what lies behind the line, from the place on and in the sheet
    behind_line : drop (line_length sheet p.from + 1) (drop p.from sheet) ≡ drop (p.from + line_length sheet p.from + 1) sheet
    behind_line =
        let place : p.from + (line_length sheet p.from + 1) ≡ p.from + line_length sheet p.from + 1 = omega arith in
        drop-drop (line_length sheet p.from + 1) p.from sheet ∙ ap (λ (k : ℕ). drop k sheet) place

    pub lines_more : lines_from sheet p.from ≡ line_from sheet p.from ∷ lines_from sheet (p.from + line_length sheet p.from + 1)
    lines_more = lines_next (drop p.from sheet) line_found ∙ ap (λ (bs : List ℕ). line_from sheet p.from ∷ lines bs) behind_line

    -- the buffer has room for the line's answer
    pub answer_room_lem : (a : List ℕ) → length a ≤ answer_room → p.at + length a ≤ length out
    answer_room_lem a short = omega (arith, room.fits)

    module _ {a out' : List ℕ} {k : ℕ} (wrote : Wrote p.at a out out' k) where
      pub room_behind : length a ≤ answer_room → Room sheet (after p (p.from + line_length sheet p.from) k) out'
      room_behind short = record {
        short = room.short;
        inside = omega (arith, line_inside);
        lines_left = omega (arith, room.lines_left, occurs_next newline (drop p.from sheet) line_found, ap (occurs newline) behind_line);
        numbered = omega (arith, room.numbered);
        fits = omega (arith, room.fits, wrote.place, same_room wrote);
      }

    -- the answer written, the run comes to the same end from behind the line
    pub end_behind : (stage : Stage) {out' : List ℕ} {k : ℕ} → let line = line_from sheet p.from in let x = turn (meets stage line) line in
        Wrote p.at (answer_line p.line (status x) (reply x)) out out' k
        → SameEnd sheet p stage out (after p (p.from + line_length sheet p.from) k) (leaves (meets stage line) x) out'
    unfolding answers stage_behind
    end_behind stage wrote =
        let line = line_from sheet p.from in
        let x = turn (meets stage line) line in
        let a = answer_line p.line (status x) (reply x) in
        let rest = answers (p.line + 1) (leaves (meets stage line) x) (lines_from sheet (p.from + line_length sheet p.from + 1)) in
        record {
          buffer = rw (lines_more, written_append p.at a rest out, wrote.buffer, wrote.place);
          count = rw (lines_more, length-append a rest) (omega (arith, wrote.place));
          stage = rw lines_more;
        }
