-- A sheet from its first line on, as code runs it: what the first line opens, its answer, and where the lines behind it begin. Assumes nothing.
use Rattle.std.specs.Prelude.{ℕ, ◌+◌, ◌*◌, ◌≤◌, ◌<◌, ◌≡◌, List, [], ◌∷◌, length}
use Rattle.std.proofs.Math.Path.{refl}
use Rattle.std.proofs.Common.{ap, subst, ◌∙◌, arith}
use Rattle.std.proofs.Math.Option.{Option, none, some}
use Rattle.lit.specs.Numbers.{max_sheet, max_literals, answer_room}
use Rattle.formula.specs.Good.{GoodClauses}
use Rattle.forms.specs.Text.{newline, lines, occurs, written}
use Rattle.forms.specs.TextLaws.{occurs_length}
use Rattle.std.specs.Prelude as code
use Rattle.forms.specs.declared.Opening as opens
use Rattle.forms.specs.Forms.{Mode, vsids, vmtf, Opening, first_in}
use Rattle.forms.specs.Read.{first_of}
use Rattle.forms.specs.Read as forms
use Rattle.forms.specs.Written.{Wrote}
use Rattle.sheet.specs.declared.Place.{Place}
use Rattle.sheet.specs.Sheet.{answer_line, opening, answered}
use Rattle.sheet.specs.Stages.{started}
use Rattle.sheet.proofs.Turns.{answered_turns}
use Rattle.sheet.proofs.Bounds.{answer_short}
use Rattle.sheet.specs.Running.{lines_from, line_length, line_from, after, Room, Holds, Ready}
use Rattle.sheet.proofs.Steps.{lines_more, answer_room_lem, room_behind}
use Rattle.sheet.specs.Opening.{at_first, mode_of, opening_of}

same_mode : (m : Mode) → mode_of (forms.mode_of m) ≡ m
same_mode vsids = refl
same_mode vmtf = refl

pub first_told : (o : Option Opening) {r : code.Option opens.Opening} → r ≡ first_of o → o ≡ opening_of r
first_told none e = rw e
first_told (some o) e = rw (e, same_mode o.mode)

pub start_room : (sheet out : List ℕ) → length sheet ≤ max_sheet → answer_room * occurs newline sheet ≤ length out → Room sheet (at_first (occurs newline sheet)) out
start_room sheet out short room = record {
  short = short;
  inside = omega arith;
  lines_left = refl;
  numbered = omega (arith, occurs_length newline sheet);
  fits = omega (arith, room);
}

-- the answer to a first line is short
first_short : (k : ℕ) → k < 100 → length (answer_line 1 k none) ≤ answer_room
first_short k few = answer_short 1 k none (omega arith) few

module _ {sheet out : List ℕ} {count : ℕ} (room : Room sheet (at_first count) out) (more : 0 < count) where
  pub first_fits : (k : ℕ) → k < 100 → 0 + length (answer_line 1 k none) ≤ length out
  first_fits k few = answer_room_lem room more (answer_line 1 k none) (first_short k few)

  -- the first line, and the lines behind it
  pub first_lines : lines sheet ≡ line_from sheet 0 ∷ lines_from sheet (line_length sheet 0 + 1)
  first_lines =
      let place : 0 + line_length sheet 0 + 1 ≡ line_length sheet 0 + 1 = omega arith in
      lines_more room more ∙ ap (λ (k : ℕ). line_from sheet 0 ∷ lines_from sheet k) place

  pub first_answers : answered (lines sheet) ≡ started (opening (first_in (line_from sheet 0))) (lines_from sheet (line_length sheet 0 + 1))
  first_answers = ap answered first_lines ∙ answered_turns (line_from sheet 0) (lines_from sheet (line_length sheet 0 + 1))

  -- room behind it, whatever was written for it
  behind_first : {end at : ℕ} {a out' : List ℕ} → end ≡ line_length sheet 0 → Wrote 0 a out out' at → length a ≤ answer_room → Room sheet (after (at_first count) end at) out'
  behind_first {end} {at} {out' = out'} e w short =
      let place : 0 + line_length sheet 0 ≡ end = omega (arith, e) in
      subst (λ (k : ℕ). Room sheet (after (at_first count) k at) out') place (room_behind room more w short)

  pub first_room : {end at : ℕ} {out' : List ℕ} → end ≡ line_length sheet 0 → Wrote 0 (answer_line 1 0 none) out out' at → Room sheet (after (at_first count) end at) out'
  first_room e w = behind_first e w (first_short 0 (omega arith))

  -- before its answer is written
  pub second_room : {end : ℕ} → end ≡ line_length sheet 0 → Room sheet (after (at_first count) end 0) out
  unfolding written
  second_room e = behind_first {a = []} e (record { buffer = refl; place = refl }) (omega arith)

-- before the first clause line there are no clauses, and the slices have room for those to come
pub no_clauses : (n : ℕ) → GoodClauses n [] []
no_clauses n = record {
  list = record { few_clauses = omega arith; few_literals_lem = omega arith; never_fall = λ i j h b. absurd (omega arith); last_end = λ some. absurd (omega arith); no_clauses = λ none. refl };
  below = λ i h. absurd (omega arith);
}

pub ready_first : {n : ℕ} {sheet out lits ends : List ℕ} {p : Place} → Room sheet p out → Holds sheet lits ends → length lits ≤ max_literals → Ready n sheet (record { place = p; literals = 0; clauses = 0 }) out lits ends
ready_first {n} room holds short = record {
  room = room;
  slices = record { lits_short = short; few_literals_lem = omega arith; few_clauses = omega arith };
  holds = holds;
  read_literals = omega arith;
  read_clauses = omega arith;
  good = no_clauses n;
}
