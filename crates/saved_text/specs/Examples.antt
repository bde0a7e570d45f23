-- The two texts of docs/SAVED.md, byte by byte, are those of the states that they say, and are read back as these. Assumes nothing.
use Rattle.std.specs.Prelude.{ℕ, ◌≡◌, refl, List, [], ◌∷◌, ◌++◌, take}
use Rattle.std.proofs.Math.Option.{none, some}
use Rattle.lit.specs.Numbers.{NONE}
use Rattle.forms.specs.Text.{split_from, but_last, all, decimal, plain, number_up_to, hexadecimal, pattern, digits_by}
use Rattle.forms.specs.Forms.{vsids, vmtf, is, reason_in, mode_in, first_in, begins_clause}
use Rattle.forms.specs.Spelling.{ended, behind, hex, reason_text, mode_text}
use Rattle.saved_text.specs.Saved.{Saved, row_lines, text_of}
use Rattle.saved_text.specs.Reading.{fields_in, numbers_in, counted, clauses_in, rows_in, behind_clauses, saved_in, last_empty, read_text}

-- a heap session over two variables and one clause, in which 0 was decided with polarity 1
abbrev decided : Saved
decided = record {
  opening = record { vars = 2; mode = vsids };
  clauses = (1 ∷ 3 ∷ []) ∷ [];
  codes = 1 ∷ [];
  rows = (1 ∷ []) ∷ (NONE ∷ []) ∷ (0 ∷ []) ∷ (1 ∷ []) ∷ (0 ∷ 0 ∷ []) ∷ (1 ∷ 1 ∷ []) ∷ (0x3ff0_0000_0000_0000 ∷ 0x3fee_6666_6666_6666 ∷ []) ∷ [];
}

abbrev decided_text : List ℕ
decided_text =
    110 ∷ 9 ∷ 50 ∷ 9 ∷ 118 ∷ 115 ∷ 105 ∷ 100 ∷ 115 ∷ 10 ∷
    99 ∷ 9 ∷ 49 ∷ 9 ∷ 51 ∷ 10 ∷
    116 ∷ 9 ∷ 49 ∷ 10 ∷
    108 ∷ 9 ∷ 49 ∷ 10 ∷
    114 ∷ 9 ∷ 45 ∷ 10 ∷
    113 ∷ 9 ∷ 48 ∷ 10 ∷
    104 ∷ 9 ∷ 49 ∷ 10 ∷
    97 ∷ 9 ∷ 48 ∷ 48 ∷ 48 ∷ 48 ∷ 48 ∷ 48 ∷ 48 ∷ 48 ∷ 48 ∷ 48 ∷ 48 ∷ 48 ∷ 48 ∷ 48 ∷ 48 ∷ 48 ∷ 9 ∷ 48 ∷ 48 ∷ 48 ∷ 48 ∷ 48 ∷ 48 ∷ 48 ∷ 48 ∷ 48 ∷ 48 ∷ 48 ∷ 48 ∷ 48 ∷ 48 ∷ 48 ∷ 48 ∷ 10 ∷
    111 ∷ 9 ∷ 49 ∷ 9 ∷ 49 ∷ 10 ∷
    119 ∷ 9 ∷ 51 ∷ 102 ∷ 102 ∷ 48 ∷ 48 ∷ 48 ∷ 48 ∷ 48 ∷ 48 ∷ 48 ∷ 48 ∷ 48 ∷ 48 ∷ 48 ∷ 48 ∷ 48 ∷ 9 ∷ 51 ∷ 102 ∷ 101 ∷ 101 ∷ 54 ∷ 54 ∷ 54 ∷ 54 ∷ 54 ∷ 54 ∷ 54 ∷ 54 ∷ 54 ∷ 54 ∷ 54 ∷ 54 ∷ 10 ∷ []

pub decided_text_lem : text_of decided ≡ decided_text
unfolding text_of row_lines ended behind digits_by hex reason_text mode_text
decided_text_lem = refl

pub decided_read : read_text decided_text ≡ some decided
unfolding read_text split_from but_last last_empty saved_in first_in mode_in clauses_in begins_clause behind_clauses rows_in numbers_in fields_in counted number_up_to plain all decimal pattern hexadecimal reason_in is
decided_read = refl

-- a fresh list session over two variables without clauses
abbrev fresh : Saved
fresh = record {
  opening = record { vars = 2; mode = vmtf };
  clauses = [];
  codes = [];
  rows = [] ∷ [] ∷ (0 ∷ []) ∷ (0 ∷ 1 ∷ []) ∷ (2 ∷ 1 ∷ []) ∷ (3 ∷ []) ∷ (0 ∷ []) ∷ [];
}

abbrev fresh_text : List ℕ
fresh_text =
    110 ∷ 9 ∷ 50 ∷ 9 ∷ 118 ∷ 109 ∷ 116 ∷ 102 ∷ 10 ∷
    116 ∷ 10 ∷
    108 ∷ 10 ∷
    114 ∷ 10 ∷
    113 ∷ 9 ∷ 48 ∷ 10 ∷
    118 ∷ 9 ∷ 48 ∷ 9 ∷ 49 ∷ 10 ∷
    115 ∷ 9 ∷ 50 ∷ 9 ∷ 49 ∷ 10 ∷
    107 ∷ 9 ∷ 51 ∷ 10 ∷
    102 ∷ 9 ∷ 48 ∷ 10 ∷ []

pub fresh_text_lem : text_of fresh ≡ fresh_text
unfolding text_of row_lines ended behind digits_by reason_text mode_text
fresh_text_lem = refl

pub fresh_read : read_text fresh_text ≡ some fresh
unfolding read_text split_from but_last last_empty saved_in first_in mode_in clauses_in begins_clause behind_clauses rows_in numbers_in fields_in counted number_up_to plain all decimal pattern hexadecimal reason_in is
fresh_read = refl

-- without its last newline, with a byte behind that, and with its last line once more it is no saved text
pub fresh_alone : (read_text (take 38 fresh_text) ≡ none) × (read_text (fresh_text ++ (102 ∷ [])) ≡ none) × (read_text (fresh_text ++ (102 ∷ 9 ∷ 49 ∷ 10 ∷ [])) ≡ none)
unfolding read_text split_from but_last last_empty saved_in first_in mode_in clauses_in begins_clause behind_clauses rows_in numbers_in fields_in counted number_up_to plain all decimal pattern hexadecimal reason_in is
fresh_alone = (refl, refl, refl)
