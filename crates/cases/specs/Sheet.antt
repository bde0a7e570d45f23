-- The worked sheet of document 01, byte by byte: what a host gets for it, computed from the definition of the run.
use Rattle.std.specs.Prelude.{ℕ, ◌+◌, ◌≡◌, refl, List, [], ◌∷◌, ◌++◌}
use Rattle.std.proofs.Math.Option.{none}
use Rattle.formula.specs.Clauses.{clause_fits}
use Rattle.book.specs.Session.{done}
use Rattle.book.specs.Claim.{begin, step, run}
use Rattle.forms.specs.Letters.{bump_letter, decide_letter, go_back_letter, clause_letter, first_letter, vsids_text, dash, digit_zero}
use Rattle.forms.specs.Text.{tab, newline}
use Rattle.forms.specs.Text as text
use Rattle.forms.specs.Forms as forms
use Rattle.book.specs.Read.{calls_of}
use Rattle.sheet.specs.Sheet.{answer_line, logged, clause_lines, listed, clause_answers, behind_first, answered, ran}
use Rattle.cases.specs.Definitions.{definitions}

-- lines, each with a newline behind it
unfoldable pub bytes : List (List ℕ) → List ℕ
bytes [] = []
bytes (l ∷ ls) = l ++ newline ∷ bytes ls

-- the byte of a decimal digit
abbrev digit : ℕ → ℕ
digit d = digit_zero + d

-- `n|3|vsids`, `c|1|3`, `b|2`, `g|1`, `g|0`, `k|1`, `g|0`, `k|0`
abbrev pub sheet : List ℕ
sheet = bytes (
    (first_letter ∷ tab ∷ digit 3 ∷ tab ∷ vsids_text)
    ∷ (clause_letter ∷ tab ∷ digit 1 ∷ tab ∷ digit 3 ∷ [])
    ∷ (bump_letter ∷ tab ∷ digit 2 ∷ [])
    ∷ (decide_letter ∷ tab ∷ digit 1 ∷ [])
    ∷ (decide_letter ∷ tab ∷ digit 0 ∷ [])
    ∷ (go_back_letter ∷ tab ∷ digit 1 ∷ [])
    ∷ (decide_letter ∷ tab ∷ digit 0 ∷ [])
    ∷ (go_back_letter ∷ tab ∷ digit 0 ∷ [])
    ∷ [])

-- the answer to line i: status 0 and a reply
abbrev answer : ℕ → ℕ → List ℕ
answer i reply = digit i ∷ tab ∷ digit 0 ∷ tab ∷ reply ∷ []

-- `1|0|-`, `2|0|-`, `3|0|-`, `4|0|2`, `5|0|0`, `6|0|1`, `7|0|1`, `8|0|2`
abbrev pub replies : List ℕ
replies = bytes (
    answer 1 dash
    ∷ answer 2 dash
    ∷ answer 3 dash
    ∷ answer 4 (digit 2)
    ∷ answer 5 (digit 0)
    ∷ answer 6 (digit 1)
    ∷ answer 7 (digit 1)
    ∷ answer 8 (digit 2)
    ∷ [])

-- the buffer has 24 bytes for each of eight lines
pub worked_sheet : ran sheet 192 ≡ done none replies
unfolding definitions bytes clause_fits begin step run text.split_from text.but_last text.occurs text.all text.decimal text.plain text.number_up_to text.digits_by forms.kind_of forms.numbers forms.is forms.call_in forms.begins_clause forms.codes_in forms.mode_in forms.first_in answer_line calls_of logged clause_lines listed clause_answers behind_first answered ran
worked_sheet = refl
