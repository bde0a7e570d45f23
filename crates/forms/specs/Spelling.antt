-- How the lines of a call sheet are written, sentence by sentence of document 01's section on the call sheet. Bytes are numbers.
use Rattle.std.specs.Prelude.{◌≡◌, ℕ, zero, suc, ◌+◌, ◌-◌, ◌/◌, ◌%◌, ◌^◌, ◌<◌, ◌≤◌, cond, List, [], ◌∷◌, ◌++◌, map, length, ◌==◌, from_bits, nat_lt}
use Rattle.std.specs.Float.{binary64}
use Rattle.laws.specs.Each.{Each}
use Rattle.lit.specs.Numbers.{NONE, max_group}
use Rattle.book.specs.Calls.{Call, bump, decay, set_decay, insert, switch_off, decide, enqueue, learn_unit, go_back, bump_reason, group}
use Rattle.forms.specs.Letters.{bump_letter, decay_letter, set_decay_letter, insert_letter, switch_off_letter, decide_letter, enqueue_letter, learn_unit_letter, go_back_letter, bump_reason_letter, group_letter, clause_letter, first_letter, vsids_text, vmtf_text, dash, digit_zero, digit_a}
use Rattle.forms.specs.Text.{tab, newline, occurs, digits}
use Rattle.forms.specs.Forms.{Mode, vsids, vmtf, Opening}

-- a byte stands nowhere in the bytes
abbrev pub Without : ℕ → List ℕ → Type 0
Without b l = occurs b l ≡ 0

-- 'Lines end in a newline; bytes after the last newline are ignored.'
unfoldable pub ended : List (List ℕ) → List ℕ
ended [] = []
ended (l ∷ ls) = l ++ newline ∷ ended ls

abbrev pub Lines : List ℕ → List (List ℕ) → Type 0
Lines bytes ls = (rest : List ℕ) × (bytes ≡ ended ls ++ rest) × Without newline rest × Each (Without newline) ls

-- 'Fields are parted by tabs.' A line is a letter and fields, each behind a separator, the tab
unfoldable pub behind : ℕ → List (List ℕ) → List ℕ
behind sep [] = []
behind sep (f ∷ fs) = sep ∷ f ++ behind sep fs

abbrev pub line_of : ℕ → List (List ℕ) → List ℕ
line_of letter fs = letter ∷ behind tab fs

-- 'Whole numbers .. at most 4294967295'; their text is `digits`
abbrev pub Whole : ℕ → Type 0
Whole n = n ≤ NONE

-- 'First line: `n`, N, `vsids` or `vmtf`.'
unfoldable pub mode_text : Mode → List ℕ
mode_text vsids = vsids_text
mode_text vmtf = vmtf_text

abbrev pub first_line : Opening → List ℕ
first_line o = line_of first_letter (digits o.vars ∷ mode_text o.mode ∷ [])

abbrev pub First : List ℕ → Opening → Type 0
First line o = (line ≡ first_line o) × Whole o.vars

-- 'clause lines `c` with 0 or more codes'
abbrev pub Clause : List ℕ → List ℕ → Type 0
Clause line codes = (line ≡ line_of clause_letter (map digits codes)) × Each Whole codes

-- 'lower-case hexadecimal digits': so many of them, the first for the highest bits
abbrev pub hex_byte : ℕ → ℕ
hex_byte d = cond (nat_lt d 10) (digit_zero + d) (digit_a - 10 + d)

unfoldable pub hex : ℕ → ℕ → List ℕ
hex zero p = []
hex (suc k) p = hex k (p / 16) ++ hex_byte (p % 16) ∷ []

-- 'reason or `-` for NONE'
unfoldable pub reason_text : ℕ → List ℕ
reason_text r = cond (r == NONE) (dash ∷ []) (digits r)

-- 'Calls': a line that begins with b, y, w, i, o, g, e, u, k, r or f says its call
pub data Says : List ℕ → Call → Type 0 where
  line_b : (v : ℕ) → Whole v → Says (line_of bump_letter (digits v ∷ [])) (bump v)
  line_y : Says (line_of decay_letter []) decay
  line_w : (p : ℕ) → p < 2 ^ 64 → Says (line_of set_decay_letter (hex 16 p ∷ [])) (set_decay (from_bits binary64 p))
  line_i : (v : ℕ) → Whole v → Says (line_of insert_letter (digits v ∷ [])) (insert v)
  line_o : (v : ℕ) → Whole v → Says (line_of switch_off_letter (digits v ∷ [])) (switch_off v)
  line_g : (p : ℕ) → Whole p → Says (line_of decide_letter (digits p ∷ [])) (decide p)
  line_e : (c r : ℕ) → Whole c → Whole r → Says (line_of enqueue_letter (digits c ∷ reason_text r ∷ [])) (enqueue c r)
  line_u : (c : ℕ) → Whole c → Says (line_of learn_unit_letter (digits c ∷ [])) (learn_unit c)
  line_k : (l : ℕ) → Whole l → Says (line_of go_back_letter (digits l ∷ [])) (go_back l)
  line_r : (v : ℕ) → Whole v → Says (line_of bump_reason_letter (digits v ∷ [])) (bump_reason v)
  line_f : (vs : List ℕ) → Each Whole vs → length vs ≤ max_group → Says (line_of group_letter (map digits vs)) (group vs)
