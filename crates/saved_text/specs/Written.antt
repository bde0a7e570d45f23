-- Writing piece by piece, as code goes: a row number by number, bits from the last digit on, and the first line. Assumes nothing.
use Rattle.std.specs.Prelude.{ℕ, suc, ◌+◌, ◌/◌, ◌%◌, ◌<◌, ◌≤◌, ◌≡◌, refl, List, [], ◌∷◌, ◌++◌, length, get_or, take, drop, set}
use Rattle.std.proofs.Common.{sym, ap, ◌∙◌, add-one, append-nil, append_assoc, arith, length-append, length-set, take-append-drop, take-suc-set, drop-drop}
use Rattle.std.proofs.lemmas.List.{drop-set-lt}
use Rattle.std.proofs.Math.Seq.{append_snoc}
use Rattle.forms.specs.Text.{tab, newline, digits, written}
use Rattle.forms.specs.Letters.{first_letter}
use Rattle.forms.specs.TextLaws.{written_last}
use Rattle.forms.specs.Spelling.{ended, behind, hex_byte, hex}
use Rattle.forms.specs.Written.{Wrote, put_more, put_one, same_room}
use Rattle.saved_text.specs.Saved.{Form, field_text, row_line}
use Rattle.saved_text.specs.Writing.{row_next}
use Rattle.saved_text.specs.Length.{bits_length, row_counted, row_part}
use Rattle.saved_text.specs.Puts.{row_text, first_text}

-- one number more in a row: a tab, and its text
pub row_put : (f : Form) (vs : List ℕ) (i : ℕ) {at : ℕ} {l r : List ℕ} {k : ℕ} {r' : List ℕ} {k' : ℕ} → i < length vs → Wrote at (row_line f (take i vs)) l r k → Wrote (k + 1) (field_text f.kind (get_or vs i 0)) (set r k tab) r' k' → Wrote at (row_line f (take (i + 1) vs)) l r' k'
row_put f vs i h w v = rw (row_next f vs i h, ← append_snoc (row_line f (take i vs)) tab (field_text f.kind (get_or vs i 0))) (put_more (put_one tab w) v)

-- bytes that are written at once stand behind those before the place, and what was there behind them stays
written_between : (at : ℕ) (bs l : List ℕ) → at + length bs ≤ length l → take at l ++ (bs ++ drop (at + length bs) l) ≡ written at bs l
unfolding written
written_between at [] l h = let e : at + 0 ≡ at = omega arith in rw e (take-append-drop at l)
written_between at (b ∷ bs) l h =
    let e : at + length (b ∷ bs) ≡ at + 1 + length bs = omega arith in
    let front : take (at + 1) (set l at b) ≡ take at l ++ (b ∷ []) = rw add-one (take-suc-set l at b (omega arith)) in
    let back : drop (at + 1 + length bs) (set l at b) ≡ drop (at + 1 + length bs) l = drop-set-lt (at + 1 + length bs) l at b (omega arith) in
    rw (← written_between (at + 1) bs (set l at b) (omega (arith, length-set l at b)), front, back, e) (sym (append_snoc (take at l) b (bs ++ drop (at + 1 + length bs) l)))

pub written_mid : (at : ℕ) (bs l : List ℕ) → at + length bs ≤ length l → take at l ++ (bs ++ drop (length bs) (drop at l)) ≡ written at bs l
written_mid at bs l h = rw (drop-drop (length bs) at l) (written_between at bs l h)

-- and it has room, with the newline
pub row_fits : (f : Form) (vs : List ℕ) (i v : ℕ) {at : ℕ} {l r : List ℕ} {k : ℕ} → i < length vs → get_or vs i 0 ≡ v → at + length (row_text f.letter f.kind vs) ≤ length l → Wrote at (row_line f (take i vs)) l r k → k + 1 + length (field_text f.kind v) + 1 ≤ length r
row_fits f vs i v h e room w = omega (arith, w.place, same_room w, rw e at (row_counted f vs i h), row_part f (i + 1) vs, room, length-append (row_line f vs) (newline ∷ []))

-- a row with its newline is a line of the text
pub row_ended : (f : Form) (vs : List ℕ) → row_text f.letter f.kind vs ≡ ended (row_line f vs ∷ [])
unfolding ended
row_ended f vs = refl

-- bits: the last digit may be written before the others
pub bits_last : (k at p : ℕ) (l : List ℕ) → written at (hex (suc k) p) l ≡ written at (hex k (p / 16)) (set l (at + k) (hex_byte (p % 16)))
unfolding hex
bits_last k at p l = written_last at (hex_byte (p % 16)) (hex k (p / 16)) l ∙ rw (bits_length k (p / 16))

pub bits_none : (at p : ℕ) (l : List ℕ) → written at (hex 0 p) l ≡ l
unfolding hex written
bits_none at p l = refl

-- the first line, as it is written
pub first_parts : (n : ℕ) (word : List ℕ) → first_text n word ≡ ((((first_letter ∷ tab ∷ []) ++ digits n) ++ tab ∷ []) ++ word) ++ newline ∷ []
unfolding behind
first_parts n word = rw (append-nil word, append_assoc (digits n) (tab ∷ []) word, append_assoc (digits n) (tab ∷ word) (newline ∷ []))

pub first_length : (n : ℕ) (word : List ℕ) → length (first_text n word) ≡ 4 + length (digits n) + length word
first_length n word = ap length (first_parts n word) ∙ simp length-append (omega arith)
