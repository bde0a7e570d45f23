-- Each kind of field has one text, without a tab: what is read as a number, pattern, reason or mode is its text, and its text is read as it. Assumes nothing.
use Rattle.std.specs.Prelude.{◌≡◌, ℕ, zero, suc, ◌+◌, ◌-◌, ◌*◌, ◌/◌, ◌%◌, ◌^◌, ◌<◌, ◌≤◌, Bool, true, false, cond, ◌&&◌, List, [], ◌∷◌, ◌++◌, map, length, ◌==◌, nat_le, refl}
use Rattle.std.proofs.Common.{sym, ◌∙◌, append-nil, arith, pow-suc, eqb-true, leb-true, le-leb, lt-ltb, le-ltb}
use Rattle.std.proofs.Math.Logic.{by_cases}
use Rattle.std.proofs.Math.Option.{Option, none, some}
use Rattle.std.proofs.Math.Decide.{dec_lt}
use Rattle.std.proofs.lemmas.Bool.{lt-leb}
use Rattle.std.proofs.Math.Seq.{append_snoc}
use Rattle.laws.specs.Each.{Each}
use Rattle.laws.specs.Tests.{true_or_false, and_left, and_right, not_true}
use Rattle.laws.specs.Choices.{or_cases}
use Rattle.lit.specs.Numbers.{NONE}
use Rattle.forms.specs.Letters.{dash, digit_zero, digit_nine, digit_a, digit_f}
use Rattle.forms.specs.Text.{tab, find, occurs, all, is_digit, decimal, plain, number_up_to, number, is_hex, hex_digit, hexadecimal, pattern, digits}
use Rattle.forms.specs.TextLaws.{decimals, occurs_found, number_decimals, number_text}
use Rattle.forms.specs.Forms.{given, numbers, is, reason_in, Mode, vsids, vmtf, mode_in}
use Rattle.forms.specs.Laws.{is_same, number_tab, pattern_tab, reason_tab, mode-tab}
use Rattle.forms.specs.Spelling.{Without, Whole, hex_byte, hex, reason_text, mode_text}

-- where something was read
pub never : {A C : Type 0} {x : A} → ◌≡◌ {A = Option A} none (some x) → C
never e = let z : ◌≡◌ {A = ℕ} 0 1 = cc in absurd (omega arith)

pub same_some : {A : Type 0} (P : A → Type 0) {x y : A} → some x ≡ some y → P x → P y
same_some P {x} {y} e h = let same : x ≡ y = cc in rw same at h

pub given_some : {A B C : Type 0} (o : Option A) (f : A → Option B) {y : B} → given o f ≡ some y → ((x : A) → o ≡ some x → f x ≡ some y → C) → C
given_some none f e so = never e
given_some (some x) f e so = so x refl e

module _ {A : Type 0} (t : Bool) (o : Option A) where
  pub cond_some : {x : A} → cond t o none ≡ some x → (t ≡ true) × (o ≡ some x)
  cond_some e = true_or_false t (λ h. (h, rw h at e)) (λ h. never (rw h at e))

  cond_other : {x : A} → cond t none o ≡ some x → (t ≡ false) × (o ≡ some x)
  cond_other e = true_or_false t (λ h. never (rw h at e)) (λ h. (h, rw h at e))

-- A field is read as x where its bytes are the text of x, and nowhere else.
pub record Field {A : Type 0} (read : List ℕ → Option A) (text : A → List ℕ) (Ok : A → Type 0) : Type 0 where
  pub said : (f : List ℕ) (x : A) → read f ≡ some x → (f ≡ text x) × Ok x
  pub back : (x : A) → Ok x → read (text x) ≡ some x
  no_tab : (f : List ℕ) → find tab f < length f → read f ≡ none

module _ {A : Type 0} {read : List ℕ → Option A} {text : A → List ℕ} {Ok : A → Type 0} (F : Field read text Ok) where
  pub taken : {B : Type 0} (P : List ℕ → Type 0) (f : List ℕ) (g : A → Option B) {y : B} → given (read f) g ≡ some y → ((x : A) → Ok x → g x ≡ some y → P (text x)) → P f
  taken P f g e so = given_some (read f) g e (λ x d e. let s = F.said f x d in rw s.0 (so x s.1 e))

  pub clean : (x : A) → Ok x → Without tab (text x)
  clean x h = by_cases (dec_lt 0 (occurs tab (text x))) (λ l. never (sym (F.no_tab (text x) (occurs_found tab (text x) l)) ∙ F.back x h)) (λ n. omega arith)

-- whole numbers
module _ (top : ℕ) where
  pub number_within : (bs : List ℕ) (n : ℕ) → number_up_to top bs ≡ some n → n ≤ top
  unfolding number_up_to
  number_within bs n e =
      let t = cond_some (plain bs && nat_le (decimal 0 bs) top) (some (decimal 0 bs)) e in
      let same : decimal 0 bs ≡ n = cc t.1 in
      rw same at (leb-true (decimal 0 bs) top (and_right (plain bs) (nat_le (decimal 0 bs) top) t.0))

  pub a_decimal : (j : ℕ) → top < 10 ^ suc (suc j) → Field (number_up_to top) (decimals j) (λ n. n ≤ top)
  a_decimal j h = record { said = λ f n e. (number_text j top h f n e, number_within f n e); back = number_decimals j top h; no_tab = number_tab top }

pub a_number : Field number digits Whole
a_number = a_decimal NONE 8 (omega arith)

pub numbers_said : (fs : List (List ℕ)) (ns : List ℕ) → numbers fs ≡ some ns → (fs ≡ map digits ns) × Each Whole ns
unfolding numbers
numbers_said [] ns e = let same : ns ≡ [] = cc in rw same (refl, tt)
numbers_said (f ∷ fs) ns e =
    given_some (number f) _ e (λ n d e. given_some (numbers fs) _ e (λ ms ds e.
    let others = numbers_said fs ms ds in
    let same : ns ≡ n ∷ ms = cc in
    rw same (cc ((a_number.said f n d).0, others.0), ((a_number.said f n d).1, others.1))))

pub numbers_back : (ns : List ℕ) → Each Whole ns → numbers (map digits ns) ≡ some ns
unfolding numbers
numbers_back [] h = refl
numbers_back (n ∷ ns) h = rw (a_number.back n h.0, numbers_back ns h.1)

pub numbers_clean : (ns : List ℕ) → Each Whole ns → Each (Without tab) (map digits ns)
numbers_clean [] h = tt
numbers_clean (n ∷ ns) h = (clean a_number n h.0, numbers_clean ns h.1)

-- a hexadecimal digit and its byte
between : (low b high : ℕ) → nat_le low b && nat_le b high ≡ true → (low ≤ b) × (b ≤ high)
between low b high t = (leb-true low b (and_left (nat_le low b) (nat_le b high) t), leb-true b high (and_right (nat_le low b) (nat_le b high) t))

digit_byte : (b : ℕ) → is_hex b ≡ true → (hex_byte (hex_digit b) ≡ b) × (hex_digit b < 16)
digit_byte b e =
    or_cases (is_digit b) (nat_le digit_a b && nat_le b digit_f) e
    (λ t. let h = between digit_zero b digit_nine t in rw (le-leb b digit_nine h.1, lt-ltb (b - digit_zero) 10 (omega arith)) (omega arith, omega arith))
    (λ t. let h = between digit_a b digit_f t in rw (lt-leb b digit_nine (omega arith), le-ltb (b - (digit_a - 10)) 10 (omega arith)) (omega arith, omega arith))

byte_digit : (d : ℕ) → d < 16 → (is_hex (hex_byte d) ≡ true) × (hex_digit (hex_byte d) ≡ d)
byte_digit d h =
    by_cases (dec_lt d 10)
    (λ l. rw (lt-ltb d 10 l, le-leb digit_zero (digit_zero + d) (omega arith), le-leb (digit_zero + d) digit_nine (omega arith)) (refl, omega arith))
    (λ m.
    let high = digit_a - 10 + d in
    rw (le-ltb d 10 (omega arith), lt-leb high digit_nine (omega arith), le-leb digit_zero high (omega arith), le-leb digit_a high (omega arith), le-leb high digit_f (omega arith)) (refl, omega arith))

-- digits read behind a number of j digits: their text stands behind that number's, and fills 4 bits for each
hex_said : (j v : ℕ) (bs : List ℕ) {k : ℕ} → j + length bs ≡ k → all is_hex bs ≡ true → v < 16 ^ j → (hex k (hexadecimal v bs) ≡ hex j v ++ bs) × (hexadecimal v bs < 16 ^ k)
unfolding hex hexadecimal all
hex_said j v [] {k} e d h = let same : k ≡ j = omega arith in rw (same, append-nil) (refl, h)
hex_said j v (b ∷ bs) {k} e d h =
    let x = hex_digit b in
    let byte = digit_byte b (and_left (is_hex b) (all is_hex bs) d) in
    let above : (v * 16 + x) / 16 ≡ v = omega (arith, byte.1) in
    let last : (v * 16 + x) % 16 ≡ x = omega (arith, byte.1) in
    let r = hex_said (suc j) (v * 16 + x) bs {k = k} (omega arith) (and_right (is_hex b) (all is_hex bs) d) (omega (arith, byte.1, pow-suc 16 j)) in
    (r.0 ∙ rw (above, last, byte.0) (append_snoc (hex j v) b bs), r.1)

-- and the text of so many digits is read as the number
hex_back : (k p : ℕ) (bs : List ℕ) → p < 16 ^ k → (length (hex k p ++ bs) ≡ k + length bs) × (all is_hex (hex k p ++ bs) ≡ all is_hex bs) × (hexadecimal 0 (hex k p ++ bs) ≡ hexadecimal p bs)
unfolding hex hexadecimal all
hex_back zero p bs h = let same : p ≡ 0 = omega arith in rw same (omega arith, refl, refl)
hex_back (suc k) p bs h =
    let x = p % 16 in
    let byte = byte_digit x (omega arith) in
    let whole : p / 16 * 16 + x ≡ p = omega arith in
    let r = hex_back k (p / 16) (hex_byte x ∷ bs) (omega (arith, pow-suc 16 k)) in
    rw (append_snoc (hex k (p / 16)) (hex_byte x) bs) (omega (arith, r.0), r.1 ∙ rw byte.0, r.2 ∙ rw (byte.1, whole))

pattern_said : (f : List ℕ) (p : ℕ) → pattern f ≡ some p → (f ≡ hex 16 p) × (p < 2 ^ 64)
unfolding pattern hex
pattern_said f p e =
    let t = cond_some (length f == 16 && all is_hex f) (some (hexadecimal 0 f)) e in
    let sixteen = eqb-true (length f) 16 (and_left (length f == 16) (all is_hex f) t.0) in
    let r = hex_said 0 0 f {k = 16} (omega arith) (and_right (length f == 16) (all is_hex f) t.0) (omega arith) in
    let same : hexadecimal 0 f ≡ p = cc t.1 in
    rw (← same) (sym r.0, r.1)

pattern_back : (p : ℕ) → p < 2 ^ 64 → pattern (hex 16 p) ≡ some p
unfolding pattern hexadecimal all
pattern_back p h = let r = rw (append-nil (hex 16 p)) at (hex_back 16 p [] h) in rw (r.0, r.1, r.2)

pub a_pattern : Field pattern (hex 16) (λ p. p < 2 ^ 64)
a_pattern = record { said = pattern_said; back = pattern_back; no_tab = pattern_tab }

-- a word, or what else is read
word_said : {A C : Type 0} (f w : List ℕ) (x : A) (other : Option A) {y : A} → cond (is f w) (some x) other ≡ some y → (f ≡ w → x ≡ y → C) → (other ≡ some y → C) → C
word_said f w x other e here there = true_or_false (is f w) (λ t. here (is_same f w t) (let m : some x ≡ some _ = rw t at e in cc)) (λ n. there (rw n at e))

-- a reason
reason_said : (f : List ℕ) (r : ℕ) → reason_in f ≡ some r → (f ≡ reason_text r) × Whole r
unfolding reason_in reason_text
reason_said f r e =
    word_said f (dash ∷ []) NONE _ e
    (λ same m. rw (← m) (same, omega arith))
    (λ e. given_some (number f) _ e (λ n d e.
    let c = cond_other (n == NONE) (some n) e in
    let same : n ≡ r = cc c.1 in
    rw (← same, c.0) (a_number.said f n d)))

reason_back : (r : ℕ) → Whole r → reason_in (reason_text r) ≡ some r
unfolding reason_in reason_text is number_up_to plain
reason_back r h =
    true_or_false (r == NONE)
    (λ t. rw (eqb-true r NONE t))
    (λ n.
    let read = a_number.back r h in
    let other : is (digits r) (dash ∷ []) ≡ false = not_true (is (digits r) (dash ∷ [])) (λ t. never (rw (is_same (digits r) (dash ∷ []) t) at read)) in
    rw (n, other, read, n))

pub a_reason : Field reason_in reason_text Whole
a_reason = record { said = reason_said; back = reason_back; no_tab = reason_tab }

-- a mode
mode_said : (f : List ℕ) (m : Mode) → mode_in f ≡ some m → f ≡ mode_text m
unfolding mode_in mode_text
mode_said f m e =
    word_said f (mode_text vsids) vsids _ e
    (λ same v. rw (← v) same)
    (λ e. word_said f (mode_text vmtf) vmtf none e (λ same v. rw (← v) same) never)

mode_back : (m : Mode) → mode_in (mode_text m) ≡ some m
unfolding mode_in mode_text is
mode_back vsids = refl
mode_back vmtf = refl

pub a_mode : Field mode_in mode_text (λ m. Unit)
a_mode = record { said = λ f m e. (mode_said f m e, tt); back = λ m h. mode_back m; no_tab = mode-tab }
