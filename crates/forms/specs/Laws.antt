-- The fields of a line by the places of its tabs: one field, two, or any number of them. Assumes nothing.
use Rattle.std.specs.Prelude.{◌≡◌, ℕ, suc, ◌+◌, ◌<◌, ◌≤◌, Bool, true, false, not, ◌&&◌, List, [], ◌∷◌, length, take, drop, ◌==◌, refl}
use Rattle.std.proofs.Common.{sym, ap, ◌∙◌, arith, eqb-true, take_all}
use lib.Pointwise.{pointwise}
use Rattle.std.proofs.lemmas.Bool.{false≢true}
use Rattle.std.proofs.Math.Option.{Option, none, some}
use Rattle.std.proofs.Math.Logic.{by_cases}
use Rattle.std.proofs.Math.Decide.{dec_lt}
use Rattle.laws.specs.Tests.{true_or_false, and_left, and_right, and_true, and_false, not_true}
use Rattle.lit.specs.Numbers.{NONE}
use Rattle.forms.specs.Letters.{vsids_text, vmtf_text, dash, digit_zero}
use Rattle.forms.specs.Text.{tab, find, fields, all, is_digit, is_hex, plain, number_up_to, number, pattern}
use Rattle.forms.specs.TextLaws.{find_length, split_found, split_last}
use Rattle.forms.specs.Forms.{given, alone, one, two, numbers, is, reason_in, mode_in}

-- the fields are at least one
pub fields_some : (P : List (List ℕ) → Type 0) (bs : List ℕ) → ((f : List ℕ) (fs : List (List ℕ)) → P (f ∷ fs)) → P (fields bs)
fields_some P bs h =
    by_cases (dec_lt (find tab bs) (length bs))
    (λ found. rw (split_found tab bs found) (h _ _))
    (λ last. rw (split_last tab bs (omega (arith, find_length tab bs))) (h _ _))

module _ {B : Type 0} where
  -- one field: the bytes themselves, where what reads them takes no tab
  pub one_field : (read : List ℕ → Option B) (bs : List ℕ) → (find tab bs < length bs → read bs ≡ none) → one read (fields bs) ≡ read bs
  one_field read bs h =
      by_cases (dec_lt (find tab bs) (length bs))
      (λ found. rw (split_found tab bs found) (fields_some (λ gs. given (alone (take (find tab bs) bs) gs) read ≡ read bs) (drop (find tab bs + 1) bs) (λ g gs. sym (h found))))
      (λ last. rw (split_last tab bs (omega (arith, find_length tab bs))))

  -- two fields: none without a tab, else what stands before it and what stands behind
  pub two_last : (read : List ℕ → List ℕ → Option B) (bs : List ℕ) → find tab bs ≡ length bs → two read (fields bs) ≡ none
  two_last read bs e = rw (split_last tab bs e)

  pub two_found : (read : List ℕ → List ℕ → Option B) (bs : List ℕ) → find tab bs < length bs → two read (fields bs) ≡ one (read (take (find tab bs) bs)) (fields (drop (find tab bs + 1) bs))
  two_found read bs h = rw (split_found tab bs h)

-- any number of whole numbers: the first field decides, then what stands behind it
module _ (bs : List ℕ) where
  pub numbers_bad : number (take (find tab bs) bs) ≡ none → numbers (fields bs) ≡ none
  unfolding numbers
  numbers_bad h =
      by_cases (dec_lt (find tab bs) (length bs))
      (λ found. rw (split_found tab bs found, h))
      (λ last.
      let e : find tab bs ≡ length bs = omega (arith, find_length tab bs) in
      rw (split_last tab bs e, rw (take_all (find tab bs) bs (omega arith)) at h))

  pub numbers_last : (n : ℕ) → find tab bs ≡ length bs → number (take (find tab bs) bs) ≡ some n → numbers (fields bs) ≡ some (n ∷ [])
  unfolding numbers
  numbers_last n e h = rw (split_last tab bs e, rw (take_all (find tab bs) bs (omega arith)) at h)

  pub numbers_found : (n : ℕ) → find tab bs < length bs → number (take (find tab bs) bs) ≡ some n → numbers (fields bs) ≡ given (numbers (fields (drop (find tab bs + 1) bs))) (λ ns. some (n ∷ ns))
  unfolding numbers
  numbers_found n l h = rw (split_found tab bs l, h)

-- a byte that fails a test
all_not : (p : ℕ → Bool) (b : ℕ) (bs : List ℕ) → p b ≡ false → find b bs < length bs → all p bs ≡ false
unfolding find all
all_not p b [] h l = absurd (omega arith)
all_not p b (c ∷ cs) h l =
    true_or_false (c == b)
    (λ same. rw (eqb-true c b same, h))
    (λ other. rw (all_not p b cs h (let m : suc (find b cs) < suc (length cs) = rw other at l in omega arith), and_false (p c)))

plain_digits : (bs : List ℕ) → all is_digit bs ≡ false → plain bs ≡ false
unfolding plain all
plain_digits [] h = refl
plain_digits (b ∷ []) h = rw and_true at h
plain_digits (b ∷ (c ∷ bs)) h =
    true_or_false (is_digit b)
    (λ t. rw (rw t at h, and_false (is_digit b && not (b == digit_zero))))
    (λ f. rw f)

-- what reads a field takes no tab
pub number_tab : (top : ℕ) (bs : List ℕ) → find tab bs < length bs → number_up_to top bs ≡ none
unfolding number_up_to
number_tab top bs l = rw (plain_digits bs (all_not is_digit tab bs refl l))

pub pattern_tab : (bs : List ℕ) → find tab bs < length bs → pattern bs ≡ none
unfolding pattern
pattern_tab bs l = rw (all_not is_hex tab bs refl l, and_false)

-- a field is a word where it has its bytes; a word has no tab
pub is_same : (bs cs : List ℕ) → is bs cs ≡ true → bs ≡ cs
unfolding is
is_same [] [] h = refl
is_same [] (c ∷ cs) h = absurd (false≢true h)
is_same (b ∷ bs) [] h = absurd (false≢true h)
is_same (b ∷ bs) (c ∷ cs) h = cc (eqb-true b c (and_left (b == c) (is bs cs) h), is_same bs cs (and_right (b == c) (is bs cs) h))

-- byte by byte, as code compares
is_bytes : (bs cs : List ℕ) → pointwise (λ b c. b == c) bs cs ≡ is bs cs
unfolding is
is_bytes [] [] = refl
is_bytes [] (c ∷ cs) = refl
is_bytes (b ∷ bs) [] = refl
is_bytes (b ∷ bs) (c ∷ cs) = ap (λ (t : Bool). b == c && t) (is_bytes bs cs)

pub is_told : (bs cs : List ℕ) {w : List ℕ} {t u : Bool} → w ≡ cs → t ≡ pointwise (λ b c. b == c) bs w → t ≡ u → is bs cs ≡ u
is_told bs cs s e h = sym (is_bytes bs cs) ∙ ap (pointwise (λ (b c : ℕ). b == c) bs) (sym s) ∙ sym e ∙ h

is_tab : (bs cs : List ℕ) → length cs ≤ find tab cs → find tab bs < length bs → is bs cs ≡ false
is_tab bs cs h l = not_true (is bs cs) (λ e. let m : find tab cs < length cs = rw (is_same bs cs e) at l in omega arith)

pub reason_tab : (bs : List ℕ) → find tab bs < length bs → reason_in bs ≡ none
unfolding reason_in find
reason_tab bs l = rw (is_tab bs (dash ∷ []) (omega arith) l, number_tab NONE bs l)

pub mode-tab : (bs : List ℕ) → find tab bs < length bs → mode_in bs ≡ none
unfolding mode_in find
mode-tab bs l = rw (is_tab bs vsids_text (omega arith) l, is_tab bs vmtf_text (omega arith) l)
