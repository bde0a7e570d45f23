-- A line is read as a call, as a clause or as the first line just where it is written so: the letter tells the kind, and each field has one text. Assumes nothing.
use Rattle.std.specs.Prelude.{◌≡◌, ℕ, cond, ◌↔◌, List, [], ◌∷◌, map, length, ◌==◌, from_bits, nat_le, refl}
use Rattle.std.proofs.Common.{◌∙◌, arith, eqb-true, leb-true, le-leb}
use Rattle.std.proofs.Math.Option.{Option, some}
use Rattle.std.specs.Float.{binary64}
use Rattle.laws.specs.Tests.{cond_elim}
use Rattle.lit.specs.Numbers.{max_group}
use Rattle.book.specs.Calls.{Call, bump, decay, set_decay, insert, switch_off, decide, enqueue, learn_unit, go_back, bump_reason, group}
use Rattle.forms.specs.Letters.{bump_letter, decay_letter, set_decay_letter, insert_letter, switch_off_letter, decide_letter, enqueue_letter, learn_unit_letter, go_back_letter, bump_reason_letter, group_letter, clause_letter, first_letter}
use Rattle.forms.specs.Text.{tab, occurs, digits}
use Rattle.forms.specs.Forms.{Kind, kind_of, bumps, decays, sets_decay, inserts, switches_off, decides, enqueues, learns_unit, goes_back, bumps_reason, moves_group, is_clause, is_first, is_other, given, alone, one, two, numbers, group_in, call_with, call_in, codes_in, Opening, opening_in, first_in}
use Rattle.forms.specs.Kinds.{letter}
use Rattle.forms.specs.Spelling.{Without, line_of, reason_text, mode_text, First, Clause, Says, line_b, line_y, line_w, line_i, line_o, line_g, line_e, line_u, line_k, line_r, line_f}
use Rattle.forms.specs.Pieces.{lettered_said, lettered_read}
use Rattle.forms.specs.Words.{never, same_some, given_some, cond_some, Field, taken, clean, a_number, numbers_said, numbers_back, numbers_clean, a_pattern, a_reason, a_mode}

-- clause lines
pub codes_said : (line codes : List ℕ) → (codes_in line ≡ some codes) ↔ Clause line codes
unfolding codes_in occurs
codes_said line codes = (
  λ e. lettered_said _ (λ line. Clause line codes) line e (λ b fs e.
      let c = cond_some (b == clause_letter) (numbers fs) e in
      let n = numbers_said fs codes c.1 in
      rw (eqb-true b clause_letter c.0, n.0) (refl, n.1)),
  λ h. rw h.0 (lettered_read _ clause_letter (map digits codes) refl (numbers_clean codes h.1) ∙ numbers_back codes h.1),
)

-- what was made of one field, or of two
module _ {A B : Type 0} {read : List ℕ → Option A} {text : A → List ℕ} {Ok : A → Type 0} (F : Field read text Ok) (P : List (List ℕ) → B → Type 0) where
  one_said : (make : A → B) → ((x : A) → Ok x → P (text x ∷ []) (make x)) → (fs : List (List ℕ)) (y : B) → one (λ f. given (read f) (λ x. some (make x))) fs ≡ some y → P fs y
  one_said make so [] y e = never e
  one_said make so (f ∷ []) y e = taken F (λ f. P (f ∷ []) y) f _ e (λ x h e. same_some (P (text x ∷ [])) e (so x h))
  one_said make so (f ∷ (g ∷ fs)) y e = never e

  module _ {A' : Type 0} {read' : List ℕ → Option A'} {text' : A' → List ℕ} {Ok' : A' → Type 0} (G : Field read' text' Ok') where
    two_said :
        (make : A → A' → B) → ((x : A) (y : A') → Ok x → Ok' y → P (text x ∷ text' y ∷ []) (make x y)) → (fs : List (List ℕ)) (z : B)
        → two (λ f g. given (read f) (λ x. given (read' g) (λ y. some (make x y)))) fs ≡ some z → P fs z
    two_said make so [] z e = never e
    two_said make so (f ∷ []) z e = never e
    two_said make so (f ∷ (g ∷ [])) z e =
        taken F (λ f. P (f ∷ g ∷ []) z) f _ e (λ x h e.
        taken G (λ g. P (text x ∷ g ∷ []) z) g _ e (λ y i e.
        same_some (P (text x ∷ text' y ∷ [])) e (so x y h i)))
    two_said make so (f ∷ (g ∷ (h ∷ fs))) z e = never e

-- the first line
pub first_said : (line : List ℕ) (o : Opening) → (first_in line ≡ some o) ↔ First line o
unfolding first_in occurs
first_said line o = (
  λ e. lettered_said _ (λ line. First line o) line e (λ b fs e.
      let c = cond_some (b == first_letter) (two opening_in fs) e in
      rw (eqb-true b first_letter c.0) (two_said a_number (λ fs o. First (line_of first_letter fs) o) a_mode (λ n m. record { vars = n; mode = m }) (λ n m h t. (refl, h)) fs o c.1)),
  λ h. rw h.0 (
      lettered_read _ first_letter (digits o.vars ∷ mode_text o.mode ∷ []) refl (clean a_number o.vars h.1, (clean a_mode o.mode tt, tt))
      ∙ rw (a_number.back o.vars h.1, a_mode.back o.mode tt)),
)

-- a call that was read is written so, by the kind of its line
abbrev On : ℕ → List (List ℕ) → Call → Type 0
On b fs c = Says (line_of b fs) c

step_says : (fs : List (List ℕ)) (c : Call) → alone decay fs ≡ some c → On decay_letter fs c
step_says [] c e = same_some (On decay_letter []) e line_y
step_says (f ∷ fs) c e = never e

group_says : (fs : List (List ℕ)) (c : Call) → group_in fs ≡ some c → On group_letter fs c
group_says fs c e =
    given_some (numbers fs) _ e (λ vs d e.
    let n = numbers_said fs vs d in
    let t = cond_some (nat_le (length vs) max_group) (some (group vs)) e in
    rw n.0 (same_some (On group_letter (map digits vs)) t.1 (line_f vs n.1 (omega (arith, leb-true (length vs) max_group t.0)))))

kind_says : (k : Kind) (fs : List (List ℕ)) (c : Call) → call_with k fs ≡ some c → On (letter k) fs c
kind_says bumps = one_said a_number (On bump_letter) bump line_b
kind_says decays = step_says
kind_says sets_decay = one_said a_pattern (On set_decay_letter) (λ p. set_decay (from_bits binary64 p)) line_w
kind_says inserts = one_said a_number (On insert_letter) insert line_i
kind_says switches_off = one_said a_number (On switch_off_letter) switch_off line_o
kind_says decides = one_said a_number (On decide_letter) decide line_g
kind_says enqueues = two_said a_number (On enqueue_letter) a_reason enqueue line_e
kind_says learns_unit = one_said a_number (On learn_unit_letter) learn_unit line_u
kind_says goes_back = one_said a_number (On go_back_letter) go_back line_k
kind_says bumps_reason = one_said a_number (On bump_reason_letter) bump_reason line_r
kind_says moves_group = group_says
kind_says is_clause = λ fs c e. never e
kind_says is_first = λ fs c e. never e
kind_says is_other = λ fs c e. never e

-- .. and the kind tells the letter
module _ (b : ℕ) where
  record Told (k : Kind) : Type 0 where
    pub at : (fs : List (List ℕ)) (c : Call) → call_with k fs ≡ some c → On b fs c

  told : (k : Kind) {other : Kind} → Told other → Told (cond (b == letter k) k other)
  told k h = cond_elim Told (b == letter k) (λ t. rw (eqb-true b (letter k) t) (record { at = kind_says k })) (λ f. h)

  all_told : Told (kind_of b)
  unfolding kind_of
  all_told =
      told bumps (told decays (told sets_decay (told inserts (told switches_off (told decides (told enqueues (
      told learns_unit (told goes_back (told bumps_reason (told moves_group (told is_clause (told is_first (
      record { at = λ fs c e. never e })))))))))))))

-- a call that is written is read
module _ {A : Type 0} {read : List ℕ → Option A} {text : A → List ℕ} {Ok : A → Type 0} (F : Field read text Ok) (b : ℕ) (make : A → Call) where
  one_read : (x : A) → Ok x → Without tab (b ∷ []) → ((fs : List (List ℕ)) → call_with (kind_of b) fs ≡ one (λ f. given (read f) (λ x. some (make x))) fs) → call_in (line_of b (text x ∷ [])) ≡ some (make x)
  unfolding call_in
  one_read x h t k = lettered_read _ b (text x ∷ []) t (clean F x h, tt) ∙ k (text x ∷ []) ∙ rw (F.back x h)

read_back_lem : {line : List ℕ} {c : Call} → Says line c → call_in line ≡ some c
unfolding call_in kind_of occurs
read_back_lem (line_b v h) = one_read a_number bump_letter bump v h refl (λ fs. refl)
read_back_lem line_y = lettered_read _ decay_letter [] refl tt
read_back_lem (line_w p h) = one_read a_pattern set_decay_letter (λ p. set_decay (from_bits binary64 p)) p h refl (λ fs. refl)
read_back_lem (line_i v h) = one_read a_number insert_letter insert v h refl (λ fs. refl)
read_back_lem (line_o v h) = one_read a_number switch_off_letter switch_off v h refl (λ fs. refl)
read_back_lem (line_g p h) = one_read a_number decide_letter decide p h refl (λ fs. refl)
read_back_lem (line_e c r h i) =
    lettered_read _ enqueue_letter (digits c ∷ reason_text r ∷ []) refl (clean a_number c h, (clean a_reason r i, tt))
    ∙ rw (a_number.back c h, a_reason.back r i)
read_back_lem (line_u c h) = one_read a_number learn_unit_letter learn_unit c h refl (λ fs. refl)
read_back_lem (line_k l h) = one_read a_number go_back_letter go_back l h refl (λ fs. refl)
read_back_lem (line_r v h) = one_read a_number bump_reason_letter bump_reason v h refl (λ fs. refl)
read_back_lem (line_f vs h l) = lettered_read _ group_letter (map digits vs) refl (numbers_clean vs h) ∙ rw (numbers_back vs h, le-leb (length vs) max_group (omega arith))

pub call_said : (line : List ℕ) (c : Call) → (call_in line ≡ some c) ↔ Says line c
unfolding call_in
call_said line c = (λ e. lettered_said _ (λ line. Says line c) line e (λ b fs e. (all_told b).at fs c e), read_back_lem)
