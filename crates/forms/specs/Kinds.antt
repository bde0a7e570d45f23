-- The kinds in the table of first bytes, as code has them. Assumes nothing.
use Rattle.std.specs.Prelude.{◌≡◌, ℕ, true, false, cond, ◌==◌, ◌≢◌, refl}
use Rattle.std.proofs.Common.{sym, ap, ◌∙◌, arith, eqb-true, eq-eqb}
use Rattle.laws.specs.Tests.{cond_elim, not_true}
use Rattle.forms.specs.Letters.{bump_letter, decay_letter, set_decay_letter, insert_letter, switch_off_letter, decide_letter, enqueue_letter, learn_unit_letter, go_back_letter, bump_reason_letter, group_letter, clause_letter, first_letter}
use Rattle.forms.specs.declared.table.Kind as code
use Rattle.forms.specs.declared.table.Kind.TheVariants as a_kind
use Rattle.forms.specs.Forms.{Kind, kind_of, bumps, decays, sets_decay, inserts, switches_off, decides, enqueues, learns_unit, goes_back, bumps_reason, moves_group, is_clause, is_first, is_other}

-- a kind as code has it
abbrev pub code_kind : Kind → code.Kind
code_kind bumps = a_kind.Bumps
code_kind decays = a_kind.Decays
code_kind sets_decay = a_kind.SetsDecay
code_kind inserts = a_kind.Inserts
code_kind switches_off = a_kind.SwitchesOff
code_kind decides = a_kind.Decides
code_kind enqueues = a_kind.Enqueues
code_kind learns_unit = a_kind.LearnsUnit
code_kind goes_back = a_kind.GoesBack
code_kind bumps_reason = a_kind.BumpsReason
code_kind moves_group = a_kind.MovesGroup
code_kind is_clause = a_kind.Clause
code_kind is_first = a_kind.First
code_kind is_other = a_kind.Other

-- and back
abbrev pub kind_in : code.Kind → Kind
kind_in a_kind.Bumps = bumps
kind_in a_kind.Decays = decays
kind_in a_kind.SetsDecay = sets_decay
kind_in a_kind.Inserts = inserts
kind_in a_kind.SwitchesOff = switches_off
kind_in a_kind.Decides = decides
kind_in a_kind.Enqueues = enqueues
kind_in a_kind.LearnsUnit = learns_unit
kind_in a_kind.GoesBack = goes_back
kind_in a_kind.BumpsReason = bumps_reason
kind_in a_kind.MovesGroup = moves_group
kind_in a_kind.Clause = is_clause
kind_in a_kind.First = is_first
kind_in a_kind.Other = is_other

pub kind_back : (k : Kind) → kind_in (code_kind k) ≡ k
kind_back bumps = refl
kind_back decays = refl
kind_back sets_decay = refl
kind_back inserts = refl
kind_back switches_off = refl
kind_back decides = refl
kind_back enqueues = refl
kind_back learns_unit = refl
kind_back goes_back = refl
kind_back bumps_reason = refl
kind_back moves_group = refl
kind_back is_clause = refl
kind_back is_first = refl
kind_back is_other = refl

pub code_back : (k : code.Kind) → code_kind (kind_in k) ≡ k
code_back a_kind.Bumps = refl
code_back a_kind.Decays = refl
code_back a_kind.SetsDecay = refl
code_back a_kind.Inserts = refl
code_back a_kind.SwitchesOff = refl
code_back a_kind.Decides = refl
code_back a_kind.Enqueues = refl
code_back a_kind.LearnsUnit = refl
code_back a_kind.GoesBack = refl
code_back a_kind.BumpsReason = refl
code_back a_kind.MovesGroup = refl
code_back a_kind.Clause = refl
code_back a_kind.First = refl
code_back a_kind.Other = refl

pub kind_told : {k : code.Kind} {x : Kind} → kind_in k ≡ x → k ≡ code_kind x
kind_told {k} e = sym (code_back k) ∙ ap code_kind e

-- the letter of a kind
abbrev pub letter : Kind → ℕ
letter bumps = bump_letter
letter decays = decay_letter
letter sets_decay = set_decay_letter
letter inserts = insert_letter
letter switches_off = switch_off_letter
letter decides = decide_letter
letter enqueues = enqueue_letter
letter learns_unit = learn_unit_letter
letter goes_back = go_back_letter
letter bumps_reason = bump_reason_letter
letter moves_group = group_letter
letter is_clause = clause_letter
letter is_first = first_letter
letter is_other = 0

module _ (b : ℕ) where
  -- a byte of a kind is its letter
  record Its (k : Kind) : Type 0 where
    pub at : (k ≢ is_other) → b ≡ letter k

  its : (k : Kind) {rest : Kind} → Its rest → Its (cond (b == letter k) k rest)
  its k other = cond_elim Its (b == letter k) (λ t. record { at = λ n. eqb-true b (letter k) t }) (λ f. other)

  all_its : Its (kind_of b)
  unfolding kind_of
  all_its =
      its bumps (its decays (its sets_decay (its inserts (its switches_off (its decides (its enqueues (
      its learns_unit (its goes_back (its bumps_reason (its moves_group (its is_clause (its is_first (
      record { at = λ n. absurd (n refl) })))))))))))))

  -- so the table's kind tells the letter
  module _ (k : Kind) (e : kind_of (letter k) ≡ k) (n : k ≡ is_other → ⊥) {c : code.Kind} (is : c ≡ code_kind (kind_of b)) where
    it_is : c ≡ code_kind k → (b == letter k) ≡ true
    it_is h =
        let same : kind_of b ≡ k = sym (kind_back (kind_of b)) ∙ ap kind_in (sym is ∙ h) ∙ kind_back k in
        eq-eqb b (letter k) (all_its.at (λ o. n (sym same ∙ o)) ∙ ap letter same)

    it_is_not : (c ≢ code_kind k) → (b == letter k) ≡ false
    it_is_not m = not_true (b == letter k) (λ t. m (is ∙ ap (λ (x : ℕ). code_kind (kind_of x)) (eqb-true b (letter k) t) ∙ ap code_kind e))

module _ (b : ℕ) {c : code.Kind} (is : c ≡ code_kind (kind_of b)) where
  pub clause_told : c ≡ a_kind.Clause → (b == clause_letter) ≡ true
  unfolding kind_of
  clause_told = it_is b is_clause refl (λ e. let z : ◌≡◌ {A = ℕ} 0 1 = cc in omega arith) is

  pub clause_untold : (c ≢ a_kind.Clause) → (b == clause_letter) ≡ false
  unfolding kind_of
  clause_untold = it_is_not b is_clause refl (λ e. let z : ◌≡◌ {A = ℕ} 0 1 = cc in omega arith) is

  pub first_told : c ≡ a_kind.First → (b == first_letter) ≡ true
  unfolding kind_of
  first_told = it_is b is_first refl (λ e. let z : ◌≡◌ {A = ℕ} 0 1 = cc in omega arith) is

  pub first_untold : (c ≢ a_kind.First) → (b == first_letter) ≡ false
  unfolding kind_of
  first_untold = it_is_not b is_first refl (λ e. let z : ◌≡◌ {A = ℕ} 0 1 = cc in omega arith) is
