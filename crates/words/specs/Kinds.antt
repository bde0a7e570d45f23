-- What holds of the kind of a letter, by the letter. Assumes nothing.
use Rattle.std.specs.Prelude.{ℕ, ◌<◌, ◌≡◌, ◌≢◌, refl, true, false, cond, List, eqb}
use Rattle.std.proofs.Math.Option.{none}
use Rattle.std.proofs.Common.{arith, eqb-true, eq-eqb, ne_eqb}
use Rattle.laws.specs.Tests.{cond_elim, and_false}
use Rattle.forms.specs.Letters.{bump_letter, decay_letter, set_decay_letter, insert_letter, switch_off_letter, decide_letter, enqueue_letter, learn_unit_letter, go_back_letter, bump_reason_letter, group_letter, clause_letter, first_letter}
use Rattle.forms.specs.Forms.{Kind, kind_of, bumps, decays, sets_decay, inserts, switches_off, decides, enqueues, learns_unit, goes_back, bumps_reason, moves_group, is_clause, is_first, is_other}
use Rattle.forms.specs.declared.table.Kind as code
use Rattle.forms.specs.declared.table.Kind.TheVariants as a_kind
use Rattle.forms.specs.Kinds.{kind_in}
use Rattle.forms.specs.Read.{numbered}
use Rattle.words.specs.Words.{kind_call}

-- P of each kind whose letter b may be, so P of b's
pub record Kinds (P : Kind → Type 0) (b : ℕ) : Type 0 where
  pub bump : b ≡ bump_letter → P bumps
  pub decay : b ≡ decay_letter → P decays
  pub set_decay_lem : b ≡ set_decay_letter → P sets_decay
  pub insert : b ≡ insert_letter → P inserts
  pub switch_off : b ≡ switch_off_letter → P switches_off
  pub decide : b ≡ decide_letter → P decides
  pub enqueue : b ≡ enqueue_letter → P enqueues
  pub learn_unit_lem : b ≡ learn_unit_letter → P learns_unit
  pub go_back : b ≡ go_back_letter → P goes_back
  pub bump_reason : b ≡ bump_reason_letter → P bumps_reason
  pub group : b ≡ group_letter → P moves_group
  pub clause : P is_clause
  pub first : P is_first
  pub other : P is_other

module _ (P : Kind → Type 0) (b : ℕ) where
  either : (l : ℕ) {x y : Kind} → (b ≡ l → P x) → P y → P (cond (eqb b l) x y)
  either l f p = cond_elim P (eqb b l) (λ t. f (eqb-true b l t)) (λ _. p)

  pub by_kind : Kinds P b → P (kind_of b)
  unfolding kind_of
  by_kind k =
      either bump_letter k.bump (
      either decay_letter k.decay (
      either set_decay_letter k.set_decay_lem (
      either insert_letter k.insert (
      either switch_off_letter k.switch_off (
      either decide_letter k.decide (
      either enqueue_letter k.enqueue (
      either learn_unit_letter k.learn_unit_lem (
      either go_back_letter k.go_back (
      either bump_reason_letter k.bump_reason (
      either group_letter k.group (
      either clause_letter (λ e. k.clause) (
      either first_letter (λ e. k.first) k.other))))))))))))

-- a call that takes one word: the second is to be 0
module _ (vars : List ℕ) (a b : ℕ) where
  pub second_taken : (b ≢ 0) → (k : code.Kind) → (k ≢ a_kind.Enqueues) → (k ≢ a_kind.SetsDecay) → (k ≢ a_kind.MovesGroup) → kind_call vars (kind_in k) a b ≡ none
  second_taken z k e w g = taken (ne_eqb b 0 z) k e w g
    where
      taken : eqb b 0 ≡ false → (k : code.Kind) → (k ≢ a_kind.Enqueues) → (k ≢ a_kind.SetsDecay) → (k ≢ a_kind.MovesGroup) → kind_call vars (kind_in k) a b ≡ none
      taken f a_kind.Bumps e w g = rw f
      taken f a_kind.Decays e w g = rw (f, and_false)
      taken f a_kind.SetsDecay e w g = absurd (w refl)
      taken f a_kind.Inserts e w g = rw f
      taken f a_kind.SwitchesOff e w g = rw f
      taken f a_kind.Decides e w g = rw f
      taken f a_kind.Enqueues e w g = absurd (e refl)
      taken f a_kind.LearnsUnit e w g = rw f
      taken f a_kind.GoesBack e w g = rw f
      taken f a_kind.BumpsReason e w g = rw f
      taken f a_kind.MovesGroup e w g = absurd (g refl)
      taken f a_kind.Clause e w g = refl
      taken f a_kind.First e w g = refl
      taken f a_kind.Other e w g = refl

  pub one_taken : b ≡ 0 → (k : code.Kind) → (k ≢ a_kind.Enqueues) → (k ≢ a_kind.SetsDecay) → (k ≢ a_kind.MovesGroup) → (k ≢ a_kind.Decays) → kind_call vars (kind_in k) a b ≡ numbered (kind_in k) a
  one_taken z k e w g d = taken (eq-eqb b 0 z) k e w g d
    where
      taken : eqb b 0 ≡ true → (k : code.Kind) → (k ≢ a_kind.Enqueues) → (k ≢ a_kind.SetsDecay) → (k ≢ a_kind.MovesGroup) → (k ≢ a_kind.Decays) → kind_call vars (kind_in k) a b ≡ numbered (kind_in k) a
      taken t a_kind.Bumps e w g d = rw t
      taken t a_kind.Decays e w g d = absurd (d refl)
      taken t a_kind.SetsDecay e w g d = absurd (w refl)
      taken t a_kind.Inserts e w g d = rw t
      taken t a_kind.SwitchesOff e w g d = rw t
      taken t a_kind.Decides e w g d = rw t
      taken t a_kind.Enqueues e w g d = absurd (e refl)
      taken t a_kind.LearnsUnit e w g d = rw t
      taken t a_kind.GoesBack e w g d = rw t
      taken t a_kind.BumpsReason e w g d = rw t
      taken t a_kind.MovesGroup e w g d = absurd (g refl)
      taken t a_kind.Clause e w g d = refl
      taken t a_kind.First e w g d = refl
      taken t a_kind.Other e w g d = refl

-- no letter is above the bytes
pub no_letter : (vars : List ℕ) (letter a b : ℕ) → 255 < letter → kind_call vars (kind_of letter) a b ≡ none
no_letter vars letter a b h = by_kind (λ (k : Kind). kind_call vars k a b ≡ none) letter (record {
  bump = λ e. absurd (omega (arith, h, e));
  decay = λ e. absurd (omega (arith, h, e));
  set_decay_lem = λ e. absurd (omega (arith, h, e));
  insert = λ e. absurd (omega (arith, h, e));
  switch_off = λ e. absurd (omega (arith, h, e));
  decide = λ e. absurd (omega (arith, h, e));
  enqueue = λ e. absurd (omega (arith, h, e));
  learn_unit_lem = λ e. absurd (omega (arith, h, e));
  go_back = λ e. absurd (omega (arith, h, e));
  bump_reason = λ e. absurd (omega (arith, h, e));
  group = λ e. absurd (omega (arith, h, e));
  clause = refl;
  first = refl;
  other = refl;
})
