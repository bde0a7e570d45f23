-- What hosts get of a run, from what code tells of it; and the refusals 1 and 2 by the sheet. Assumes nothing.
use Rattle.std.specs.Prelude.{ℕ, ◌*◌, ◌-◌, ◌≤◌, ◌<◌, ◌≡◌, List, length, Ok, Err}
use Rattle.std.proofs.Math.Path.{refl}
use Rattle.std.proofs.Common.{ap, ◌∙◌, arith}
use borrow.Author.Tests.{le-leb, lt-leb}
use Rattle.std.specs.Prelude as code
use Rattle.lit.specs.declared.Refusal.{Refusal}
use Rattle.lit.specs.Refusals.{refusal_number}
use Rattle.lit.specs.Numbers.{NONE, max_sheet, answer_room, long_sheet, short_buffer}
use Rattle.book.specs.Session.{Result, done, refuse, need}
use Rattle.forms.specs.Text.{newline, occurs}
use Rattle.saved_sheet.specs.Sheets.{taken}
use Rattle.saved_run.specs.declared.Both.{Both}
use Rattle.saved_run.specs.Outcomes.{Comes}
use Rattle.saved_desk.specs.Outcomes.{Gives}

-- ---- 1 and 2
module _ {S : Type 0} (sheet : List ℕ) (room : ℕ) (x : Result S) where
  pub too_long : max_sheet < length sheet → taken sheet room x ≡ refuse long_sheet
  unfolding need
  too_long long = rw (lt-leb (length sheet) max_sheet long) refl

  module _ (short : length sheet ≤ max_sheet) where
    pub no_room : room < answer_room * occurs newline sheet → taken sheet room x ≡ refuse short_buffer
    unfolding need
    no_room few = rw (le-leb (length sheet) max_sheet short, lt-leb (answer_room * occurs newline sheet) room few) refl

    pub is_taken : answer_room * occurs newline sheet ≤ room → taken sheet room x ≡ x
    unfolding need
    is_taken enough = rw (le-leb (length sheet) max_sheet short, le-leb (answer_room * occurs newline sheet) room enough) refl

-- refused, nothing has changed
pub comes_refused : {x : Result (List ℕ × List ℕ)} (e : Refusal) (out text : List ℕ) → x ≡ refuse (refusal_number e) → Comes x out text (Err e) out text
comes_refused e out text q = rw q (e, refl, refl, refl, refl)

-- ---- what hosts get

-- answers and text that a number can count
abbrev pub Small : Result (List ℕ × List ℕ) → Type 0
Small (done r both) = (length both.0 ≤ NONE) × (length both.1 ≤ NONE)
Small (refuse k) = Unit {0}

abbrev both_of : code.Result Both Refusal → Both
both_of (Ok b) = b
both_of (Err e) = record { answers = 0; text = 0 }

module _ (out text out' text' : List ℕ) where
  pub counts_small : (x : Result (List ℕ × List ℕ)) {b : Both} → Small x → Comes x out text (Ok b) out' text' → (b.answers ≤ NONE) × (b.text ≤ NONE)
  counts_small (done r both) h c = let e = ap (λ (k : code.Result Both Refusal). both_of k) c.0 in (omega (arith, ap (λ (b : Both). b.answers) e, h.0), omega (arith, ap (λ (b : Both). b.text) e, h.1))
  counts_small (refuse k) h c = let z : ◌≡◌ {A = ℕ} 0 1 = cc c.1 in absurd (omega arith)

  pub gives_written : (x : Result (List ℕ × List ℕ)) (w : ℕ) (b : Both) → Comes x out text (Ok b) out' text' → Gives x out text w b.answers out' text' b.text
  gives_written (done r both) w b c = let e = ap (λ (k : code.Result Both Refusal). both_of k) c.0 in (ap (λ (b : Both). b.answers) e, c.1, c.2, ap (λ (b : Both). b.text) e)
  gives_written (refuse k) w b c = let z : ◌≡◌ {A = ℕ} 0 1 = cc c.1 in absurd (omega arith)

  pub gives_refused : (x : Result (List ℕ × List ℕ)) (w : ℕ) (e : Refusal) → Comes x out text (Err e) out' text' → Gives x out text w (NONE - refusal_number e) out' text' w
  gives_refused (done r both) w e c = let z : ◌≡◌ {A = ℕ} 0 1 = cc c.0 in absurd (omega arith)
  gives_refused (refuse j) w e (f, same, is, a, b) = (let q : e ≡ f = cc same in ap (λ (i : ℕ). NONE - i) (ap refusal_number q ∙ is), a, b, refl)
