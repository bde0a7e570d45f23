-- What the check of a list of calls comes to: a refusal is the answer, and without one what the calls leave and tell in turn.
use Rattle.std.specs.Prelude.{ℕ, ◌+◌, ◌*◌, ◌-◌, ◌/◌, ◌≡◌, refl, ◌≢◌, true, List, length}
use Rattle.std.proofs.Common.{sym, ap, ◌∙◌, arith, eqb-true}
use Rattle.std.proofs.Math.Option.{none}
use Rattle.std.proofs.Math.Arith.{digits_div}
use Rattle.lit.specs.Numbers.{NONE}
use Rattle.book.specs.Session.{Result, done, refuse, mapped, Session}
use Rattle.book.specs.Claim.{starting_with, run}
use Rattle.book.specs.Read.{calls_of}
use Rattle.session.specs.Entry.{Answered}
use Rattle.session.proofs.Checks.{refused, accepted}
use Rattle.session.specs.Mode.{Mode, entered_list}
use Rattle.words.specs.Words.{calls_in, words_fit, told, entered_words}
use Rattle.words.specs.Going.{ends, tells}
use Rattle.words.proofs.Going.{told_is}
use Rattle.words.specs.Entered.{refusal}

-- twice the one is three times the other exactly where both count the same calls
pub thirds : (a b : ℕ) → a * 2 ≡ b * 3 → (a ≡ a / 3 * 3) × (b ≡ a / 3 * 2)
thirds a b e =
    let j : a ≡ (a - b) * 3 + 0 = omega (arith, e) in
    let d : a / 3 ≡ a - b = ap (λ (x : ℕ). x / 3) j ∙ digits_div (a - b) {m = 3} {r = 0} (omega arith) in
    (j ∙ omega (arith, d), omega (arith, d, e))

pub fit_thirds : (a b : ℕ) → words_fit a b ≡ true → (a ≡ a / 3 * 3) × (b ≡ a / 3 * 2)
fit_thirds a b e = thirds a b (eqb-true (a * 2) (b * 3) e)

-- an answer is kept where its result is mapped
mapped_answered : {S T : Type 0} (f : S → T) {x : Result S} {s : S} {t : T} {k : ℕ} → Answered x s k NONE s → k ≢ 0 → Answered (mapped f x) t k NONE t
mapped_answered f {x = done r u} a z = absurd (z a.status)
mapped_answered f {x = refuse j} a z = record { status = a.status; reply = refl; session = refl }

module _ (n m : ℕ) (M : Mode) (lits : List ℕ) (literals : ℕ) (list-ends vars words : List ℕ) (s : Session n m M.ops) (out : List ℕ) where
  -- a refusal changes neither session nor answers
  pub list_refused : (k : ℕ) → k ≡ (refusal n m M lits literals list-ends vars words s out) → k ≢ 0 → Answered (entered_words n m M lits literals list-ends vars words (length out) s) (s, out) k NONE (s, out)
  unfolding entered_list
  list_refused k e z =
      let r = starting_with n m M.ops s in
      mapped_answered (told vars words) {s = r} (refused n _ _ _ (done none (run n m M.ops r (calls_of (calls_in vars words)))) r k e z) z

  pub list_ran : {u : Session n m M.ops} {out' : List ℕ} → 0 ≡ (refusal n m M lits literals list-ends vars words s out) → (let cs = calls_in vars words in (u ≡ ends n m M.ops s cs) × (out' ≡ tells n m M.ops s cs))
      → Answered (entered_words n m M lits literals list-ends vars words (length out) s) (s, out) 0 NONE (u, out')
  unfolding entered_list
  list_ran e (p, q) =
      rw (accepted n _ _ _ (done none (run n m M.ops (starting_with n m M.ops s) (calls_of (calls_in vars words)))) e)
      (record { status = refl; reply = refl; session = rw (p, q) (sym (told_is n m M.ops vars words s)) })
