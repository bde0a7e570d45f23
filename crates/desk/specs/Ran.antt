-- The run as a host sees it, and as the program prints it. Assumes nothing.
use Rattle.std.specs.Prelude.{ℕ, ◌+◌, ◌*◌, ◌-◌, ◌≤◌, ◌<◌, ◌≡◌, List, [], ◌∷◌, ◌++◌, leb, length, set}
use Rattle.std.proofs.Math.Path.{refl}
use Rattle.std.proofs.Math.Option.{none}
use Rattle.std.proofs.Common.{arith}
use borrow.Author.Tests.{leb-true, le-leb, lt-leb}
use Rattle.laws.specs.Tests.{true_or_false}
use Rattle.lit.specs.Numbers.{NONE, max_sheet, answer_room, long_sheet, short_buffer}
use Rattle.book.specs.Session.{Result, done, refuse, leaves, need}
use Rattle.forms.specs.Text.{newline, lines, occurs, digits, written}
use Rattle.forms.specs.TextLaws.{occurs_length, lines_end, lines_length, decimals_one}
use Rattle.sheet.specs.Sheet.{answered, ran, result}
use Rattle.forms.specs.Written.{Wrote}
use Rattle.sheet.proofs.Bounds.{answered_short}
use Rattle.desk.specs.Positions.{used, used_on, SameFrom, untouched}

-- what the host gets and the buffer are those of a run that comes to x
abbrev Gave : Result (List ℕ) → List ℕ → ℕ → List ℕ → Type 0
Gave x out r out' = (r ≡ result x) × (out' ≡ written 0 (leaves [] x) out)

-- and so are the lent positions
abbrev Ran : (sheet out lent : List ℕ) → ℕ → List ℕ → List ℕ → Type 0
Ran sheet out lent r out' lent' = let x = ran sheet (length out) in Gave x out r out' × SameFrom (used x (lines sheet) (length lent)) lent lent'

module _ (sheet out lent : List ℕ) where
  pub ran_long : max_sheet < length sheet → Ran sheet out lent (NONE - long_sheet) out lent
  unfolding ran need written
  ran_long long = rw (lt-leb (length sheet) max_sheet long) ((refl, refl), untouched)

  module _ (short : length sheet ≤ max_sheet) where
    pub ran_no_room : length out < answer_room * occurs newline sheet → Ran sheet out lent (NONE - short_buffer) out lent
    unfolding ran need written
    ran_no_room few = rw (le-leb (length sheet) max_sheet short, lt-leb (answer_room * occurs newline sheet) (length out) few) ((refl, refl), untouched)

    module _ (room : answer_room * occurs newline sheet ≤ length out) where
      pub ran_answers : {r : ℕ} {out' lent' : List ℕ} → Wrote 0 (answered (lines sheet)) out out' r × SameFrom (used_on (lines sheet) (length lent)) lent lent' → Ran sheet out lent r out' lent'
      unfolding ran need
      ran_answers w =
          rw (le-leb (length sheet) max_sheet short, le-leb (answer_room * occurs newline sheet) (length out) room)
          ((omega (arith, w.0.place), w.0.buffer), w.1)

      pub ran_none : occurs newline sheet ≡ 0 → Ran sheet out lent 0 out lent
      unfolding answered written
      ran_none empty = ran_answers (rw (lines_end sheet empty) (record { buffer = refl; place = refl }), untouched)

-- a refusal alone on a line, and how many bytes that takes
abbrev refusal_line : ℕ → List ℕ
refusal_line k = digits k ++ (newline ∷ [])

abbrev pub refusal_room : ℕ
refusal_room = 2

-- 'the program then prints 1 or 2 alone on a line': what the program prints of a run, with a buffer of so many bytes. Where the line has no room in it,
-- it stays a refusal.
unfoldable pub printed : ℕ → Result (List ℕ) → Result (List ℕ)
printed room (done r bytes) = done r bytes
printed room (refuse k) = need (leb (length (refusal_line k)) room) k (done none (refusal_line k))

-- a run writes answers for which there was room, or is refused by 1 or 2
module _ (sheet : List ℕ) where
  ran_is : (room : ℕ) (P : Result (List ℕ) → Type 0) → (length sheet ≤ max_sheet → answer_room * occurs newline sheet ≤ room → P (done none (answered (lines sheet))))
      → ((k : ℕ) → k ≤ short_buffer → P (refuse k)) → P (ran sheet room)
  unfolding ran need
  ran_is room P answers refused =
      true_or_false (leb (length sheet) max_sheet)
      (λ a. rw a (true_or_false (leb (answer_room * occurs newline sheet) room) (λ b. rw b (answers (leb-true (length sheet) max_sheet a) (leb-true (answer_room * occurs newline sheet) room b))) (λ b. rw b (refused short_buffer (omega arith)))))
      (λ a. rw a (refused long_sheet (omega arith)))

  -- each line has its room
  lines_fit : length sheet ≤ max_sheet → length (answered (lines sheet)) ≤ answer_room * occurs newline sheet
  lines_fit short = let few = lines_length sheet in omega (arith, answered_short (lines sheet) (omega (arith, few, occurs_length newline sheet)), few)

  pub few_bytes : length sheet ≤ max_sheet → length (answered (lines sheet)) < NONE - short_buffer
  few_bytes short = omega (arith, lines_fit short, occurs_length newline sheet)

-- a refusal's line takes two bytes
refusal_long : (k : ℕ) → k ≤ short_buffer → length (refusal_line k) ≡ refusal_room
refusal_long k small = rw (decimals_one 8 k (omega arith)) refl

-- with room for it, all that is printed has room
pub printed_fits : (sheet : List ℕ) {room : ℕ} → refusal_room ≤ room → result (printed room (ran sheet room)) ≤ room
unfolding printed need
printed_fits sheet {room} two =
    ran_is sheet room (λ (x : Result (List ℕ)). result (printed room x) ≤ room)
    (λ short fits. omega (arith, lines_fit sheet short))
    (λ k small. rw (refusal_long k small, le-leb refusal_room room two, refusal_long k small) two)

-- what the program prints of a run: the answers as they are written; the refusal, as it is, without room for its line, and else its digit and a newline
module _ (sheet out : List ℕ) {r : ℕ} {out' : List ℕ} (g : Gave (ran sheet (length out)) out r out') where
  pub printed_answers : r < NONE - short_buffer → Gave (printed (length out) (ran sheet (length out))) out r out'
  unfolding printed
  printed_answers few =
      ran_is sheet (length out) (λ (x : Result (List ℕ)). Gave x out r out' → Gave (printed (length out) x) out r out')
      (λ short fits g. g)
      (λ k small g. absurd (omega (arith, g.0, few)))
      g

  pub printed_no_room : length out < refusal_room → Gave (printed (length out) (ran sheet (length out))) out r out'
  unfolding printed need
  printed_no_room few =
      ran_is sheet (length out) (λ (x : Result (List ℕ)). Gave x out r out' → Gave (printed (length out) x) out r out')
      (λ short fits g. g)
      (λ k small g. rw (refusal_long k small, lt-leb refusal_room (length out) few) g)
      g

  pub printed_refusal : NONE - short_buffer ≤ r → refusal_room ≤ length out → Gave (printed (length out) (ran sheet (length out))) out refusal_room (set (set out' 0 (48 + (NONE - r))) 1 newline)
  unfolding printed need written
  printed_refusal many two =
      ran_is sheet (length out) (λ (x : Result (List ℕ)). Gave x out r out' → Gave (printed (length out) x) out refusal_room (set (set out' 0 (48 + (NONE - r))) 1 newline))
      (λ short fits g. absurd (omega (arith, g.0, many, few_bytes sheet short)))
      (λ k small g.
      let e : NONE - r ≡ k = omega (arith, g.0) in
      rw (refusal_long k small, le-leb refusal_room (length out) two, e, decimals_one 8 k (omega arith), g.1) (refl, refl))
      g
