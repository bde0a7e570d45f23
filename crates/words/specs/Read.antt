-- What code reads of three words.
use Rattle.std.specs.Prelude.{ℕ, ◌+◌, ◌-◌, ◌≤◌, ◌≡◌, List, [], length, take, drop, Some, None}
use Rattle.std.specs.Prelude as code
use Rattle.std.proofs.Common.{arith, sym, subst, ◌∙◌}
use Rattle.std.proofs.Math.Path.{refl, ap}
use Rattle.std.proofs.Math.Option.{Option, some}
use Rattle.lit.specs.Numbers.{NONE, max_group, bad_line}
use Rattle.book.specs.Calls.{Call, group}
use Rattle.book.specs.Chooser.{Operations}
use Rattle.book.specs.Session.{Session, call}
use Rattle.book.specs.Read.{called}
use Rattle.session.specs.declared.Call as calls
use Rattle.session.specs.Calls.{call_of}
use Rattle.session.specs.Entry.{Answered}
use Rattle.forms.specs.declared.Asked.{Asked}
use Rattle.forms.specs.declared.Asked.TheVariants as asked
use Rattle.forms.specs.Read.{asked_call}
use Rattle.words.specs.Words.{word_call}

-- the call that was read; a group's variables stand in the lent slice
abbrev pub said_call : List ℕ → ℕ → ℕ → code.Option Asked → Option Call
said_call vars a b r = asked_call (some (group (take b (drop a vars)))) r

-- of a group: it is not too long, and its variables stand in vars
abbrev pub fits_in : List ℕ → ℕ → ℕ → code.Option Asked → Type 0
fits_in vars a b None = Unit {0}
fits_in vars a b (Some (asked.Is c)) = Unit {0}
fits_in vars a b (Some asked.Group) = (b ≤ max_group) × (a + b ≤ length vars)

pub record WordsRead (vars : List ℕ) (letter a b : ℕ) (r : code.Option Asked) : Type 0 where
  pub is : said_call vars a b r ≡ word_call vars letter a b
  pub within : fits_in vars a b r

pub group_fits : {vars : List ℕ} {letter a b : ℕ} {r : code.Option Asked} → WordsRead vars letter a b r → r ≡ Some asked.Group → (b ≤ max_group) × (a + b ≤ length vars)
group_fits {vars} {letter} {a} {b} h e = rw e at h.within

-- three words on a session, by what was read of them
module _ {vars : List ℕ} {letter a b : ℕ} {r : code.Option Asked} (h : WordsRead vars letter a b r) {n m : ℕ} {O : Operations} {s : Session n m O} where
  pub words_refused : r ≡ None → Answered (called n m O s (word_call vars letter a b)) s bad_line NONE s
  unfolding called
  words_refused e = rw (sym h.is ∙ ap (said_call vars a b) e) (record { status = refl; reply = refl; session = refl })

  module _ {status reply : ℕ} {u : Session n m O} where
    pub words_answered : {x : calls.Call} → r ≡ Some (asked.Is x) → Answered (call n m O s (call_of x [])) s status reply u → Answered (called n m O s (word_call vars letter a b)) s status reply u
    unfolding called
    words_answered e z = rw (sym h.is ∙ ap (said_call vars a b) e) z

    pub words_group : (e : ℕ) → r ≡ Some asked.Group → e ≡ a + b → Answered (call n m O s (group (take (e - a) (drop a vars)))) s status reply u
        → Answered (called n m O s (word_call vars letter a b)) s status reply u
    unfolding called
    words_group e g q z =
        let k : e - a ≡ b = omega (arith, q) in
        rw (sym h.is ∙ ap (said_call vars a b) g) (subst (λ (j : ℕ). Answered (call n m O s (group (take j (drop a vars)))) s status reply u) k z)
