-- What holds of writing in either mode: it is accepted exactly where the session is good and its text fits in the buffer, and then the text stands at the buffer's front.
-- Assumes nothing.
use Rattle.std.specs.Prelude.{ℕ, ◌+◌, ◌≤◌, ◌≡◌, ◌↔◌, Bool, take, drop}
use Rattle.std.proofs.Math.Path.{refl}
use Rattle.std.proofs.Common.{ap, ◌∙◌, arith, length-append, take_at}
use Rattle.std.proofs.Math.Bool.{true, false}
use Rattle.std.proofs.Math.Option.{some}
use mathlib.Core.List.{List, [], ◌∷◌, ◌++◌}
use borrow.Author.Tests.{leb-true, le-leb}
use Rattle.std.proofs.Math.Dec.{leb}
use Rattle.std.proofs.Math.ListN.{length}
use Rattle.std.proofs.lemmas.List.{set_at}
use Rattle.std.proofs.Math.Seq.{append_snoc}
use Rattle.lit.specs.Numbers.{NONE, short_buffer}
use Rattle.formula.specs.Clauses.{clauses_ok}
use Rattle.book.specs.Session.{Result, done, status, reply, leaves, need, Session}
use Rattle.session.specs.Entry.{Answered, reply_number}
use Rattle.session.specs.Checks.{state_refusal}
use Rattle.session.proofs.Checks.{refused, accepted, checked_zero}
use Rattle.session.specs.Mode.{Mode, lengths_ok}
use Rattle.session.specs.Entered.{Sound, GoodMemory}
use Rattle.session.proofs.Entered.{passed_good, good_passed}
use Rattle.forms.specs.Text.{written}
use Rattle.saved_text.specs.Saved.{Saved, text_of}
use Rattle.forms.specs.Written.{Wrote}
use Rattle.saved_state.specs.Entry.{wrote}

-- bytes written into a buffer that has room stand at its front
written_behind : (at : ℕ) (front bytes l : List ℕ) → length front ≡ at → length bytes ≤ length l → written at bytes (front ++ l) ≡ front ++ (bytes ++ drop (length bytes) l)
unfolding written
written_behind at front [] l e h = refl
written_behind at front (b ∷ bytes) [] e h = absurd (omega arith)
written_behind at front (b ∷ bytes) (x ∷ l) e h =
    rw (set_at front x l b at e, ← append_snoc front b l)
    (written_behind (at + 1) (front ++ (b ∷ [])) bytes l (length-append front (b ∷ []) ∙ rw e) (omega arith) ∙ append_snoc front b (bytes ++ drop (length bytes) l))

front_written : (bytes l : List ℕ) → length bytes ≤ length l → take (length bytes) (written 0 bytes l) ≡ bytes
front_written bytes l h = ap (take (length bytes)) (written_behind 0 [] bytes l refl h) ∙ take_at bytes (drop (length bytes) l) (length bytes) refl

module _ (n m : ℕ) (M : Mode) (lits : List ℕ) (literals : ℕ) (ends : List ℕ) (saved_of : Session n m M.ops → Saved) (L : Sound n m M lits ends) (s : Session n m M.ops) (buffer : List ℕ) where
  abbrev text : List ℕ
  text = text_of (saved_of s)

  abbrev result : Result (List ℕ)
  result = wrote n m M lits literals ends saved_of s buffer

  pub wrote_good : GoodMemory L.Good lits literals ends s → length text ≤ length buffer → result ≡ done (some (length text)) (written 0 text buffer)
  unfolding wrote need
  wrote_good g h = accepted n _ _ _ _ (good_passed n m M lits literals ends L true s g refl) ∙ rw (le-leb _ _ h)

  good_wrote : L.Typed s.chooser → status result ≡ 0 → GoodMemory L.Good lits literals ends s × (length text ≤ length buffer)
  unfolding wrote need
  good_wrote t e =
      let none = checked_zero n _ _ _ _ e in
      ((passed_good n m M lits literals ends L true s t none).0, go (leb (length text) (length buffer)) refl (rw (accepted n _ _ _ _ none) at e))
    where
      go : (b : Bool) → leb (length text) (length buffer) ≡ b → status (need {S = List ℕ} b short_buffer (done (some (length text)) (written 0 text buffer))) ≡ 0 → length text ≤ length buffer
      go true q e = leb-true _ _ q
      go false q e = absurd (omega arith)

  pub wrote_exactly : L.Typed s.chooser → (status result ≡ 0) ↔ (GoodMemory L.Good lits literals ends s × (length text ≤ length buffer))
  wrote_exactly t = (good_wrote t, λ g. rw (wrote_good g.0 g.1))

  -- as many bytes as it replies are the text
  pub wrote_text : L.Typed s.chooser → status result ≡ 0 → take (reply_number (reply result)) (leaves buffer result) ≡ text
  wrote_text t e = let g = good_wrote t e in rw (wrote_good g.0 g.1) (front_written text buffer g.1)

-- What the code answers: a refusal of the tests, whatever the buffer; without one, by whether the text fits.
module _ (n m : ℕ) (M : Mode) (lits : List ℕ) (literals : ℕ) (ends : List ℕ) (saved_of : Session n m M.ops → Saved) (s : Session n m M.ops) (buffer : List ℕ) where
  abbrev refusal : ℕ
  refusal = state_refusal n (lengths_ok n m M lits literals ends s true) (clauses_ok n lits ends) (M.state s.trail s.chooser)

  pub wrote_refused : (k : ℕ) → k ≡ refusal → (k ≡ 0 → ⊥) → Answered (wrote n m M lits literals ends saved_of s buffer) buffer k NONE buffer
  unfolding wrote
  wrote_refused k e z = refused n _ _ _ _ buffer k e z

  module _ (none : 0 ≡ refusal) where
    pub wrote_none : leb (length (text_of (saved_of s))) (length buffer) ≡ false → Answered (wrote n m M lits literals ends saved_of s buffer) buffer short_buffer NONE buffer
    unfolding wrote need
    wrote_none e = rw (accepted n _ _ _ _ none, e) (record { status = refl; reply = refl; session = refl })

    pub wrote_all : leb (length (text_of (saved_of s))) (length buffer) ≡ true → (k : ℕ) (u : List ℕ) → Wrote 0 (text_of (saved_of s)) buffer u k → Answered (wrote n m M lits literals ends saved_of s buffer) buffer 0 k u
    unfolding wrote need
    wrote_all e k u w = rw (accepted n _ _ _ _ none, e) (record { status = refl; reply = omega (arith, w.place); session = w.buffer })
