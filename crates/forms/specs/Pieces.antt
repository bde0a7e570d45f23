-- What was split, put together, is the bytes again; pieces without the separator, put together, are split into the same. Assumes nothing.
use Rattle.std.specs.Prelude.{◌≡◌, ℕ, suc, ◌↔◌, List, [], ◌∷◌, ◌++◌, ◌==◌, refl}
use Rattle.std.proofs.Common.{sym, ◌∙◌, arith, eqb-true, eq-eqb}
use Rattle.std.proofs.Math.Path.{ap}
use Rattle.std.proofs.Math.Option.{Option, some}
use mathlib.Core.List.{append-nil, append_assoc}
use Rattle.std.proofs.Math.Seq.{append_snoc}
use Rattle.laws.specs.Each.{Each}
use Rattle.laws.specs.Tests.{true_or_false}
use Rattle.forms.specs.Text.{tab, newline, split_from, split, fields, but_last, lines, occurs}
use Rattle.forms.specs.TextLaws.{lines_end}
use Rattle.forms.specs.Forms.{one, lettered}
use Rattle.forms.specs.Spelling.{Without, ended, Lines, behind, line_of}
use Rattle.forms.specs.Words.{never}

module _ (sep : ℕ) where
  -- the pieces of bytes, and how they are split behind a piece already read
  record Pieces (bs : List ℕ) : Type 0 where
    pub first : List ℕ
    pub others : List (List ℕ)
    pub are : (piece : List ℕ) → split_from sep piece bs ≡ (piece ++ first) ∷ others
    pub text : bs ≡ first ++ behind sep others
    pub clean : Each (Without sep) (first ∷ others)

  pieces : (bs : List ℕ) → Pieces bs
  unfolding split_from behind occurs
  pieces [] = record { first = []; others = []; are = λ piece. rw (append-nil piece); text = refl; clean = (refl, tt) }
  pieces (b ∷ bs) =
      let p = pieces bs in
      true_or_false (b == sep)
      (λ t. record {
        first = [];
        others = p.first ∷ p.others;
        are = λ piece. rw (t, p.are [], append-nil piece);
        text = cc (eqb-true b sep t, p.text);
        clean = (refl, p.clean);
      })
      (λ f. record {
        first = b ∷ p.first;
        others = p.others;
        are = λ piece. rw f (p.are (piece ++ b ∷ []) ∙ rw append_snoc);
        text = cc p.text;
        clean = (rw f p.clean.0, p.clean.1);
      })

  split_past : (piece p rest : List ℕ) → Without sep p → split_from sep piece (p ++ rest) ≡ split_from sep (piece ++ p) rest
  unfolding split_from occurs
  split_past piece [] rest h = rw (append-nil piece)
  split_past piece (b ∷ p) rest h =
      true_or_false (b == sep)
      (λ t. let m : suc (occurs sep p) ≡ 0 = rw t at h in absurd (omega arith))
      (λ f. rw f (split_past (piece ++ b ∷ []) p rest (rw f at h) ∙ rw append_snoc))

  split_next : (p rest : List ℕ) → Without sep p → split sep (p ++ sep ∷ rest) ≡ p ∷ split sep rest
  unfolding split_from
  split_next p rest h = split_past [] p (sep ∷ rest) h ∙ rw (eq-eqb sep sep refl)

  split_joined : (p : List ℕ) (ps : List (List ℕ)) → Each (Without sep) (p ∷ ps) → split sep (p ++ behind sep ps) ≡ p ∷ ps
  unfolding behind split_from
  split_joined p [] h = split_past [] p [] h.0
  split_joined p (q ∷ ps) h = split_next p (q ++ behind sep ps) h.0 ∙ ap (λ (l : List (List ℕ)). p ∷ l) (split_joined q ps h.1)

-- a line that was read is a letter with fields behind it, and is read by them
module _ {B : Type 0} (read : ℕ → List (List ℕ) → Option B) where
  pub lettered_said : (P : List ℕ → Type 0) (line : List ℕ) {x : B} → lettered read (fields line) ≡ some x → ((b : ℕ) (fs : List (List ℕ)) → read b fs ≡ some x → P (line_of b fs)) → P line
  lettered_said P line {x} e so = let p = pieces tab line in rw p.text (letter p.first p.others (rw (p.are []) at e))
    where
      letter : (f : List ℕ) (fs : List (List ℕ)) → one (λ b. read b fs) f ≡ some x → P (f ++ behind tab fs)
      letter [] fs e = never e
      letter (b ∷ []) fs e = so b fs e
      letter (b ∷ (c ∷ f)) fs e = never e

  pub lettered_read : (b : ℕ) (fs : List (List ℕ)) → Without tab (b ∷ []) → Each (Without tab) fs → lettered read (fields (line_of b fs)) ≡ read b fs
  lettered_read b fs h hs = rw (split_joined tab (b ∷ []) fs (h, hs))

-- the lines of a sheet
ended_last : (p : List ℕ) (ps : List (List ℕ)) → Each (Without newline) (p ∷ ps) → Lines (p ++ behind newline ps) (but_last (p ∷ ps))
unfolding behind ended but_last
ended_last p [] h = (p, append-nil p, h.0, tt)
ended_last p (q ∷ ps) h =
    let r = ended_last q ps h.1 in
    (r.0, rw r.1 (sym (append_assoc p (newline ∷ ended (but_last (q ∷ ps))) r.0)), r.2, (h.0, r.3))

ended_read : (ls : List (List ℕ)) (rest : List ℕ) → Without newline rest → Each (Without newline) ls → lines (ended ls ++ rest) ≡ ls
unfolding ended but_last
ended_read [] rest h hs = lines_end rest h
ended_read (l ∷ ls) rest h hs =
    let more = ended ls ++ rest in
    let next : but_last (l ∷ split newline more) ≡ l ∷ lines more = rw ((pieces newline more).are []) in
    rw (append_assoc l (newline ∷ ended ls) rest, split_next newline l more hs.0) (next ∙ ap (λ (r : List (List ℕ)). l ∷ r) (ended_read ls rest h hs.1))

pub lines_said : (bytes : List ℕ) (ls : List (List ℕ)) → (lines bytes ≡ ls) ↔ Lines bytes ls
lines_said bytes ls = (
  λ e. (let p = pieces newline bytes in
      rw (← e, p.are []) (rw (← p.text) at (ended_last p.first p.others p.clean))),
  λ h. rw h.1 (ended_read ls h.0 h.2 h.3),
)
