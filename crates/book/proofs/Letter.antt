-- The book by the letter of document 01, proved by adding an entry at the end of the book that has the oldest first; of the switches line by line.
use Prim.Native.Nat.{ℕ, zero, suc, ◌+◌, ◌≤◌, ◌<◌}
use mathlib.Core.Path.{◌≡◌, refl, sym, ap, ◌∙◌}
use mathlib.Core.Logic.{◌↔◌, ◌≢◌, inl, inr}
use mathlib.Core.Bool.{Bool, true, false}
use mathlib.Core.List.Memᴰ
use mathlib.Core.List.{List, [], ◌∷◌, ◌++◌, reverse, reverse-cons, map-append, append-nil, Memᴰ}
use native.Mathlib.Omega.{arith}
use native.Mathlib.Nat.{add-zero}
use native.Mathlib.Decide.{dec_lt}
use lib.ListN.{length, length-reverse}
use lib.Dec.{eqb}
use borrow.Author.Tests.{eqb-true, eqb-false}
use Rattle.laws.specs.Tests.{true_or_false}
use Rattle.book.specs.Calls.{Call, bump, decay, set_decay, insert, switch_off, decide, enqueue, learn_unit, go_back, bump_reason, group, Line, accepted}
use Rattle.book.specs.Book.{Entry, entry, Book, present_level, back, codes, openings, switched, on}
use Rattle.book.specs.Letter.{keep, places, code, BackByTheLetter, CodesByTheLetter, OpeningsByTheLetter, OnByTheLetter}
use Rattle.book.proofs.Books.{back_same, back_over}

opens : Entry → ℕ
opens (entry c r true) = 1
opens (entry c r false) = 0

level_cons : (e : Entry) (es : List Entry) → present_level (e ∷ es) ≡ present_level es + opens e
unfolding present_level opens
level_cons (entry c r true) es = refl
level_cons (entry c r false) es = omega arith

level_snoc : (es : List Entry) (e : Entry) → present_level (es ++ (e ∷ [])) ≡ present_level es + opens e
level_snoc [] e = level_cons e []
level_snoc (d ∷ es) e = omega (arith, level_cons d (es ++ (e ∷ [])), level_snoc es e, level_cons d es)

-- the level is the number of opening entries, whichever way they stand
level_oldest : (b : Book) → present_level (reverse b) ≡ present_level b
level_oldest [] = refl
level_oldest (e ∷ b) = rw (reverse-cons) (omega (arith, level_snoc (reverse b) e, level_cons e b, level_oldest b))

keep_all : (l : ℕ) (es : List Entry) → present_level es ≤ l → keep l es ≡ es
unfolding keep present_level
keep_all l [] h = refl
keep_all zero (entry c r true ∷ es) h = absurd (omega arith)
keep_all (suc l) (entry c r true ∷ es) h = ap {B = List Entry} (λ x. entry c r true ∷ x) (keep_all l es (omega arith))
keep_all l (entry c r false ∷ es) h = ap {B = List Entry} (λ x. entry c r false ∷ x) (keep_all l es h)

keep_over : (l : ℕ) (es : List Entry) (e : Entry) → l < present_level (es ++ (e ∷ [])) → keep l (es ++ (e ∷ [])) ≡ keep l es
unfolding keep present_level
keep_over zero [] (entry c r true) h = refl
keep_over (suc l) [] (entry c r true) h = absurd (omega arith)
keep_over l [] (entry c r false) h = absurd (omega arith)
keep_over zero (entry c r true ∷ es) e h = refl
keep_over (suc l) (entry c r true ∷ es) e h = ap {B = List Entry} (λ x. entry c r true ∷ x) (keep_over l es e (omega arith))
keep_over l (entry c r false ∷ es) e h = ap {B = List Entry} (λ x. entry c r false ∷ x) (keep_over l es e h)

pub back_by_the_letter : BackByTheLetter
back_by_the_letter l [] = unfold keep back in refl
back_by_the_letter l (e ∷ b) = go (dec_lt l (present_level (e ∷ b))) (back_by_the_letter l b)
  where
    go : Dec (l < present_level (e ∷ b)) → reverse (back l b) ≡ keep l (reverse b) → reverse (back l (e ∷ b)) ≡ keep l (reverse (e ∷ b))
    go (yes h) ih =
        let hl : l < present_level (reverse b ++ (e ∷ [])) = omega (arith, level_snoc (reverse b) e, level_cons e b, level_oldest b) in
        rw (back_over l e b h, ih, reverse-cons) (sym (keep_over l (reverse b) e hl))
    go (no h) ih = rw (back_same l (e ∷ b) (omega arith)) (sym (keep_all l (reverse (e ∷ b)) (omega (arith, level_oldest (e ∷ b)))))

pub codes_by_the_letter : CodesByTheLetter
unfolding codes
codes_by_the_letter [] = refl
codes_by_the_letter (entry c r o ∷ b) = rw (reverse-cons, map-append code, codes_by_the_letter b)

places_snoc : (i k : ℕ) (es : List Entry) (e : Entry) → i + length es ≡ k → places i (es ++ (e ∷ [])) ≡ places i es ++ places k (e ∷ [])
unfolding places
places_snoc i k [] e q = ap (λ (x : ℕ). places x (e ∷ [])) (sym (add-zero i) ∙ q)
places_snoc i k (entry c r true ∷ es) e q = ap {B = List ℕ} (λ x. i ∷ x) (places_snoc (i + 1) k es e (omega arith))
places_snoc i k (entry c r false ∷ es) e q = places_snoc (i + 1) k es e (omega arith)

pub openings_by_the_letter : OpeningsByTheLetter
unfolding openings places
openings_by_the_letter [] = refl
openings_by_the_letter (entry c r o ∷ b) =
    rw (reverse-cons, places_snoc 0 (length b) (reverse b) (entry c r o) (omega (arith, length-reverse b)), ← openings_by_the_letter b) (go o)
  where
    go : (o : Bool) → openings (entry c r o ∷ b) ≡ openings b ++ places (length b) (entry c r o ∷ [])
    go true = refl
    go false = sym (append-nil (openings b))

kept : (x : Bool) {c : Call} {v : ℕ} → (c ≡ switch_off v → ◌≡◌ {A = ℕ} 0 1) → (x ≡ true) ↔ ((x ≡ true) × (c ≢ switch_off v))
kept x other = (λ e. (e, λ q. let z = other q in omega arith), λ p. p.0)

-- after a call v is on exactly where it was before and the call is not its switch off
switched_on : (c : Call) (s : ℕ → Bool) (v : ℕ) → (switched c s v ≡ true) ↔ ((s v ≡ true) × (c ≢ switch_off v))
unfolding switched
switched_on (switch_off w) s v =
    true_or_false (eqb v w)
    (λ e. rw e (λ f. absurd (let z : ◌≡◌ {A = ℕ} 0 1 = cc in omega arith), λ p. absurd (p.1 (ap switch_off (sym (eqb-true v w e))))))
    (λ e. rw e (kept (s v) (λ q. absurd (eqb-false v w e (cc)))))
switched_on (bump w) s v = kept (s v) (λ q. cc)
switched_on decay s v = kept (s v) (λ q. cc)
switched_on (set_decay d) s v = kept (s v) (λ q. cc)
switched_on (insert w) s v = kept (s v) (λ q. cc)
switched_on (decide p) s v = kept (s v) (λ q. cc)
switched_on (enqueue c r) s v = kept (s v) (λ q. cc)
switched_on (learn_unit c) s v = kept (s v) (λ q. cc)
switched_on (go_back l) s v = kept (s v) (λ q. cc)
switched_on (bump_reason w) s v = kept (s v) (λ q. cc)
switched_on (group vs) s v = kept (s v) (λ q. cc)

-- the accepted lines of ls do not switch v off
abbrev NeverOff : List Line → ℕ → Type 0
NeverOff ls v = (l : Line) → Memᴰ l ls → accepted l ≡ true → l.call ≢ switch_off v

never_cons : {k : Line} {ls : List Line} {v : ℕ} → (accepted k ≡ true → k.call ≢ switch_off v) → NeverOff ls v → NeverOff (k ∷ ls) v
never_cons f g l i a = elim (Memᴰ.cases_cons i) [ inl e ↦ rw e (f (rw e at a)) | inr j ↦ g l j a ]

pub on_by_the_letter : OnByTheLetter
unfolding on
on_by_the_letter [] v = (λ e l i. absurd (Memᴰ.not-nil i), λ f. refl)
on_by_the_letter (k ∷ ls) v =
    let older = on_by_the_letter ls v in
    let here = switched_on k.call (on ls) v in
    true_or_false (accepted k)
    (λ a. rw a (λ e. never_cons (λ b. (here.0 e).1) (older.0 (here.0 e).0), λ f. here.1 (older.1 (λ l i. f l (Memᴰ.tail i)), f k (Memᴰ.head refl) a)))
    (λ a. rw a (λ e. never_cons (λ b. absurd (let z : ◌≡◌ {A = ℕ} 0 1 = cc in omega arith)) (older.0 e), λ f. older.1 (λ l i. f l (Memᴰ.tail i))))
