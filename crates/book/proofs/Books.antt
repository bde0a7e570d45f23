-- Facts of books alone: what going back drops, what a good book rules out, and where a level was raised. By induction on the entries.
use Prim.Native.Nat.{ℕ, zero, suc, ◌+◌, ◌-◌, ◌≤◌, ◌<◌}
use mathlib.Core.Path.{◌≡◌, refl, sym, ap, ◌∙◌}
use mathlib.Core.Bool.{Bool, true, false, cond}
use mathlib.Core.Option.{Option, none, some}
use mathlib.Core.List.{List, [], ◌∷◌}
use native.Mathlib.Omega.{arith}
use native.Mathlib.Nat.{sub_self}
use native.Mathlib.Decide.{dec_lt, dec_le, ℕ_discrete}
use lib.ListN.{length, get_or, set, replicate, take, drop, length-append, length-set, length-replicate, get_or-replicate, get_or-append}
use lib.Seq.{take-append-le, take_at, get_or_at, get_or-set_same, get_or-set_other}
use lib.Dec.{eqb}
use borrow.Author.Tests.{le-leb, lt-leb, eq-eqb, ne_eqb, ltb-false}
use Rattle.laws.specs.Tests.{cond_elim}
use Rattle.lit.specs.Numbers.{NONE, unassigned}
use Rattle.lit.specs.Lits.{index, polarity, new, is_assigned}
use Rattle.book.specs.Calls.{Call, bump, decay, set_decay, insert, switch_off, decide, enqueue, learn_unit, go_back, bump_reason, group, Line, accepted}
use Rattle.book.specs.Book.{Entry, entry, Book, present_level, back, written, book, codes, openings, values_of, reasons_of, levels_of}
use Rattle.book.specs.Chooser.{good_reason}

pub level_le : (b : Book) → present_level b ≤ length b
unfolding present_level
level_le [] = omega arith
level_le (entry c r true ∷ b) = omega (arith, level_le b)
level_le (entry c r false ∷ b) = omega (arith, level_le b)

pub length_openings : (b : Book) → length (openings b) ≡ present_level b
unfolding present_level openings
length_openings [] = refl
length_openings (entry c r true ∷ b) = simp length-append (omega (arith, length_openings b))
length_openings (entry c r false ∷ b) = length_openings b

pub length_codes : (b : Book) → length (codes b) ≡ length b
unfolding codes
length_codes [] = refl
length_codes (entry c r o ∷ b) = simp length-append (omega (arith, length_codes b))

pub back_same : (l : ℕ) (b : Book) → present_level b ≤ l → back l b ≡ b
unfolding back
back_same l [] h = refl
back_same l (e ∷ b) h = rw (le-leb (present_level (e ∷ b)) l h)

pub back_over : (l : ℕ) (e : Entry) (b : Book) → l < present_level (e ∷ b) → back l (e ∷ b) ≡ back l b
unfolding back
back_over l e b h = rw (lt-leb (present_level (e ∷ b)) l h)

-- k is what going back to the level l, below the present one, leaves of b
pub record Back (l : ℕ) (b k : Book) : Type 0 where
  pub len : length k ≤ length b
  pub place : get_or (openings b) l 0 ≡ length k
  pub rest : drop (length b - length k) b ≡ k
  pub lev : present_level k ≡ l
  pub opens : openings k ≡ take l (openings b)

drop_more : (e : Entry) (b : Book) (k : ℕ) → k ≤ length b → drop (length (e ∷ b) - k) (e ∷ b) ≡ drop (length b - k) b
drop_more e b k h =
    let q : suc (length b) - k ≡ suc (length b - k) = omega arith in
    ap (λ (x : ℕ). drop x (e ∷ b)) q

-- of b with one more entry it leaves the same
back_more : (l c r : ℕ) (o : Bool) (b k : Book) → l < present_level b → Back l b k → Back l (entry c r o ∷ b) k
unfolding openings
back_more l c r false b k h f =
    record { len = omega arith; place = f.place; rest = drop_more (entry c r false) b (length k) f.len ∙ f.rest; lev = f.lev; opens = f.opens }
back_more l c r true b k h f =
    let q : l < length (openings b) = rw (length_openings b) h in
    record {
      len = omega arith;
      place = get_or-append (openings b) _ 0 l q ∙ f.place;
      rest = drop_more (entry c r true) b (length k) f.len ∙ f.rest;
      lev = f.lev;
      opens = f.opens ∙ sym (take-append-le l (openings b) _ (omega arith));
    }

-- where the newest entry is the one that raised the level from l, only it goes
back_one : (l c r : ℕ) (o : Bool) (b : Book) → present_level b ≤ l → l < present_level (entry c r o ∷ b) → Back l (entry c r o ∷ b) b
unfolding present_level openings
back_one l c r false b h q = absurd (omega arith)
back_one l c r true b h q =
    let e : length (openings b) ≡ l = omega (arith, length_openings b) in
    record {
      len = omega arith;
      place = get_or_at (openings b) (length b) [] 0 l e;
      rest = drop_more (entry c r true) b (length b) (omega arith) ∙ ap (λ (x : ℕ). drop x b) (sub_self (length b));
      lev = omega arith;
      opens = sym (take_at (openings b) (length b ∷ []) l e);
    }

pub back_facts : (l : ℕ) (b : Book) → l < present_level b → Back l b (back l b)
back_facts l [] h = absurd (unfold present_level in (omega arith))
back_facts l (entry c r o ∷ b) h = rw (back_over l (entry c r o) b h) (go (dec_lt l (present_level b)) (back_facts l b))
  where
    go : Dec (l < present_level b) → (l < present_level b → Back l b (back l b)) → Back l (entry c r o ∷ b) (back l b)
    go (yes q) f = back_more l c r o b (back l b) q (f q)
    go (no q) f =
        let z : present_level b ≤ l = omega arith in
        rw (back_same l b z) (back_one l c r o b z h)

-- ---- good books: each entry's variable is below n and was unassigned, its reason is NONE or a clause number

pub data Fine (n m : ℕ) : Book → Type 0 where
  fine_nil : Fine n m []
  fine_add : {c r : ℕ} {o : Bool} {b : Book} → index c < n → good_reason m r ≡ true → get_or (values_of n b) (index c) 0 ≡ unassigned → Fine n m b
      → Fine n m (entry c r o ∷ b)

pub fine_drop : {n m : ℕ} (k : ℕ) {b : Book} → Fine n m b → Fine n m (drop k b)
fine_drop zero f = f
fine_drop (suc k) fine_nil = fine_nil
fine_drop (suc k) (fine_add h g e f) = fine_drop k f

pub length_values : (n : ℕ) (b : Book) → length (values_of n b) ≡ n
unfolding values_of
length_values n [] = length-replicate n unassigned
length_values n (entry c r o ∷ b) = simp length-set (length_values n b)

pub length_reasons : (n : ℕ) (b : Book) → length (reasons_of n b) ≡ n
unfolding reasons_of
length_reasons n [] = length-replicate n NONE
length_reasons n (entry c r o ∷ b) = simp length-set (length_reasons n b)

-- what a good book says of one variable
pub record Says (m value reason level : ℕ) : Type 0 where
  pub value_le : value ≤ unassigned
  pub reason_good : good_reason m reason ≡ true
  pub no_reason : value ≡ unassigned → reason ≡ NONE
  pub no_level : value ≡ unassigned → level ≡ NONE

pub says : {n m : ℕ} {b : Book} → Fine n m b → (v : ℕ) → v < n → Says m (get_or (values_of n b) v 0) (get_or (reasons_of n b) v 0) (get_or (levels_of n b) v 0)
unfolding values_of reasons_of levels_of
says {n} fine_nil v h =
    rw (get_or-replicate n v unassigned 0 h, get_or-replicate n v NONE 0 h)
    (record { value_le = omega arith; reason_good = refl; no_reason = λ e. refl; no_level = λ e. refl })
says {n} {m} (fine_add {c = c} {r = r} {o = o} {b = b} hc g e f) v h = go _ (ℕ_discrete v (index c)) (says f v h)
  where
    go : (l : ℕ) → Dec (v ≡ index c) → Says m (get_or (values_of n b) v 0) (get_or (reasons_of n b) v 0) (get_or (levels_of n b) v 0)
        → Says m (get_or (set (values_of n b) (index c) (polarity c)) v 0) (get_or (set (reasons_of n b) (index c) r) v 0) (get_or (set (levels_of n b) (index c) l) v 0)
    go l (yes z) ih =
        let hv : index c < length (values_of n b) = rw (length_values n b) hc in
        let hr : index c < length (reasons_of n b) = rw (length_reasons n b) hc in
        rw (z, get_or-set_same (values_of n b) (index c) (polarity c) 0 hv, get_or-set_same (reasons_of n b) (index c) r 0 hr)
        (record { value_le = omega arith; reason_good = g; no_reason = λ q. absurd (omega arith); no_level = λ q. absurd (omega arith) })
    go l (no z) ih =
        rw (get_or-set_other (values_of n b) (index c) v (polarity c) 0 z, get_or-set_other (reasons_of n b) (index c) v r 0 z) (
        rw (get_or-set_other (levels_of n b) (index c) v l 0 z) ih)

pub is_unassigned : {n m : ℕ} {b : Book} → Fine n m b → (v : ℕ) → v < n → is_assigned (values_of n b) v ≡ false → get_or (values_of n b) v 0 ≡ unassigned
is_unassigned {n} {b = b} f v h e = omega (arith, (says f v h).value_le, ltb-false (get_or (values_of n b) v 0) unassigned e)

-- the number of unassigned variables
left : List ℕ → ℕ
left [] = 0
left (x ∷ xs) = cond (eqb x unassigned) (left xs + 1) (left xs)

left_set : (l : List ℕ) (v p : ℕ) → get_or l v 0 ≡ unassigned → p < unassigned → left (set l v p) + 1 ≡ left l
unfolding left
left_set [] v p e q = absurd (omega arith)
left_set (x ∷ xs) zero p e q = rw (eq-eqb x unassigned e, ne_eqb p unassigned (λ z. omega arith))
left_set (x ∷ xs) (suc v) p e q = go (eqb x unassigned) (left_set xs v p e q)
  where
    go : (t : Bool) → left (set xs v p) + 1 ≡ left xs → cond t (left (set xs v p) + 1) (left (set xs v p)) + 1 ≡ cond t (left xs + 1) (left xs)
    go true ih = omega arith
    go false ih = ih

left_replicate : (n : ℕ) → left (replicate n unassigned) ≡ n
unfolding left
left_replicate zero = refl
left_replicate (suc n) = omega (arith, left_replicate n)

left_fine : {n m : ℕ} {b : Book} → Fine n m b → left (values_of n b) + length b ≡ n
unfolding values_of
left_fine {n} fine_nil = omega (arith, left_replicate n)
left_fine {n} (fine_add {c = c} {b = b} h g e f) = omega (arith, left_fine f, left_set (values_of n b) (index c) (polarity c) e (omega arith))

-- an unassigned variable leaves room for one more entry
pub room : {n m : ℕ} {b : Book} → Fine n m b → (v : ℕ) → get_or (values_of n b) v 0 ≡ unassigned → length b < n
room {n} {b = b} f v e = omega (arith, left_fine f, left_set (values_of n b) v 0 e (omega arith))

-- ---- the book before and after a line, seen from a level below the present one

back_back : (l k : ℕ) (b : Book) → l ≤ k → back l (back k b) ≡ back l b
back_back l k [] h = unfold back in refl
back_back l k (e ∷ b) h = go (dec_le (present_level (e ∷ b)) k) (back_back l k b h)
  where
    go : Dec (present_level (e ∷ b) ≤ k) → back l (back k b) ≡ back l b → back l (back k (e ∷ b)) ≡ back l (e ∷ b)
    go (yes q) ih = ap (back l) (back_same k (e ∷ b) q)
    go (no q) ih = ap (back l) (back_over k e b (omega arith)) ∙ ih ∙ sym (back_over l e b (omega arith))

level_back : (l : ℕ) (b : Book) → (present_level (back l b) ≤ l) × (present_level (back l b) ≤ present_level b)
level_back l b = go (dec_lt l (present_level b))
  where
    go : Dec (l < present_level b) → (present_level (back l b) ≤ l) × (present_level (back l b) ≤ present_level b)
    go (yes q) = omega (arith, (back_facts l b q).lev)
    go (no q) =
        let h : present_level b ≤ l = omega arith in
        rw (back_same l b h) (omega arith)

-- either the line is a decision that raised the level from l, or the level was above l before it
pub data Seen (l : ℕ) (c : Call) (b b' : Book) : Type 0 where
  raised : (p : ℕ) → c ≡ decide p → present_level b ≡ l → present_level b' ≡ l + 1 → back l b' ≡ b → Seen l c b b'
  over : l < present_level b → back l b' ≡ back l b → Seen l c b b'

seen_written : (l : ℕ) (c : Call) (r : Option ℕ) (b : Book) → l < present_level (written c r b) → Seen l c b (written c r b)
unfolding written present_level
seen_written l (bump v) r b h = over h refl
seen_written l decay r b h = over h refl
seen_written l (set_decay d) r b h = over h refl
seen_written l (insert v) r b h = over h refl
seen_written l (switch_off v) r b h = over h refl
seen_written l (decide p) none b h = over h refl
seen_written l (decide p) (some v) b h = go (dec_lt l (present_level b))
  where
    go : Dec (l < present_level b) → Seen l (decide p) b (entry (new v p) NONE true ∷ b)
    go (yes q) = over q (back_over l (entry (new v p) NONE true) b h)
    go (no q) = raised p refl (omega arith) (omega arith) (back_over l (entry (new v p) NONE true) b h ∙ back_same l b (omega arith))
seen_written l (enqueue c s) r b h = over h (back_over l (entry c s false) b h)
seen_written l (learn_unit c) r b h = absurd (omega (arith, level_back 0 b))
seen_written l (go_back k) r b h = over (omega (arith, level_back k b)) (back_back l k b (omega (arith, level_back k b)))
seen_written l (bump_reason v) r b h = over h refl
seen_written l (group vs) r b h = over h refl

pub seen : (l : ℕ) (x : Line) (ls : List Line) → l < present_level (book (x ∷ ls)) → Seen l x.call (book ls) (book (x ∷ ls))
unfolding book
seen l x ls =
    cond_elim (λ b. l < present_level b → Seen l x.call (book ls) b) (accepted x)
    (λ a. seen_written l x.call x.reply (book ls)) (λ a h. over h refl)
