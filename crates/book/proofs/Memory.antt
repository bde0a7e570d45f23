-- Each step of the trail's memory does what the book says: equations on whole lists, each by one law of `set`.
use Prim.Native.Nat.{ℕ, zero, suc, ◌+◌, ◌-◌, ◌/◌, ◌%◌, ◌≤◌, ◌<◌}
use mathlib.Core.Path.{◌≡◌, refl, sym, ap, ◌∙◌}
use mathlib.Core.Bool.{Bool, true, false, cond}
use mathlib.Core.List.{List, [], ◌∷◌, ◌++◌}
use native.Mathlib.Omega.{arith}
use native.Mathlib.Numerals.{add-one}
use lib.ListN.{length, get_or, set, replicate, take, drop, length-append, length-take, length-set, length-replicate}
use lib.Seq.{take_at, take-suc, take-take, take-set-le, take-suc-set, get_or_at, get_or-take, set-get_or, set-set}
use lib.Dec.{ltb}
use borrow.Author.Tests.{lt-ltb}
use Rattle.lit.specs.Numbers.{NONE, unassigned}
use Rattle.lit.specs.Lits.{index, polarity, new}
use Rattle.trail.specs.Trail.{Trail, fresh_trail, enq_assignment, enq_decision, last, backstep, backsteps, close_levels, rewind}
use Rattle.book.specs.Book.{entry, Book, present_level, codes, openings, values_of, reasons_of, levels_of}
use Rattle.book.specs.Claim.{assigned_levels, records_of, records_in}
use Rattle.book.proofs.Books.{level_le, length_openings, length_codes, Fine, fine_nil, fine_add, says, room}

-- ---- of the list l of length n the first k places are in use, and hold xs

pub record Stack (n : ℕ) (xs l : List ℕ) (k : ℕ) : Type 0 where
  pub long : length l ≡ n
  pub count : k ≡ length xs
  pub in_use : take k l ≡ xs

push : {n : ℕ} {xs l : List ℕ} {k : ℕ} (x : ℕ) → k < n → Stack n xs l k → Stack n (xs ++ (x ∷ [])) (set l k x) (k + 1)
push {n} {xs} {l} {k} x h s = record {
  long = simp length-set s.long;
  count = omega (arith, s.count, length-append xs (x ∷ []));
  in_use = rw (add-one k, take-suc-set l k x (omega (arith, s.long)), s.in_use);
}

-- the last one goes, and its place holds NONE
pop : {n : ℕ} {xs l : List ℕ} {k : ℕ} (x : ℕ) → Stack n (xs ++ (x ∷ [])) l k → Stack n xs (set l (k - 1) NONE) (k - 1)
pop {n} {xs} {l} {k} x s =
    let q : k ≡ suc (length xs) = omega (arith, s.count, length-append xs (x ∷ [])) in
    let q1 : k - 1 ≡ length xs = omega arith in
    record {
      long = simp length-set s.long;
      count = q1;
      in_use = rw (take-set-le (k - 1) l (k - 1) NONE (omega arith), ← take-take (k - 1) k l (omega arith), s.in_use) (take_at xs (x ∷ []) (k - 1) (sym q1));
    }

-- one of them; and they are places of the list
pub at : {n : ℕ} {xs l : List ℕ} {k : ℕ} (i : ℕ) → i < k → Stack n xs l k → get_or l i 0 ≡ get_or xs i 0
at {n} {xs} {l} {k} i h s = sym (get_or-take k l i 0 h) ∙ ap (λ (x : List ℕ). get_or x i 0) s.in_use

pub in_range : {n : ℕ} {xs l : List ℕ} {k : ℕ} → Stack n xs l k → k ≤ length l
in_range {l = l} {k = k} s = omega (arith, s.count, ap length s.in_use, length-take k l)

-- ---- levels of assigned variables: a value and a level are stored together

pub levels_set : (vs ls : List ℕ) (v p l : ℕ) → assigned_levels (set vs v p) (set ls v l) ≡ set (assigned_levels vs ls) v (cond (ltb p unassigned) l NONE)
unfolding assigned_levels
levels_set [] ls v p l = refl
levels_set (x ∷ xs) [] zero p l = refl
levels_set (x ∷ xs) [] (suc v) p l = refl
levels_set (x ∷ xs) (y ∷ ys) zero p l = refl
levels_set (x ∷ xs) (y ∷ ys) (suc v) p l = ap {B = List ℕ} (λ zs. cond (ltb x unassigned) y NONE ∷ zs) (levels_set xs ys v p l)

pub levels_unset : (vs ls : List ℕ) (v : ℕ) → assigned_levels (set vs v unassigned) ls ≡ set (assigned_levels vs ls) v NONE
levels_unset vs ls v =
    ap (λ (x : List ℕ). assigned_levels (set vs v unassigned) x) (sym (set-get_or ls v 0)) ∙ levels_set vs ls v unassigned (get_or ls v 0)

levels_fresh : (n : ℕ) → assigned_levels (replicate n unassigned) (replicate n NONE) ≡ replicate n NONE
unfolding assigned_levels
levels_fresh zero = refl
levels_fresh (suc n) = ap {B = List ℕ} (λ zs. NONE ∷ zs) (levels_fresh n)

-- ---- the memory t holds the book b, and as opened levels the list ops: while a going back is under way these are an older book's

pub record Held (n : ℕ) (b : Book) (ops : List ℕ) (t : Trail) : Type 0 where
  pub values : t.values ≡ values_of n b
  pub reasons : t.reasons ≡ reasons_of n b
  pub levels : assigned_levels t.values t.levels ≡ levels_of n b
  pub trail : Stack n (codes b) t.trail t.len
  pub opened : Stack n ops t.opened t.level

abbrev pub Holds : ℕ → Book → Trail → Type 0
Holds n b t = Held n b (openings b) t

pub fresh_holds : (n : ℕ) → Holds n [] (fresh_trail n)
unfolding fresh_trail values_of reasons_of levels_of codes openings
fresh_holds n =
    let empty : Stack n [] (replicate n NONE) 0 = record { long = length-replicate n NONE; count = refl; in_use = refl } in
    record { values = refl; reasons = refl; levels = levels_fresh n; trail = empty; opened = empty }

pub enq_holds : {n m : ℕ} {b : Book} {t : Trail} (code reason : ℕ) → Fine n m b → get_or (values_of n b) (index code) 0 ≡ unassigned
    → Holds n b t → Holds n (entry code reason false ∷ b) (enq_assignment code reason t)
unfolding enq_assignment values_of reasons_of levels_of codes openings present_level
enq_holds {b = b} {t = t} code reason f e g =
    let lv : t.level ≡ present_level b = g.opened.count ∙ length_openings b in
    let small : ltb (polarity code) unassigned ≡ true = lt-ltb (polarity code) unassigned (omega arith) in
    record {
      values = rw g.values;
      reasons = rw g.reasons;
      levels = rw (levels_set t.values t.levels (index code) (polarity code) t.level, small, g.levels, lv);
      trail = push code (omega (arith, g.trail.count, length_codes b, room f (index code) e)) g.trail;
      opened = g.opened;
    }

-- storing what stands there
pub set_same : (l : List ℕ) (i x : ℕ) → get_or l i 0 ≡ x → set l i x ≡ l
set_same l i x e = ap (λ (y : ℕ). set l i y) (sym e) ∙ set-get_or l i 0

pub dec_holds : {n m : ℕ} {b : Book} {t : Trail} (v p : ℕ) → Fine n m b → v < n → p < 2 → get_or (values_of n b) v 0 ≡ unassigned
    → Holds n b t → Holds n (entry (new v p) NONE true ∷ b) (enq_decision v p t)
unfolding enq_decision values_of reasons_of levels_of codes openings present_level
dec_holds {n} {b = b} {t = t} v p f h hp e g =
    let q1 : new v p / 2 ≡ v = omega arith in
    let q2 : new v p % 2 ≡ p = omega arith in
    let lv : t.level ≡ present_level b = g.opened.count ∙ length_openings b in
    let ln : t.len ≡ length b = g.trail.count ∙ length_codes b in
    let r : length b < n = room f v e in
    record {
      values = rw (q1, q2, g.values);
      reasons = rw (q1, set_same (reasons_of n b) v NONE ((says f v h).no_reason e)) g.reasons;
      levels = rw (q1, levels_set t.values t.levels v p (t.level + 1), lt-ltb p unassigned hp, g.levels, lv);
      trail = push (new v p) (omega arith) g.trail;
      opened = rw ln (push (length b) (omega (arith, level_le b)) g.opened);
    }

-- ---- going back

pub last_is : {n c r : ℕ} {o : Bool} {b : Book} {ops : List ℕ} (t : Trail) → Held n (entry c r o ∷ b) ops t → last t ≡ index c
unfolding codes
last_is {c = c} {b = b} t g =
    let q : t.len ≡ suc (length (codes b)) = omega (arith, g.trail.count, length-append (codes b) (c ∷ [])) in
    rw (at (t.len - 1) (omega arith) g.trail, get_or_at (codes b) c [] 0 (t.len - 1) (omega arith))

pub backstep_held : {n m c r : ℕ} {o : Bool} {b : Book} {ops : List ℕ} (t : Trail) → Fine n m (entry c r o ∷ b) → Held n (entry c r o ∷ b) ops t
    → Held n b ops (backstep t)
unfolding backstep values_of reasons_of levels_of codes
backstep_held {n} {c = c} {b = b} t (fine_add h _ e f) g =
    let v = last_is t g in
    let of_c = says f (index c) h in
    record {
      values = rw (v, g.values, set-set) (set_same (values_of n b) (index c) unassigned e);
      reasons = rw (v, g.reasons, set-set) (set_same (reasons_of n b) (index c) NONE (of_c.no_reason e));
      levels = rw (v, levels_unset t.values t.levels (index c), g.levels, set-set) (set_same (levels_of n b) (index c) NONE (of_c.no_level e));
      trail = pop c g.trail;
      opened = g.opened;
    }

pub backsteps_held : {n m : ℕ} (k : ℕ) {b : Book} {ops : List ℕ} (t : Trail) → k ≤ length b → Fine n m b → Held n b ops t
    → Held n (drop k b) ops (backsteps k t)
unfolding backsteps
backsteps_held zero t h f g = g
backsteps_held (suc k) t h fine_nil g = absurd (omega arith)
backsteps_held (suc k) t h (fine_add {r = r} {o = o} hc hr e f) g =
    backsteps_held k (backstep t) (omega arith) f (backstep_held t (fine_add {r = r} {o = o} hc hr e f) g)

pub close_held : (k j : ℕ) {n : ℕ} {b : Book} (ops : List ℕ) (t : Trail) → j + k ≤ length ops → Held n b (take (j + k) ops) t
    → Held n b (take j ops) (close_levels k t)
unfolding close_levels
close_held zero j ops t h g =
    let q : j + 0 ≡ j = omega arith in
    rw q at g
close_held (suc k) j {n} ops t h g =
    let q : j + suc k ≡ suc (j + k) = omega arith in
    let s : Stack n (take (j + k) ops ++ (get_or ops (j + k) 0 ∷ [])) t.opened t.level
    = rw (q, take-suc ops (j + k) 0 (omega arith)) at g.opened in
    close_held k j ops _ (omega arith)
    (record { values = g.values; reasons = g.reasons; levels = g.levels; trail = g.trail; opened = pop (get_or ops (j + k) 0) s })

pub rewind_held : {n : ℕ} {b : Book} {ops : List ℕ} (t : Trail) → Held n b ops t → Held n b ops (rewind t)
unfolding rewind
rewind_held t g = record { values = g.values; reasons = g.reasons; levels = g.levels; trail = g.trail; opened = g.opened }

-- the records of the claim are the book's
pub told : {n : ℕ} {b : Book} {t : Trail} → Holds n b t → records_of t ≡ records_in n b
unfolding records_of records_in
told {b = b} g = cc (g.trail.in_use, g.trail.count, g.opened.in_use, g.opened.count, length_codes b, length_openings b)
