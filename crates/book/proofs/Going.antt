-- Going back does what the book says: the trail by the entries that are dropped, the chooser by their variables, last first.
use Prim.Native.Nat.{ℕ, zero, suc, ◌+◌, ◌-◌, ◌≤◌, ◌<◌}
use mathlib.Core.Path.{◌≡◌, refl, sym, ◌∙◌}
use mathlib.Core.Bool.{Bool, true, false, cond}
use mathlib.Core.List.{List, [], ◌∷◌, map, reverse, reverse-append, map-append}
use native.Mathlib.Omega.{arith}
use lib.ListN.{length, get_or, set, take, drop, length-drop, length-set}
use lib.Seq.{take-length, take-suc, get_or-drop, drop-set-add, take-set-le, set-set}
use lib.Dec.{ltb}
use borrow.Author.Tests.{ltb-true, ltb-false}
use Rattle.lit.specs.Numbers.{NONE, unassigned}
use Rattle.lit.specs.Lits.{index}
use Rattle.trail.specs.Trail.{Trail, last, backstep, backsteps, how_many, backtrack_to, backtrack_safe, undone}
use Rattle.book.specs.Calls.{Line}
use Rattle.book.specs.Book.{Entry, entry, Book, present_level, back, book, openings, values_of, counts}
use Rattle.book.specs.Chooser.{Operations, Chooser}
use Rattle.book.specs.Session.{Session, offer_all, went_back}
use Rattle.book.specs.Interleaved.{interleaved, Apart}
use Rattle.book.proofs.Books.{length_openings, length_codes, back_same, Back, back_facts, Fine, fine_nil, fine_add, fine_drop}
use Rattle.book.proofs.Memory.{at, in_range, Holds, Held, set_same, last_is, backstep_held, backsteps_held, close_held, rewind_held}

-- ---- the variables that k steps of `backstep` take off the trail, last first

unfoldable pub lasts : ℕ → Trail → List ℕ
lasts zero t = []
lasts (suc k) t = last t ∷ lasts k (backstep t)

-- they are the last k of the trail, read backwards
lasts_part : (k p : ℕ) (t : Trail) → p + k ≡ t.len → t.len ≤ length t.trail → lasts k t ≡ reverse (map index (take k (drop p t.trail)))
unfolding lasts backstep
lasts_part zero p t e h = refl
lasts_part (suc k) p t e h =
    let q : t.len - 1 ≡ p + k = omega arith in
    let room : k < length (drop p t.trail) = omega (arith, length-drop p t.trail) in
    let cleared : take k (drop p (set t.trail (p + k) NONE)) ≡ take k (drop p t.trail)
    = rw (drop-set-add p t.trail k NONE) (take-set-le k (drop p t.trail) k NONE (omega arith)) in
    rw (take-suc (drop p t.trail) k 0 room, get_or-drop p t.trail k 0, map-append index, reverse-append)
    (rw (lasts_part k p (backstep t) (sym q) (simp length-set (omega arith)), q, cleared))

pub undone_lasts : (l : ℕ) (t : Trail) → get_or t.opened l 0 ≤ t.len → t.len ≤ length t.trail → undone l t ≡ lasts (how_many l t) t
unfolding undone
undone_lasts l t h h2 = sym (lasts_part (how_many l t) (get_or t.opened l 0) t (omega arith) h2)

-- by the book, the variables of its k newest entries
abbrev pub variable : Entry → ℕ
variable (entry c r o) = index c

lasts_are : {n m : ℕ} (k : ℕ) {b : Book} {ops : List ℕ} (t : Trail) → k ≤ length b → Fine n m b → Held n b ops t → lasts k t ≡ map variable (take k b)
unfolding lasts
lasts_are zero t h f g = refl
lasts_are (suc k) t h fine_nil g = absurd (omega arith)
lasts_are (suc k) t h (fine_add {r = r} {o = o} hx hr e f) g =
    rw (last_is t g, lasts_are k (backstep t) (omega arith) f (backstep_held t (fine_add {r = r} {o = o} hx hr e f) g))

-- how many entries a going back to l drops
abbrev dropped : ℕ → Book → ℕ
dropped l b = length b - length (back l b)

-- what going back undoes is the variables of the dropped entries
undone_is : {n m : ℕ} (l : ℕ) {b : Book} {t : Trail} → Fine n m b → l < present_level b → Holds n b t
    → (how_many l t ≡ dropped l b) × (undone l t ≡ map variable (take (dropped l b) b))
undone_is l {b} {t} fine h g =
    let f : Back l b (back l b) = back_facts l b h in
    let ln : t.len ≡ length b = g.trail.count ∙ length_codes b in
    let hl : l < t.level = omega (arith, g.opened.count, length_openings b) in
    let p : get_or t.opened l 0 ≡ length (back l b) = at l hl g.opened ∙ f.place in
    let q : how_many l t ≡ dropped l b = rw (ln, p) in
    (q, undone_lasts l t (omega (arith, f.len)) (in_range g.trail) ∙ rw q (lasts_are (dropped l b) t (omega arith) fine g))

-- the trail after going back holds the book gone back
back_holds : {n m : ℕ} (l : ℕ) {b : Book} (t : Trail) → Fine n m b → l < present_level b → Holds n b t → Holds n (back l b) (backtrack_to l t)
unfolding backtrack_to
back_holds {n} l {b} t fine h g =
    let f : Back l b (back l b) = back_facts l b h in
    let (q, vs) = undone_is l fine h g in
    let lo : length (openings b) ≡ present_level b = length_openings b in
    let up : l + (t.level - l) ≡ length (openings b) = omega (arith, g.opened.count) in
    let u : Held n (back l b) (openings b) (backsteps (dropped l b) t) = rw f.rest at (backsteps_held (dropped l b) t (omega arith) fine g) in
    let w = close_held (t.level - l) l {n = n} {b = back l b} (openings b) (backsteps (dropped l b) t) (omega arith) (rw (up, take-length) u) in
    rw (q, f.opens) (rewind_held _ w)

module _ (n m : ℕ) (O : Operations) (C : Chooser n m O) where
  -- a session that the book b fits, its chooser good for these switches
  pub record Good (b : Book) (on : ℕ → Bool) (s : Session n m O) : Type 0 where
    pub fine : Fine n m b
    pub holds : Holds n b s.trail
    pub ok : C.ok (values_of n b) on s.chooser

  -- a session that the calls of a log may leave
  abbrev pub GoodAfter : List Line → Session n m O → Type 0
  GoodAfter ls s = Good (book ls) (counts O.switches ls) s

  -- the chooser is offered the variables of the k newest entries
  offers : (k : ℕ) {b : Book} {on : ℕ → Bool} (c : O.State) → Fine n m b → C.ok (values_of n b) on c
      → C.ok (values_of n (drop k b)) on (offer_all n m O (map variable (take k b)) c)
  unfolding offer_all values_of
  offers zero c f q = q
  offers (suc k) c fine_nil q = q
  offers (suc k) c (fine_add {c = x} {b = b} h g e f) q =
      offers k (O.offer (index x) c) f (rw (set-set, set_same (values_of n b) (index x) unassigned e) at (C.offer_ok (index x) c h q))

  pub went : (l : ℕ) {b : Book} {on : ℕ → Bool} (s : Session n m O) → Good b on s → Good (back l b) on (went_back n m O l s)
  unfolding went_back backtrack_safe
  went l {b} {on} s g = go (ltb l s.trail.level) refl
    where
      present : s.trail.level ≡ present_level b
      present = g.holds.opened.count ∙ length_openings b

      go : (t : Bool) → ltb l s.trail.level ≡ t
          → Good (back l b) on (record {
            trail = cond t (backtrack_to l s.trail) s.trail;
            chooser = cond t (offer_all n m O (undone l s.trail) s.chooser) s.chooser;
          })
      go true e =
          let h : l < present_level b = omega (arith, present, ltb-true l s.trail.level e) in
          let f : Back l b (back l b) = back_facts l b h in
          record {
            fine = rw f.rest at (fine_drop (dropped l b) g.fine);
            holds = back_holds l s.trail g.fine h g.holds;
            ok = rw (undone_is l g.fine h g.holds).1 (rw f.rest at (offers (dropped l b) s.chooser g.fine g.ok));
          }
      go false e =
          let h : present_level b ≤ l = omega (arith, present, ltb-false l s.trail.level e) in
          rw (back_same l b h) g

  -- ---- the source's interleaving

  in_turn : (k : ℕ) (t : Trail) (c : O.State)
      → interleaved n m O k (record { trail = t; chooser = c }) ≡ record { trail = backsteps k t; chooser = offer_all n m O (lasts k t) c }
  unfolding interleaved backsteps lasts offer_all
  in_turn zero t c = refl
  in_turn (suc k) t c = in_turn k (backstep t) (O.offer (last t) c)

  pub apart : Apart n m O
  apart l s h h2 = rw (undone_lasts l s.trail h h2) (in_turn (how_many l s.trail) s.trail s.chooser)
