-- Loops between a session's memory and rows of numbers: those that write a list from its front, those that store along places, and the walk that finds
-- the opened levels. Each has a record that holds before every turn, with how it starts, goes on and ends. Assumes nothing.
use Rattle.std.specs.Prelude.{ℕ, zero, suc, ◌+◌, ◌-◌, ◌<◌, ◌≤◌, ◌≡◌, refl, ◌≢◌, List, [], ◌∷◌, ◌++◌, map, get_or, set, take, drop, replicate}
use Rattle.std.proofs.Math.Path.{sym}
use Rattle.std.proofs.Common.{ap, ◌∙◌, append-nil, arith, add-one, length-drop, drop_of_length-le, take_all, take-suc, take-suc-set, take_at, length-take-le, get_or-take}
use borrow.Author.Tests.{lt-ltb, le-ltb}
use Rattle.std.proofs.Math.ListN.{length, length-set, length-append}
use Rattle.std.proofs.lemmas.List.{length-replicate, length-map, get_or-replicate, set_at}
use Rattle.std.proofs.Math.Seq.{drop-cons, append_snoc}
use Rattle.laws.specs.Parts.{drop_next, second_at}
use Rattle.lit.specs.Numbers.{NONE}
use Rattle.lit.specs.Lits.{index}
use Rattle.vmtf.specs.Vmtf.{from, Ends}
use Rattle.vmtf.specs.Laws.{from_none, from_step, ends_in, ends_step}
use Rattle.saved_state.specs.Said.{padded, stores, openings}
use Rattle.saved_state.specs.Eachs.{get_or_mapped}
use Rattle.saved_state.specs.Stores.{padded_length}
use Rattle.saved_state.specs.OfList.{behind_each}

-- the variable of each literal is one of n
abbrev pub Codes : ℕ → List ℕ → Type 0
Codes n codes = (i : ℕ) → i < length codes → index (get_or codes i 0) < n

-- ---- from the front
-- xs has n places; the first i places of a list of this length are those of xs
pub record Front {A : Type 0} (n : ℕ) (xs l : List A) (i : ℕ) : Type 0 where
  pub whole : length xs ≡ n
  pub long : length l ≡ n
  pub within : i ≤ n
  pub same : take i l ≡ take i xs

module _ {A : Type 0} {n : ℕ} {xs l : List A} where
  pub front_start : length xs ≡ n → length l ≡ n → Front n xs l 0
  front_start e q = record { whole = e; long = q; within = omega arith; same = refl }

  pub front_next : {i : ℕ} (x d : A) → Front n xs l i → i < n → x ≡ get_or xs i d → Front n xs (set l i x) (i + 1)
  front_next {i} x d f h e =
      record {
        whole = f.whole;
        long = length-set l i x ∙ f.long;
        within = omega arith;
        same = rw (add-one, take-suc-set l i x (omega (arith, f.long)), take-suc xs i d (omega (arith, f.whole)), f.same, e);
      }

  pub front_end : {i : ℕ} → Front n xs l i → n ≤ i → l ≡ xs
  front_end {i} f h = sym (take_all i l (omega (arith, f.long))) ∙ f.same ∙ take_all i xs (omega (arith, f.whole))

-- the first of a list, copied
pub copied_next : {A : Type 0} {k i : ℕ} (src : List A) {l : List A} (d : A) → Front k (take k src) l i → i < length l → Front k (take k src) (set l i (get_or src i d)) (i + 1)
copied_next {k = k} {i = i} src d f h = let b : i < k = omega (arith, f.long) in front_next (get_or src i d) d f b (sym (get_or-take k src i d b))

-- a function of each of a list
module _ {A B : Type 0} (f : A → B) (src : List A) {l : List B} where
  pub mapped_start : length l ≡ length src → Front (length src) (map f src) l 0
  mapped_start e = front_start (length-map src f) e

  pub mapped_next : {i : ℕ} (d : A) → Front (length src) (map f src) l i → i < length src → Front (length src) (map f src) (set l i (f (get_or src i d))) (i + 1)
  mapped_next {i} d g h = front_next (f (get_or src i d)) (f d) g h (sym (get_or_mapped f src i d (f d) h))

-- a list that is in use up to place k, of which the other places get NONE
module _ (k : ℕ) (l : List ℕ) (h : k ≤ length l) where
  pub padded_start : Front (length l) (padded (length l) (take k l)) l k
  padded_start =
      let e : length (take k l) ≡ k = length-take-le k l h in
      record { whole = padded_length (length l) (take k l) (omega arith); long = refl; within = h; same = sym (take_at (take k l) (replicate (length l - length (take k l)) NONE) k e) }

  pub padded_next : {u : List ℕ} {i : ℕ} → Front (length l) (padded (length l) (take k l)) u i → k ≤ i → i < length l → Front (length l) (padded (length l) (take k l)) (set u i NONE) (i + 1)
  padded_next {u} {i} f a b =
      let e : length (take k l) ≡ k = length-take-le k l h in
      let r = replicate (length l - length (take k l)) NONE in
      front_next NONE 0 f b (sym (second_at (take k l) k e r i 0 a ∙ get_or-replicate (length l - length (take k l)) (i - k) NONE 0 (omega arith)))

-- the walk along the links: curr is the variable at place i, and the rest of the walk is the rest of the list
pub record Walked (next : List ℕ) (start n : ℕ) (l : List ℕ) (curr i : ℕ) : Type 0 where
  pub front : Front n (from next (length next) start) l i
  pub ends : Ends next curr
  pub rest : from next (length next) curr ≡ drop i (from next (length next) start)

module _ {next : List ℕ} {start n : ℕ} {l : List ℕ} {curr i : ℕ} (w : Walked next start n l curr i) (h : i < n) where
  walk_some : curr ≢ NONE
  walk_some e = omega (arith, ap length (sym (from_none next (length next) curr e) ∙ w.rest), length-drop i (from next (length next) start), w.front.whole)

  pub walk_in : curr < length next
  walk_in = ends_in w.ends walk_some

  pub walk_next : Walked next start n (set l i curr) (get_or next curr 0) (i + 1)
  walk_next =
      let all = from next (length next) start in
      let behind = from next (length next) (get_or next curr 0) in
      let e : curr ∷ behind ≡ get_or all i 0 ∷ drop (i + 1) all = sym (from_step w.ends walk_some) ∙ w.rest ∙ drop_next all i (omega (arith, w.front.whole)) in
      record { front = front_next curr 0 w.front h (cc); ends = ends_step w.ends walk_some; rest = cc }

-- ---- along places
-- vs are m places of a list, with a value in xs for each: what is left to store, from place i of vs and xs on, gives the whole
pub record Along {A : Type 0} (m : ℕ) (vs : List ℕ) (xs before l : List A) (i : ℕ) : Type 0 where
  pub many : length vs ≡ m
  pub enough : m ≤ length xs
  pub below : (j : ℕ) → j < m → get_or vs j 0 < length before
  pub long : length l ≡ length before
  pub within : i ≤ m
  pub rest : stores l (drop i vs) (drop i xs) ≡ stores before vs xs

module _ {A : Type 0} {m : ℕ} {vs : List ℕ} {xs : List A} where
  pub along_start : {n : ℕ} {l : List A} → length l ≡ n → length vs ≡ m → m ≤ length xs → ((j : ℕ) → j < m → get_or vs j 0 < n) → Along m vs xs l l 0
  along_start e many enough vars = record { many = many; enough = enough; below = λ j h. omega (arith, vars j h); long = refl; within = omega arith; rest = refl }

  module _ {before l : List A} {i : ℕ} (a : Along m vs xs before l i) where
    pub along_in : i < m → get_or vs i 0 < length l
    along_in h = omega (arith, a.below i h, a.long)

    pub along_next : (v : ℕ) (x d : A) → i < m → v ≡ get_or vs i 0 → x ≡ get_or xs i d → Along m vs xs before (set l v x) (i + 1)
    unfolding stores
    along_next v x d h e q =
        record {
          many = a.many;
          enough = a.enough;
          below = a.below;
          long = length-set l v x ∙ a.long;
          within = omega arith;
          rest = rw (add-one, e, q) (rw (drop-cons vs i 0 (omega (arith, a.many)), drop-cons xs i d (omega (arith, a.enough))) at a.rest);
        }

    pub along_end : {filled : List A} → before ≡ filled → m ≤ i → l ≡ stores filled vs xs
    unfolding stores
    along_end e h = let k : length vs ≤ i = omega (arith, a.many) in (rw (drop_of_length-le vs k) at a.rest) ∙ rw e

-- the places are the variables of literals
module _ {A : Type 0} {xs : List A} (codes : List ℕ) where
  pub codes_start : {n : ℕ} {l : List A} → length l ≡ n → length codes ≤ length xs → Codes n codes → Along (length codes) (map index codes) xs l l 0
  codes_start e enough vars = along_start e (length-map codes index) enough (λ j h. rw (get_or_mapped index codes j 0 0 h) (vars j h))

  module _ {before l : List A} {i : ℕ} (a : Along (length codes) (map index codes) xs before l i) (h : i < length codes) where
    pub codes_in : index (get_or codes i 0) < length l
    codes_in = rw (get_or_mapped index codes i 0 0 h) at (along_in a h)

    pub codes_next : (x d : A) → x ≡ get_or xs i d → Along (length codes) (map index codes) xs before (set l (index (get_or codes i 0)) x) (i + 1)
    codes_next x d = along_next a (index (get_or codes i 0)) x d h (sym (get_or_mapped index codes i 0 0 h))

-- what comes behind the variable at a place of an order
closed_at : (o : List ℕ) (i : ℕ) → i ≤ length o → get_or (o ++ NONE ∷ []) i 0 ≡ get_or o i NONE
closed_at [] zero h = refl
closed_at [] (suc i) h = absurd (omega arith)
closed_at (x ∷ o) zero h = refl
closed_at (x ∷ o) (suc i) h = closed_at o i (omega arith)

pub behind_at : (o : List ℕ) (i : ℕ) → i < length o → get_or (behind_each o) i 0 ≡ get_or o (i + 1) NONE
behind_at [] i h = absurd (omega arith)
behind_at (x ∷ o) i h = rw add-one (closed_at o i (omega arith))

-- ---- the opened levels
-- those found before place i, whose levels go on from this level, stand at the front of n places
pub record Opened (n : ℕ) (levels l : List ℕ) (level k i : ℕ) : Type 0 where
  pub found : List ℕ
  pub count : length found ≡ k
  pub few : k ≤ i
  pub within : i ≤ length levels
  pub room : length levels ≤ n
  pub long : length l ≡ n
  pub is : l ≡ padded n found
  pub rest : found ++ openings i level (drop i levels) ≡ openings 0 0 levels

padded_more : (n : ℕ) (l : List ℕ) (k x : ℕ) → length l ≡ k → k < n → set (padded n l) k x ≡ padded n (l ++ (x ∷ []))
padded_more n l k x e h =
    let r = n - length (l ++ (x ∷ [])) in
    let s : n - length l ≡ suc r = omega (arith, length-append l (x ∷ [])) in
    rw s (set_at l NONE (replicate r NONE) x k e ∙ sym (append_snoc l x (replicate r NONE)))

pub opened_start : (n : ℕ) (levels l : List ℕ) → l ≡ replicate n NONE → length levels ≤ n → Opened (length l) levels l 0 0 0
opened_start n levels l e h =
    let long : length l ≡ n = ap length e ∙ length-replicate n NONE in
    let z : length l - 0 ≡ n = omega arith in
    record { found = []; count = refl; few = omega arith; within = omega arith; room = omega arith; long = refl; is = e ∙ rw z; rest = refl }

module _ {n : ℕ} {levels l : List ℕ} {level k i : ℕ} (o : Opened n levels l level k i) where
  module _ (h : i < length levels) where
    pub opened_same : get_or levels i 0 ≤ level → Opened n levels l (get_or levels i 0) k (i + 1)
    unfolding openings
    opened_same b =
        record {
          found = o.found;
          count = o.count;
          few = omega (arith, o.few);
          within = omega arith;
          room = o.room;
          long = o.long;
          is = o.is;
          rest = rw (drop_next levels i h, le-ltb level (get_or levels i 0) b) at o.rest;
        }

    pub opened_next : level < get_or levels i 0 → Opened n levels (set l k i) (get_or levels i 0) (k + 1) (i + 1)
    unfolding openings
    opened_next b =
        let f = o.found in
        let later = openings (i + 1) (get_or levels i 0) (drop (i + 1) levels) in
        record {
          found = f ++ (i ∷ []);
          count = length-append f (i ∷ []) ∙ rw o.count;
          few = omega (arith, o.few);
          within = omega arith;
          room = o.room;
          long = length-set l k i ∙ o.long;
          is = rw o.is (padded_more n f k i o.count (omega (arith, o.few, o.room)));
          rest = append_snoc f i later ∙ (rw (drop_next levels i h, lt-ltb level (get_or levels i 0) b) at o.rest);
        }

  pub opened_end : length levels ≤ i → (l ≡ padded n (openings 0 0 levels)) × (k ≡ length (openings 0 0 levels))
  unfolding openings
  opened_end h =
      let e : o.found ≡ openings 0 0 levels = sym (append-nil o.found) ∙ (rw (drop_of_length-le levels h) at o.rest) in
      (o.is ∙ rw e, sym o.count ∙ rw e)
