-- The laws of the definitions in `Vmtf.antt`: the steps and the ends of their walks, and that a move keeps what safety needs.
-- Assumes nothing.
use Prim.Native.Nat.{ℕ, zero, suc, ◌+◌, ◌-◌, ◌<◌, ◌≤◌}
use Rattle.std.specs.Prelude.{◌≡◌, ◌≢◌, Bool, true, false, cond, ◌||◌, take, drop, replicate, ltb, eqb}
use Rattle.std.proofs.Math.Path.{refl, sym, ap}
use Rattle.std.proofs.Common.{◌∙◌, add-one, length-drop, drop_of_length-le, get_or-drop, length-take-le, take-suc, take_all}
use mathlib.Core.List.{List, [], ◌∷◌, ◌++◌, append-nil}
use native.Mathlib.Omega.{arith}
use Rattle.std.proofs.Math.Decide.{ℕ_discrete}
use Rattle.std.proofs.Math.ListN.{length, get_or, set, length-set, length-replicate, get_or-map}
use Rattle.std.proofs.lemmas.List.{length-map}
use borrow.Author.Tests.{eq-eqb, ne_eqb, eqb-false, ltb-true}
use Rattle.lit.specs.Numbers.{NONE}
use Rattle.lit.specs.Lits.{index}
use Rattle.laws.specs.Tests.{and_left, cond_elim}
use Rattle.laws.specs.Lists.{set_cases}
use Rattle.laws.specs.Parts.{drop_next}
use Rattle.laws.specs.InPlace.{store_next, up_to, length_up_to, get_or_up_to}
use Rattle.util.specs.Pairs.{SamePairs, stood}
use Rattle.util.specs.SortReverse.{sort_reverse}
use Rattle.util.specs.Falling.{sort_permutes}
use Rattle.vmtf.specs.Vmtf.{Vmtf, max_stamp, count_lits, lit_order, first, linked, link_from, make_linked_list, renumber, rescore, relink, tick, move_to_front, move_all, stamps_of, is_open, from, first_open, any_open, stands, check_row, Safe, Chain, Ends, Vars, Ordering}

-- ---- lists place by place

-- at a place of the list the default does not matter
pub get_d_any : (l : List ℕ) (i a b : ℕ) → i < length l → get_or l i a ≡ get_or l i b
get_d_any [] i a b h = absurd (omega arith)
get_d_any (x ∷ l) zero a b h = refl
get_d_any (x ∷ l) (suc i) a b h = get_d_any l i a b (omega arith)

-- copying a list to memory of its length, place by place
abbrev pub copied : List ℕ → List ℕ → ℕ → List ℕ
copied vs l i = take i vs ++ drop i l

pub copied_next : (vs l : List ℕ) (i v : ℕ) → i < length vs → length l ≡ length vs → v ≡ get_or vs i 0 → set (copied vs l i) i v ≡ copied vs l (i + 1)
copied_next vs l i v h e q = rw q (store_next (take i vs) l i (get_or vs i 0) (length-take-le i vs (omega arith)) (omega arith) ∙ rw (add-one, take-suc vs i 0 h))

pub copied_end : (vs l : List ℕ) (i : ℕ) → length vs ≤ i → length l ≡ length vs → copied vs l i ≡ vs
copied_end vs l i h e =
    let k : length l ≤ i = omega arith in
    rw (take_all i vs h, drop_of_length-le l k) (append-nil vs)

pub stamp_at : (ts vs : List ℕ) (i : ℕ) → i < length vs → get_or ts (get_or vs i 0) 0 ≡ get_or (stamps_of ts vs) i 0
stamp_at ts vs i h = sym (get_d_any (stamps_of ts vs) i 0 (get_or ts 0 0) (simp length-map h) ∙ get_or-map (λ v. get_or ts v 0) vs i 0)

-- ---- the loops of `new` and `make_linked_list`

pub count_step : (counts codes : List ℕ) (i v : ℕ) → v ≡ index (get_or codes i 0) → i < length codes
    → count_lits counts (drop i codes) ≡ count_lits (set counts v (get_or counts v 0 + 1)) (drop (i + 1) codes)
unfolding count_lits
count_step counts codes i v e h = rw (drop_next codes i h, e)

pub count_end : (counts codes : List ℕ) (i : ℕ) → length codes ≤ i → count_lits counts (drop i codes) ≡ counts
unfolding count_lits
count_end counts codes i h = rw (drop_of_length-le codes h)

link_cons : (p v a k : ℕ) (vs : List ℕ) (l : Vmtf) → a ≡ first vs → k ≡ length (v ∷ vs) → link_from p (v ∷ vs) l ≡ link_from v vs (linked p v a k l)
unfolding link_from
link_cons p v a k vs l e f = rw (e, f)

pub link_step : (order : List ℕ) (i p : ℕ) (l : Vmtf) → i < length order
    → link_from p (drop i order) l ≡ link_from (get_or order i 0) (drop (i + 1) order) (linked p (get_or order i 0) (get_or order (i + 1) NONE) (length order - i) l)
link_step order i p l h =
    let z : i + 1 + 0 ≡ i + 1 = omega arith in
    rw (drop_next order i h) (link_cons p (get_or order i 0) (get_or order (i + 1) NONE) (length order - i) (drop (i + 1) order) l (rw (get_or-drop, z)) (simp length-drop (omega arith)))

pub link_end : (order : List ℕ) (i p : ℕ) (l : Vmtf) → length order ≤ i → link_from p (drop i order) l ≡ l
unfolding link_from
link_end order i p l h = rw (drop_of_length-le order h)

-- the order of `new` holds variables
pub length_count : (counts codes : List ℕ) → length (count_lits counts codes) ≡ length counts
unfolding count_lits
length_count counts [] = refl
length_count counts (code ∷ codes) = length_count (set counts (index code) (get_or counts (index code) 0 + 1)) codes ∙ length-set counts _ _

module _ (n : ℕ) (codes : List ℕ) where
  pub lit_pairs : let counts = count_lits (replicate n 0) codes in SamePairs counts (up_to n) (sort_reverse counts (up_to n)).0 (lit_order n codes)
  unfolding lit_order
  lit_pairs = sort_permutes (count_lits (replicate n 0) codes) (up_to n) (length_up_to n ∙ sym (length_count (replicate n 0) codes ∙ length-replicate n 0))

  pub lit_ordering : Ordering n (lit_order n codes)
  lit_ordering = record { long = long; vars = vars }
    where
      long : length (lit_order n codes) ≡ n
      long = lit_pairs.right_long ∙ length_up_to n

      counts_long : length (sort_reverse (count_lits (replicate n 0) codes) (up_to n)).0 ≡ n
      counts_long = lit_pairs.left_long ∙ length_count (replicate n 0) codes ∙ length-replicate n 0

      vars : Vars n (lit_order n codes)
      vars i h =
          let r = stood lit_pairs i (omega (arith, counts_long, long)) h in
          let l : r.place < n = omega (arith, r.in_right, length_up_to n) in
          rw (sym r.is_right, get_or_up_to n r.place l) l

  pub order_from : (c x c' x' : List ℕ) → c ≡ count_lits (replicate n 0) codes → x ≡ up_to n → (c', x') ≡ sort_reverse c x → x' ≡ lit_order n codes
  unfolding lit_order
  order_from c x c' x' a b e = ap (λ (p : List ℕ × List ℕ). p.1) e ∙ rw (a, b)

-- `make_linked_list` from filled memory
pub make_from : (n : ℕ) (order next prev ts : List ℕ) (v : ℕ) → length order ≡ n → next ≡ replicate n NONE → prev ≡ replicate n NONE → ts ≡ replicate n 0 → v ≡ first order
    → link_from NONE order (record { next = next; prev = prev; ts = ts; start = v; search = v; timestamp = length order + 1 }) ≡ make_linked_list order
unfolding make_linked_list
make_from n order next prev ts v e a b d f = rw (a, b, d, f, sym e)

-- ---- the walk of `rescore`

module _ (next : List ℕ) where
  pub renumber_none : (k curr : ℕ) (ts : List ℕ) → curr ≡ NONE → renumber next k curr ts ≡ ts
  unfolding renumber
  renumber_none zero curr ts e = rw (eq-eqb curr NONE e)
  renumber_none (suc k) curr ts e = rw (eq-eqb curr NONE e)

  pub renumber_last : (k curr : ℕ) (ts : List ℕ) → curr ≢ NONE → k ≡ 0 → renumber next k curr ts ≡ set ts curr k
  unfolding renumber
  renumber_last zero curr ts ne e = rw (ne_eqb curr NONE ne)
  renumber_last (suc k) curr ts ne e = absurd (omega arith)

  pub renumber_step : (k curr : ℕ) (ts : List ℕ) → curr ≢ NONE → 0 < k → renumber next k curr ts ≡ renumber next (k - 1) (get_or next curr 0) (set ts curr k)
  unfolding renumber
  renumber_step zero curr ts ne q = absurd (omega arith)
  renumber_step (suc k) curr ts ne q = let e : suc k - 1 ≡ k = omega arith in rw (ne_eqb curr NONE ne, e)

  pub length_renumber : (k curr : ℕ) (ts : List ℕ) → length (renumber next k curr ts) ≡ length ts
  unfolding renumber
  length_renumber zero curr ts = cond_elim (λ (l : List ℕ). length l ≡ length ts) (eqb curr NONE) (λ e. refl) (λ e. length-set ts curr 0)
  length_renumber (suc k) curr ts =
      let ih = length_renumber k (get_or next curr 0) (set ts curr (suc k)) in
      cond_elim (λ (l : List ℕ). length l ≡ length ts) (eqb curr NONE) (λ e. refl) (λ e. ih ∙ length-set ts curr (suc k))

-- ---- the walk of `get_next`

module _ (next : List ℕ) where
  -- where the walk ends, as many links as variables are enough
  pub chain_from : (vs : List ℕ) (k curr : ℕ) → length next ≤ NONE → Chain next curr vs → length vs ≤ k → from next k curr ≡ vs
  unfolding Chain from
  chain_from [] zero curr q c h = refl
  chain_from [] (suc k) curr q c h = rw (eq-eqb curr NONE c)
  chain_from (v ∷ vs) zero curr q c h = absurd (omega arith)
  chain_from (v ∷ vs) (suc k) curr q c h =
      let l : curr < NONE = omega arith in
      rw (ne_eqb curr NONE (λ e. omega arith), chain_from vs k (get_or next curr 0) q (rw c.0 c.2) (omega arith), c.0)

  pub from_none : (k curr : ℕ) → curr ≡ NONE → from next k curr ≡ []
  unfolding from
  from_none zero curr e = refl
  from_none (suc k) curr e = rw (eq-eqb curr NONE e)

module _ {next : List ℕ} {curr : ℕ} where
  -- past a variable the walk still ends
  pub ends_step : Ends next curr → curr ≢ NONE → Ends next (get_or next curr 0)
  unfolding Chain
  ends_step e ne = go e.rest e.chain e.short
    where
      go : (vs : List ℕ) → Chain next curr vs → length vs ≤ length next → Ends next (get_or next curr 0)
      go [] c s = absurd (ne c)
      go (v ∷ vs) c s = record { rest = vs; chain = rw c.0 c.2; short = omega arith; small = e.small }

  pub ends_in : Ends next curr → curr ≢ NONE → curr < length next
  unfolding Chain
  ends_in e ne = go e.rest e.chain
    where
      go : (vs : List ℕ) → Chain next curr vs → curr < length next
      go [] c = absurd (ne c)
      go (v ∷ vs) c = omega arith

  pub from_step : Ends next curr → curr ≢ NONE → from next (length next) curr ≡ curr ∷ from next (length next) (get_or next curr 0)
  unfolding Chain
  from_step e ne = go e.rest e.chain e.short
    where
      go : (vs : List ℕ) → Chain next curr vs → length vs ≤ length next → from next (length next) curr ≡ curr ∷ from next (length next) (get_or next curr 0)
      go [] c s = absurd (ne c)
      go (v ∷ vs) c s =
          let a : from next (length next) curr ≡ v ∷ vs = chain_from next (v ∷ vs) (length next) curr e.small c s in
          let b : from next (length next) (get_or next curr 0) ≡ vs = chain_from next vs (length next) (get_or next curr 0) e.small (rw c.0 c.2) (omega arith) in
          rw (a, b, c.0)

-- what the walk finds is a variable, and open
chain_found : (next values vs : List ℕ) (curr : ℕ) → Chain next curr vs → first_open values vs ≢ NONE
    → (first_open values vs < length next) × (is_open values (first_open values vs) ≡ true)
unfolding Chain first_open
chain_found next values [] curr c ne = absurd (ne refl)
chain_found next values (v ∷ vs) curr c ne = go (is_open values v) refl (chain_found next values vs (get_or next v 0) c.2) ne
  where
    go : (t : Bool) → is_open values v ≡ t → (first_open values vs ≢ NONE → (first_open values vs < length next) × (is_open values (first_open values vs) ≡ true))
        → cond t v (first_open values vs) ≢ NONE → (cond t v (first_open values vs) < length next) × (is_open values (cond t v (first_open values vs)) ≡ true)
    go true e f ne = (c.1, e)
    go false e f ne = f ne

module _ {next : List ℕ} {curr : ℕ} (e : Ends next curr) where
  ends_from : from next (length next) curr ≡ e.rest
  ends_from = chain_from next e.rest (length next) curr e.small e.chain e.short

  pub found : (values : List ℕ) (v : ℕ) → v ≡ first_open values (from next (length next) curr) → v ≢ NONE → (v < length next) × (is_open values v ≡ true)
  found values v q ne =
      let p : v ≡ first_open values e.rest = q ∙ ap (first_open values) ends_from in
      rw p (chain_found next values e.rest curr e.chain (λ z. ne (p ∙ z)))

-- ---- some variable is open

pub any_open_lem : (values : List ℕ) (n v : ℕ) → v < n → is_open values v ≡ true → any_open values n ≡ true
unfolding any_open
any_open_lem values zero v h e = absurd (omega arith)
any_open_lem values (suc n) v h e = go (ℕ_discrete v n) (any_open_lem values n v)
  where
    or_left : (a b : Bool) → a ≡ true → a || b ≡ true
    or_left a b p = rw p

    or_right : (a b : Bool) → b ≡ true → a || b ≡ true
    or_right true b p = refl
    or_right false b p = p

    go : Dec (v ≡ n) → (v < n → is_open values v ≡ true → any_open values n ≡ true) → any_open values n || is_open values n ≡ true
    go (yes q) f = or_right (any_open values n) (is_open values n) (rw q at e)
    go (no q) f = or_left (any_open values n) (is_open values n) (f (omega arith) e)

pub none_open : (values : List ℕ) (n : ℕ) → ((v : ℕ) → v < n → is_open values v ≡ false) → any_open values n ≡ false
unfolding any_open
none_open values zero f = refl
none_open values (suc n) f = rw (none_open values n (λ v h. f v (omega arith)), f n (omega arith))

-- ---- the walk of the check

module _ (l : Vmtf) (p b c : ℕ) where
  pub stands_in : stands l p b c ≡ true → c < length l.next
  unfolding stands
  stands_in e = ltb-true c (length l.next) (and_left (ltb c (length l.next)) _ e)

  pub check_step : (n i : ℕ) → i < n → stands l p b c ≡ true → check_row l (n - i) p b c ≡ check_row l (n - (i + 1)) c (get_or l.ts c 0) (get_or l.next c 0)
  unfolding check_row
  check_step n i h e = let z : n - i ≡ suc (n - (i + 1)) = omega arith in rw (z, e)

  pub check_fails : (n i : ℕ) → i < n → stands l p b c ≡ false → check_row l (n - i) p b c ≡ false
  unfolding check_row
  check_fails n i h e = let z : n - i ≡ suc (n - (i + 1)) = omega arith in rw (z, e)

  pub check_end : (n i : ℕ) → n ≤ i → check_row l (n - i) p b c ≡ eqb c NONE
  unfolding check_row
  check_end n i h = let z : n - i ≡ 0 = omega arith in rw z

-- ---- the moves of a group

pub moves_step : (vs : List ℕ) (i : ℕ) (l : Vmtf) → i < length vs → move_all (drop i vs) l ≡ move_all (drop (i + 1) vs) (move_to_front (get_or vs i 0) l)
unfolding move_all
moves_step vs i l h = rw (drop_next vs i h)

pub moves_end : (vs : List ℕ) (i : ℕ) (l : Vmtf) → length vs ≤ i → move_all (drop i vs) l ≡ l
unfolding move_all
moves_end vs i l h = rw (drop_of_length-le vs h)

-- ---- what safety needs stays

module _ {n v : ℕ} {l : Vmtf} (s : Safe n l) (v_in : v < n) where
  -- the front, and the variable before v where v is not the front
  front_in : l.start < n
  front_in = s.front (omega arith)

  pub relink_safe : v ≢ l.start → Safe n (relink v l)
  unfolding relink
  relink_safe ne =
      let before = get_or l.prev v 0 in
      let after = get_or l.next v 0 in
      let before_in : before < n = s.prev_in v v_in ne in
      let f : l.start < n = front_in in
      let e_n : length l.next ≡ n = s.links.next_long in
      let e_p : length l.prev ≡ n = s.prev_long in
      let prev : List ℕ = set (set l.prev v NONE) l.start v in
      record {
        links = record {
          next_long = simp length-set s.links.next_long;
          next_in = λ w b. set_cases (λ x. x ≢ NONE → x < n) (set l.next v l.start) before w after 0 (simp length-set (omega arith)) (λ e. s.links.next_in v v_in)
              (λ o. set_cases (λ x. x ≢ NONE → x < n) l.next v w l.start 0 (omega arith) (λ e _. f) (λ o. s.links.next_in w b));
          curr_in = λ _. v_in;
        };
        prev_long = cond_elim (λ (p : List ℕ). length p ≡ n) (eqb after NONE) (λ e. simp length-set e_p) (λ e. simp length-set e_p);
        ts_long = simp length-set s.ts_long;
        prev_in = λ w b o.
            let old : get_or prev w 0 < n =
            set_cases (λ x. x < n) (set l.prev v NONE) l.start w v 0 (simp length-set (omega arith)) (λ e. v_in)
            (λ o'. set_cases (λ x. x < n) l.prev v w NONE 0 (omega arith) (λ e. absurd (o e)) (λ _. s.prev_in w b o')) in
            cond_elim (λ (p : List ℕ). get_or p w 0 < n) (eqb after NONE) (λ e. old)
            (λ e. set_cases (λ x. x < n) prev after w before 0 (simp length-set (omega (arith, s.links.next_in v v_in (eqb-false after NONE e)))) (λ _. before_in) (λ _. old));
        front = λ _. v_in;
      }

tick_safe : {n : ℕ} {l : Vmtf} → Safe n l → Safe n (tick l)
unfolding tick rescore
tick_safe {n} {l} s =
    cond_elim (λ (m : Vmtf). Safe n m) (eqb l.timestamp max_stamp)
    (λ e. record {
      links = s.links;
      prev_long = s.prev_long;
      ts_long = length_renumber l.next (length l.next) l.start l.ts ∙ s.ts_long;
      prev_in = s.prev_in;
      front = s.front;
    })
    (λ e. record { links = s.links; prev_long = s.prev_long; ts_long = s.ts_long; prev_in = s.prev_in; front = s.front })

pub move_safe : {n v : ℕ} {l : Vmtf} → Safe n l → v < n → Safe n (move_to_front v l)
unfolding move_to_front
move_safe {n} {v} {l} s b = cond_elim (λ (m : Vmtf). Safe n m) (eqb v l.start) (λ e. s) (λ e. tick_safe (relink_safe s b (eqb-false v l.start e)))
