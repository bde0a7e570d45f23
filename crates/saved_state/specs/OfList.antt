-- A good list is what its text says, and what is written of a good list that a text says is the text. Assumes nothing.
use Prim.Native.Nat.{ℕ, zero, suc, ◌<◌, ◌≤◌}
use Rattle.std.specs.Prelude.{◌≡◌, refl, ◌≢◌, length, drop, replicate}
use Rattle.std.proofs.Math.Path.{sym}
use Rattle.std.proofs.Common.{ap, ◌∙◌, arith, eq-eqb, ne_eqb, length-append}
use Rattle.std.proofs.Math.Logic.{by_cases}
use mathlib.Core.List.{List, [], ◌∷◌, ◌++◌, map}
use Rattle.std.proofs.Math.Decide.{ℕ_discrete, dec_lt}
use Rattle.std.proofs.Math.ListN.{get_or, length-map}
use Rattle.std.proofs.lemmas.List.{get_or-replicate}
use Rattle.laws.specs.Each.{Each}
use Rattle.lit.specs.Numbers.{NONE, max_vars}
use Rattle.trail.specs.Trail.{Trail}
use Rattle.vmtf.specs.Vmtf.{Vmtf, first, Chain}
use Rattle.vmtf.specs.Laws.{chain_from}
use Rattle.vmtf.specs.Order.{count, remove, count_here, count_there, count_more, count_head, count_cons, count_nil, front_count, at_every, every_at}
use Rattle.vmtf.specs.Good.{Row, GoodList, order_length, order_is, at_most, in_order, stamp_below}
use Rattle.forms.specs.Forms.{vmtf}
use Rattle.forms.specs.Spelling.{Whole}
use Rattle.saved_text.specs.Saved.{long, Fits, chooser_forms, Rows, Saved, WellFormed}
use Rattle.saved_state.specs.Written.{order_of, list_rows, saved_of, saved_list}
use Rattle.saved_state.specs.Said.{stores, row, list_said}
use Rattle.saved_state.specs.Judged.{LongStamp}
use Rattle.saved_state.specs.Eachs.{get_or_mapped, each_of, each_at, each_mapped}
use Rattle.saved_state.specs.Stores.{Apart, stored_length, stores_in, stores_at, stores_are, read_back_lem}
use Rattle.saved_state.specs.Rows.{one_number, line}

-- ---- along an order
-- what comes behind each, NONE behind the last
abbrev pub behind_each : List ℕ → List ℕ
behind_each o = drop 1 o ++ NONE ∷ []

behind_first : (o : List ℕ) → get_or (o ++ NONE ∷ []) 0 0 ≡ first o
behind_first [] = refl
behind_first (x ∷ xs) = refl

behind_next : (o : List ℕ) (i : ℕ) → i < length o → get_or (o ++ NONE ∷ []) (suc i) 0 ≡ get_or (behind_each o) i 0
behind_next [] i h = absurd (omega arith)
behind_next (x ∷ xs) i h = refl

pub behind_long : (o : List ℕ) → length o ≤ length (behind_each o)
behind_long [] = omega arith
behind_long (x ∷ xs) = omega (arith, length-append xs (NONE ∷ []))

-- that is NONE or stands in the order, and so does the first
closed_in : (n : ℕ) → n ≤ NONE → (o : List ℕ) (i : ℕ) → i < length (o ++ NONE ∷ []) → get_or (o ++ NONE ∷ []) i 0 < n → 0 < count (get_or (o ++ NONE ∷ []) i 0) o
closed_in n small [] zero h b = absurd (omega arith)
closed_in n small [] (suc i) h b = absurd (omega arith)
closed_in n small (x ∷ xs) zero h b = count_head x xs
closed_in n small (x ∷ xs) (suc i) h b = omega (arith, closed_in n small xs i (omega arith) b, count_more (get_or (xs ++ NONE ∷ []) i 0) x xs)

behind_in : (n : ℕ) → n ≤ NONE → (o : List ℕ) (i : ℕ) → i < length (behind_each o) → get_or (behind_each o) i 0 < n → 0 < count (get_or (behind_each o) i 0) o
behind_in n small [] i h b = closed_in n small [] i h b
behind_in n small (x ∷ xs) i h b = omega (arith, closed_in n small xs i h b, count_more (get_or (xs ++ NONE ∷ []) i 0) x xs)

first_in : (n : ℕ) → n ≤ NONE → (o : List ℕ) → first o < n → 0 < count (first o) o
first_in n small [] b = absurd (omega arith)
first_in n small (x ∷ xs) b = count_head x xs

-- the links of a row are what comes behind each and what comes before
module _ (next prev : List ℕ) where
  row_next : (p : ℕ) (o : List ℕ) → Row next prev p o → (i : ℕ) → i < length o → get_or next (get_or o i 0) 0 ≡ get_or (behind_each o) i 0
  unfolding Row
  row_next p [] r i h = absurd (omega arith)
  row_next p (x ∷ xs) r zero h = r.1 ∙ sym (behind_first xs)
  row_next p (x ∷ xs) r (suc i) h = row_next x xs r.2 i (omega arith) ∙ sym (behind_next xs i (omega arith))

  row_prev : (p : ℕ) (o : List ℕ) → Row next prev p o → (i : ℕ) → i < length o → get_or prev (get_or o i 0) 0 ≡ get_or (p ∷ o) i 0
  unfolding Row
  row_prev p [] r i h = absurd (omega arith)
  row_prev p (x ∷ xs) r zero h = r.0
  row_prev p (x ∷ xs) r (suc i) h = row_prev x xs r.2 i (omega arith)

  -- what such links lead to: all of a row is in p where its first is, and what a link names is
  row_in : (n : ℕ) (p : List ℕ) → ((j : ℕ) → j < n → get_or next j 0 < n → 0 < count (get_or next j 0) p) → (q : ℕ) (o : List ℕ) → Row next prev q o → ((v : ℕ) → 0 < count v o → v < n) → (first o < n → 0 < count (first o) p)
      → (v : ℕ) → 0 < count v o → 0 < count v p
  unfolding Row
  row_in n p links q [] r vars f v h = absurd (omega (arith, count_nil v))
  row_in n p links q (x ∷ xs) r vars f v h =
      by_cases (ℕ_discrete x v)
      (λ e. rw e at (f (vars x (count_head x xs))))
      (λ d. row_in n p links x xs r.2 (λ w k. vars w (omega (arith, count_more w x xs))) (rw r.1 at (links x (vars x (count_head x xs)))) v (omega (arith, count_there v x xs d)))

-- and a walk along them goes through the order
links_chain : (next o : List ℕ) → ((i : ℕ) → i < length o → get_or o i 0 < length next) → ((i : ℕ) → i < length o → get_or next (get_or o i 0) 0 ≡ get_or (behind_each o) i 0) → Chain next (first o) o
unfolding Chain
links_chain next [] below f = refl
links_chain next (x ∷ xs) below f =
    let rest = links_chain next xs (λ i h. below (suc i) (omega arith)) (λ i h. f (suc i) (omega arith) ∙ behind_next xs i h) in
    (refl, below 0 (omega arith), rw (f 0 (omega arith) ∙ behind_first xs) rest)

-- ---- each of an order stands once
places_apart : (o : List ℕ) → ((w : ℕ) → count w o ≤ 1) → (i j : ℕ) → i < j → j < length o → get_or o i 0 ≢ get_or o j 0
places_apart [] most i j h b = absurd (omega arith)
places_apart (x ∷ xs) most i zero h b = absurd (omega arith)
places_apart (x ∷ xs) most zero (suc j) h b = λ e. (let k : 0 < count x xs = rw (← e) at (every_at xs j (omega arith)) in omega (arith, most x, count_here x x xs refl))
places_apart (x ∷ xs) most (suc i) (suc j) h b = places_apart xs (λ w. omega (arith, most w, count_more w x xs)) i j (omega arith) (omega arith)

order_apart : (n : ℕ) (o : List ℕ) → ((v : ℕ) → 0 < count v o → v < n) → ((v : ℕ) → count v o ≤ 1) → Apart n o
order_apart n o vars most = record { below = λ i h. vars (get_or o i 0) (every_at o i h); once = places_apart o most }

remove_length : (v : ℕ) (o : List ℕ) → 0 < count v o → suc (length (remove v o)) ≡ length o
unfolding remove
remove_length v [] h = absurd (omega (arith, count_nil v))
remove_length v (x ∷ xs) h =
    by_cases (ℕ_discrete x v)
    (λ e. rw (eq-eqb x v e))
    (λ d. rw (ne_eqb x v d) (ap suc (remove_length v xs (omega (arith, count_there v x xs d)))))

-- an order that is no longer than another and has each of it as often has nothing else
same_counts : (o p : List ℕ) → ((v : ℕ) → count v o ≤ count v p) → length p ≤ length o → (v : ℕ) → count v p ≡ count v o
same_counts [] [] f h v = refl
same_counts [] (y ∷ p) f h v = absurd (omega arith)
same_counts (x ∷ o) p f h v =
    let in_p : 0 < count x p = omega (arith, f x, count_head x o) in
    let rest : count v (remove x p) ≡ count v o = same_counts o (remove x p) (λ w. by_cases (ℕ_discrete x w)
    (λ e. omega (arith, f w, front_count x w p in_p, count_here w x o e, count_here w x (remove x p) e))
    (λ d. omega (arith, f w, front_count x w p in_p, count_there w x o d, count_there w x (remove x p) d)))
    (omega (arith, remove_length x p in_p)) v in
    sym (front_count x v p in_p) ∙ count_cons v x (remove x p) o rest

-- ---- written and read
module _ {n : ℕ} {order : List ℕ} {l : Vmtf} (g : GoodList n order l) where
  apart : Apart n order
  apart = order_apart n order g.linked.vars (at_most g.linked)

  -- what holds of each variable holds along the order, and what holds of each below the timestamp holds of the stamps
  pub each_var : (P : ℕ → Type 0) → ((v : ℕ) → v < n → P v) → Each P order
  each_var P f = each_of P order 0 (λ i h. f (get_or order i 0) (apart.below i h))

  pub each_stamp : (P : ℕ → Type 0) → ((k : ℕ) → k < l.timestamp → P k) → Each P (map (λ v. get_or l.ts v 0) order)
  each_stamp P f = each_mapped P (λ v. get_or l.ts v 0) order 0 (λ i h. f (get_or l.ts (get_or order i 0) 0) (stamp_below g (get_or order i 0) (apart.below i h)))

  -- a list by variable, by what it holds for each of the order
  by_order : (x : ℕ) (xs u : List ℕ) → length order ≤ length xs → length u ≡ n → ((i : ℕ) → i < length order → get_or u (get_or order i 0) 0 ≡ get_or xs i 0) → stores (replicate n x) order xs ≡ u
  by_order x xs u h size here =
      stores_are x order xs 0 apart h u size here (λ w b no. absurd (at_every (λ v. v ≢ w) order no w (in_order g.linked w b) refl))

  pub list_again : (lits ends : List ℕ) (t : Trail) → list_said (saved_list n lits ends t l) ≡ l
  unfolding saved_of
  list_again lits ends t =
      let k = g.linked in
      let stamp : ℕ → ℕ = λ v. get_or l.ts v 0 in
      let next = by_order NONE (behind_each order) l.next (behind_long order) k.next_long (row_next l.next l.prev NONE order k.row) in
      let prev = by_order NONE (NONE ∷ order) l.prev (omega arith) k.prev_long (row_prev l.next l.prev NONE order k.row) in
      let ts = by_order 0 (map stamp order) l.ts (omega (arith, length-map order stamp)) g.ts_long (λ i h. sym (get_or_mapped stamp order i 0 0 h)) in
      rw (order_is k) (λ i. record { next = next i; prev = prev i; ts = ts i; start = sym k.front i; search = l.search; timestamp = l.timestamp })

  -- what is written has the form
  pub list_formed : n ≤ max_vars → LongStamp l → Rows (chooser_forms vmtf n) (list_rows l)
  unfolding Rows
  list_formed small wide =
      let k = g.linked in
      let stamp : ℕ → ℕ = λ v. get_or l.ts v 0 in
      let vars = each_var Whole (λ v b. omega arith) in
      let stamps = each_stamp (Fits long) (λ v b. omega arith) in
      let search : Whole l.search = by_cases (ℕ_discrete l.search NONE) (λ e. omega arith) (λ d. omega (arith, g.search_in d)) in
      rw (order_is k) ((order_length k, vars), ((length-map order stamp ∙ order_length k, stamps), ((refl, (wide, tt)), ((refl, (search, tt)), tt))))

-- ---- what a text says
module _ (s : Saved) (w : WellFormed s) (mode : s.opening.mode ≡ vmtf) where
  abbrev n : ℕ
  n = s.opening.vars

  abbrev order : List ℕ
  order = row s 3

  -- has the lengths; the timestamp has 64 bits
  pub next_long : length (list_said s).next ≡ n
  next_long = stored_length n NONE order (behind_each order)

  pub prev_long : length (list_said s).prev ≡ n
  prev_long = stored_length n NONE order (NONE ∷ order)

  pub ts_long : length (list_said s).ts ≡ n
  ts_long = stored_length n 0 order (row s 4)

  pub long_stamp : LongStamp (list_said s)
  long_stamp = let stamp = line s w vmtf mode 5 (omega arith) in each_at (Fits long) (row s 5) 0 0 stamp.1 (omega (arith, stamp.0))

  pub order_long : length order ≡ n
  order_long = (line s w vmtf mode 3 (omega arith)).0

  -- read and written
  module _ {good : List ℕ} (g : GoodList n good (list_said s)) where
    -- each variable is on the line, since the links lead to nothing else; so none is there twice
    all_in : (v : ℕ) → 0 < count v good → 0 < count v order
    all_in =
        let k = g.linked in
        row_in (list_said s).next (list_said s).prev n order
        (λ j h. stores_in (λ x. x < n → 0 < count x order) (replicate n NONE) order (behind_each order) j 0 (rw (get_or-replicate n j NONE 0 h) (λ b. absurd (omega (arith, k.small)))) (behind_in n k.small order))
        NONE good k.row k.vars (rw k.front at (first_in n k.small order))

    counts_same : (v : ℕ) → count v order ≡ count v good
    counts_same =
        same_counts good order
        (λ v. by_cases (dec_lt 0 (count v good)) (λ h. omega (arith, at_most g.linked v, all_in v h)) (λ h. omega arith))
        (omega (arith, order_long, order_length g.linked))

    order_once : Apart n order
    order_once = order_apart n order (λ v h. g.linked.vars v (omega (arith, counts_same v))) (λ v. omega (arith, counts_same v, at_most g.linked v))

    order_back : order_of (list_said s) ≡ order
    order_back =
        let next = (list_said s).next in
        let at = stores_at NONE order (behind_each order) 0 order_once (behind_long order) in
        let walk : Chain next (first order) order = links_chain next order (λ i h. omega (arith, order_once.below i h, next_long)) at in
        chain_from next order (length next) (first order) (omega (arith, next_long, g.linked.small)) walk (omega (arith, next_long, order_long))

    pub list_back : list_rows (list_said s) ≡ order ∷ row s 4 ∷ row s 5 ∷ row s 6 ∷ []
    list_back =
        let stamp : ℕ → ℕ = λ v. get_or (list_said s).ts v 0 in
        let stamps = ap (map stamp) order_back ∙ read_back_lem 0 order (row s 4) 0 order_once ((line s w vmtf mode 4 (omega arith)).0 ∙ sym order_long) in
        let timestamp = sym (one_number (row s 5) (line s w vmtf mode 5 (omega arith)).0) in
        let search = sym (one_number (row s 6) (line s w vmtf mode 6 (omega arith)).0) in
        λ i. order_back i ∷ stamps i ∷ timestamp i ∷ search i ∷ []
