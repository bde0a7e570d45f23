-- A good trail is what its text says, the levels of unassigned variables aside; and what is written of a good trail that a text says is the text. Assumes nothing.
use Rattle.std.specs.Prelude.{ℕ, zero, suc, ◌+◌, ◌<◌, ◌≤◌, ◌≡◌, refl, ◌≢◌, Bool, cond, List, [], ◌∷◌, ◌++◌, map, ltb, get_or, take, replicate}
use Rattle.std.proofs.Common.{sym, ap, ◌∙◌, inl, inr, arith, lt-ltb, le-ltb, length-take-le, get_or-take}
use Rattle.std.proofs.Math.Logic.{by_cases}
use Rattle.std.proofs.Math.Decide.{ℕ_discrete}
use Rattle.std.proofs.Math.Dec.{leb}
use Rattle.std.proofs.Math.ListN.{length}
use Rattle.std.proofs.lemmas.List.{length-map}
use Rattle.laws.specs.Each.{Each}
use Rattle.laws.specs.Some.{count, count_same}
use Rattle.laws.specs.Tests.{true_or_false}
use Rattle.lit.specs.Numbers.{NONE, unassigned, max_vars}
use Rattle.lit.specs.Lits.{index, polarity}
use Rattle.trail.specs.Trail.{Trail}
use Rattle.trail.specs.Memory.{Sized}
use Rattle.trail.specs.Good.{GoodTrail, var_at, not_above, IsReason}
use Rattle.book.specs.Claim.{assigned_levels}
use Rattle.book.specs.Saved.{forgot}
use Rattle.forms.specs.Forms.{Mode}
use Rattle.forms.specs.Spelling.{Whole}
use Rattle.saved_text.specs.Saved.{Form, form, whole, reason, trail_form, Row, Rows, Saved, WellFormed}
use Rattle.saved_state.specs.Written.{codes_of, along, trail_rows, saved_of}
use Rattle.saved_state.specs.Said.{stores, openings, padded, row, trail_said}
use Rattle.saved_state.specs.Eachs.{get_or_mapped, each_of, each_mapped, mapped_mapped}
use Rattle.saved_state.specs.Stores.{padded_length, in_use, whole_again, Apart, stored_length, stores_are, read_back_lem}
use Rattle.saved_state.specs.Levels.{openings_are}
use Rattle.saved_state.specs.Rows.{one_number, line}

-- what is left of the levels
known_length : (values levels : List ℕ) → length levels ≡ length values → length (assigned_levels values levels) ≡ length values
unfolding assigned_levels
known_length [] levels e = refl
known_length (x ∷ values) [] e = absurd (omega arith)
known_length (x ∷ values) (l ∷ levels) e = ap suc (known_length values levels (omega arith))

known_at : (values levels : List ℕ) (i : ℕ) → length levels ≡ length values → i < length values → get_or (assigned_levels values levels) i 0 ≡ cond (ltb (get_or values i 0) unassigned) (get_or levels i 0) NONE
unfolding assigned_levels
known_at [] levels i e h = absurd (omega arith)
known_at (x ∷ values) [] i e h = absurd (omega arith)
known_at (x ∷ values) (l ∷ levels) zero e h = refl
known_at (x ∷ values) (l ∷ levels) (suc i) e h = known_at values levels i (omega arith) (omega arith)

module _ {n m : ℕ} {t : Trail} (g : GoodTrail n m t) where
  abbrev codes : List ℕ
  codes = codes_of t

  abbrev vs : List ℕ
  vs = map index codes

  pub codes_length : length codes ≡ t.len
  codes_length = length-take-le t.len t.trail (omega (arith, g.lengths.trail_long, g.len_in))

  vs_length : length vs ≡ t.len
  vs_length = length-map codes index ∙ codes_length

  pub code_is : (i : ℕ) → i < t.len → get_or codes i 0 ≡ get_or t.trail i 0
  code_is i h = get_or-take t.len t.trail i 0 h

  var_is : (i : ℕ) → i < t.len → get_or vs i 0 ≡ var_at t i
  var_is i h = get_or_mapped index codes i 0 0 (omega (arith, codes_length)) ∙ ap index (code_is i h)

  apart : Apart n vs
  apart = record {
    below = λ i h. (let b : i < t.len = omega (arith, vs_length) in rw (var_is i b) (g.codes_in i b));
    once = λ i j h k. (let b : j < t.len = omega (arith, vs_length) in rw (var_is i (omega arith), var_is j b) (g.once i j h b));
  }

  -- a variable that stands nowhere on the trail is unassigned
  off : (w : ℕ) → w < n → ((i : ℕ) → i < length vs → get_or vs i 0 ≢ w) → get_or t.values w 0 ≡ unassigned
  off w b k =
      by_cases (ℕ_discrete (get_or t.values w 0) unassigned)
      (λ e. e)
      (λ d. let p = g.held w b d in absurd (k p.0 (omega (arith, vs_length, p.1.0)) (var_is p.0 p.1.0 ∙ p.1.1)))

  -- a list by variable that is f of each code, and x elsewhere
  by_code : (f : ℕ → ℕ) (x : ℕ) (u : List ℕ) → length u ≡ n → ((i : ℕ) → i < t.len → get_or u (var_at t i) 0 ≡ f (get_or t.trail i 0)) → ((w : ℕ) → w < n → get_or t.values w 0 ≡ unassigned → get_or u w 0 ≡ x) → stores (replicate n x) vs (map f codes) ≡ u
  by_code f x u long here there =
      stores_are x vs (map f codes) 0 apart (omega (arith, length-map codes f, length-map codes index)) u long
      (λ i h.
      let b : i < t.len = omega (arith, vs_length) in
      ap (λ (v : ℕ). get_or u v 0) (var_is i b) ∙ here i b ∙ sym (get_or_mapped f codes i 0 0 (omega (arith, codes_length)) ∙ ap f (code_is i b)))
      (λ w b k. there w b (off w b k))

  values_again : stores (replicate n unassigned) vs (map polarity codes) ≡ t.values
  values_again = by_code polarity unassigned t.values g.lengths.values_long g.agrees (λ w b e. e)

  reasons_again : stores (replicate n NONE) vs (map (λ c. get_or t.reasons (index c) 0) codes) ≡ t.reasons
  reasons_again = by_code (λ c. get_or t.reasons (index c) 0) NONE t.reasons g.lengths.reasons_long (λ i h. refl) g.no_reason

  same_long : length t.levels ≡ length t.values
  same_long = g.lengths.levels_long ∙ sym g.lengths.values_long

  known_is : (i : ℕ) → i < t.len → get_or (assigned_levels t.values t.levels) (var_at t i) 0 ≡ get_or t.levels (var_at t i) 0
  known_is i h = known_at t.values t.levels (var_at t i) same_long (omega (arith, g.codes_in i h, g.lengths.values_long)) ∙ rw (lt-ltb (get_or t.values (var_at t i) 0) unassigned (omega (arith, g.agrees i h)))

  levels_again : stores (replicate n NONE) vs (map (λ c. get_or t.levels (index c) 0) codes) ≡ assigned_levels t.values t.levels
  levels_again =
      by_code (λ c. get_or t.levels (index c) 0) NONE (assigned_levels t.values t.levels) (known_length t.values t.levels same_long ∙ g.lengths.values_long) known_is
      (λ w b e. known_at t.values t.levels w same_long (omega (arith, g.lengths.values_long)) ∙ rw (le-ltb (get_or t.values w 0) unassigned (omega arith)))

  abbrev os : List ℕ
  os = take t.level t.opened

  os_length : length os ≡ t.level
  os_length = length-take-le t.level t.opened (omega (arith, g.lengths.opened_long, g.level_in))

  os_at : (k : ℕ) → k < t.level → get_or os k 0 ≡ get_or t.opened k 0
  os_at k h = get_or-take t.level t.opened k 0 h

  counted_same : (i : ℕ) → not_above t.opened t.level i ≡ not_above os (length os) i
  unfolding not_above
  counted_same i = rw os_length (count_same _ _ t.level (λ k h. rw (os_at k h)))

  opened_again : openings 0 0 (map (λ c. get_or t.levels (index c) 0) codes) ≡ os
  opened_again =
      let f : ℕ → ℕ = λ c. get_or t.levels (index c) 0 in
      let long : length (map f codes) ≡ t.len = length-map codes f ∙ codes_length in
      openings_are (map f codes) os 0 0
      (λ j h.
      let b : j < t.len = omega arith in
      let z : 0 + j ≡ j = omega arith in
      let level : get_or (map f codes) j 0 ≡ not_above os (length os) j = get_or_mapped f codes j 0 0 (omega (arith, codes_length)) ∙ ap f (code_is j b) ∙ g.levels_good j b ∙ counted_same j in
      rw z (omega arith))
      (λ k h. let b : k < t.level = omega (arith, os_length) in (omega arith, omega (arith, os_at k b, g.below k b)))
      (λ j k a h. let b : k < t.level = omega (arith, os_length) in omega (arith, os_at k b, os_at j (omega arith), g.rising j k a b))

  -- written and read
  pub trail_again : (mode : Mode) (lits ends : List ℕ) (rows : List (List ℕ)) → trail_said (saved_of mode n lits ends t rows) ≡ forgot t
  unfolding saved_of forgot
  trail_again mode lits ends rows =
      let opened : padded n (openings 0 0 (along codes t.levels)) ≡ t.opened = rw opened_again (whole_again n t.level t.opened g.lengths.opened_long g.level_in g.opened_unused) in
      let level : length (openings 0 0 (along codes t.levels)) ≡ t.level = rw opened_again os_length in
      let trail : padded n codes ≡ t.trail = whole_again n t.len t.trail g.lengths.trail_long g.len_in g.trail_unused in
      λ i. record {
        values = values_again i;
        levels = levels_again i;
        reasons = reasons_again i;
        trail = trail i;
        opened = opened i;
        len = codes_length i;
        level = level i;
        curr = t.curr;
      }

  -- the levels of unassigned variables do not matter
  pub forgot_good : GoodTrail n m (forgot t)
  unfolding forgot
  forgot_good = record {
    lengths = record {
      values_long = g.lengths.values_long;
      levels_long = known_length t.values t.levels same_long ∙ g.lengths.values_long;
      reasons_long = g.lengths.reasons_long;
      trail_long = g.lengths.trail_long;
      opened_long = g.lengths.opened_long;
    };
    values_good = g.values_good;
    reasons_good = g.reasons_good;
    no_reason = g.no_reason;
    len_in = g.len_in;
    level_in = g.level_in;
    curr_in = g.curr_in;
    codes_in = g.codes_in;
    agrees = g.agrees;
    held = g.held;
    once = g.once;
    rising = g.rising;
    below = g.below;
    levels_good = λ i h. known_is i h ∙ g.levels_good i h;
    trail_unused = g.trail_unused;
    opened_unused = g.opened_unused;
  }

-- ---- what is written has the form
count_most : (p : ℕ → Bool) (k : ℕ) → count p k ≤ k
unfolding count
count_most p zero = omega arith
count_most p (suc k) = true_or_false (p k) (λ t. rw t (omega (arith, count_most p k))) (λ f. rw f (omega (arith, count_most p k)))

module _ {n m : ℕ} {t : Trail} (g : GoodTrail n m t) where
  pub level_in : (i : ℕ) → i < t.len → get_or t.levels (var_at t i) 0 ≤ n
  unfolding not_above
  level_in i b = rw (g.levels_good i b) (omega (arith, count_most (λ k. leb (get_or t.opened k 0) i) t.level, g.level_in))

  -- what holds of each code, and of what a list holds for its variable
  pub each_code : (P : ℕ → Type 0) → ((c : ℕ) → index c < n → P c) → Each P (codes_of t)
  each_code P f = each_of P (codes_of t) 0 (λ i h. (let b : i < t.len = omega (arith, codes_length g) in rw (code_is g i b) (f (get_or t.trail i 0) (g.codes_in i b))))

  pub each_along : (P : ℕ → Type 0) (l : List ℕ) → ((i : ℕ) → i < t.len → P (get_or l (var_at t i) 0)) → Each P (along (codes_of t) l)
  each_along P l f = each_mapped P (λ c. get_or l (index c) 0) (codes_of t) 0 (λ i h. (let b : i < t.len = omega (arith, codes_length g) in rw (code_is g i b) (f i b)))

  pub along_length : (l : List ℕ) → length (along (codes_of t) l) ≡ length (codes_of t)
  along_length l = length-map (codes_of t) (λ c. get_or l (index c) 0)

  pub each_reason : Each (IsReason m) (along (codes_of t) t.reasons)
  each_reason = each_along (IsReason m) t.reasons (λ i b. g.reasons_good (var_at t i) (g.codes_in i b))

  module _ (small : n ≤ max_vars) (few : m ≤ NONE) where
    reason_whole : (r : ℕ) → IsReason m r → Whole r
    reason_whole r (inl h) = omega arith
    reason_whole r (inr e) = omega arith

    pub codes_formed : Row trail_form (codes_of t)
    codes_formed = (tt, each_code Whole (λ c h. omega arith))

    pub trail_formed : (fs : List Form) (rows : List (List ℕ)) → Rows fs rows → Rows (form 108 whole (length (codes_of t)) ∷ form 114 reason (length (codes_of t)) ∷ form 113 whole 1 ∷ fs) (trail_rows t ++ rows)
    unfolding Rows
    trail_formed fs rows r =
        let levels = each_along Whole t.levels (λ i b. omega (arith, level_in i b)) in
        let reasons = each_along Whole t.reasons (λ i b. reason_whole _ (g.reasons_good (var_at t i) (g.codes_in i b))) in
        ((along_length t.levels, levels), ((along_length t.reasons, reasons), ((refl, (omega (arith, g.curr_in, g.len_in), tt)), r)))

-- ---- what a text says
openings_few : (i l : ℕ) (xs : List ℕ) → length (openings i l xs) ≤ length xs
unfolding openings
openings_few i l [] = omega arith
openings_few i l (x ∷ xs) = true_or_false (ltb l x) (λ t. rw t (omega (arith, openings_few (i + 1) x xs))) (λ f. rw f (omega (arith, openings_few (i + 1) x xs)))

module _ (s : Saved) (w : WellFormed s) where
  -- has the lengths, where there is room
  pub trail_lengths_lem : length s.codes ≤ s.opening.vars → Sized s.opening.vars (trail_said s)
  trail_lengths_lem h = record {
    values_long = stored_length _ _ _ _;
    levels_long = stored_length _ _ _ _;
    reasons_long = stored_length _ _ _ _;
    trail_long = padded_length _ s.codes h;
    opened_long = padded_length _ (openings 0 0 (row s 0)) (omega (arith, openings_few 0 0 (row s 0), (line s w s.opening.mode refl 0 (omega arith)).0));
  }

  -- read and written
  module _ {m : ℕ} (g : GoodTrail s.opening.vars m (trail_said s)) where
    pub codes_back : codes_of (trail_said s) ≡ s.codes
    codes_back = in_use s.opening.vars s.codes

    column : (xs : List ℕ) → length xs ≡ length s.codes → along (codes_of (trail_said s)) (stores (replicate s.opening.vars NONE) (map index s.codes) xs) ≡ xs
    column xs e =
        let vs = map index s.codes in
        let a : Apart s.opening.vars vs = rw codes_back at (apart g) in
        rw codes_back (sym (mapped_mapped index (λ v. get_or (stores (replicate s.opening.vars NONE) vs xs) v 0) s.codes) ∙ read_back_lem NONE vs xs 0 a (e ∙ sym (length-map s.codes index)))

    pub trail_back : trail_rows (trail_said s) ≡ row s 0 ∷ row s 1 ∷ row s 2 ∷ []
    trail_back =
        let levels = column (row s 0) (line s w s.opening.mode refl 0 (omega arith)).0 in
        let reasons = column (row s 1) (line s w s.opening.mode refl 1 (omega arith)).0 in
        let curr = sym (one_number (row s 2) (line s w s.opening.mode refl 2 (omega arith)).0) in
        λ i. levels i ∷ reasons i ∷ curr i ∷ []
