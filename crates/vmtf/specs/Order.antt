-- Plain orders of variables: how often a variable stands in one, taking it out and putting it first, and who stands beside it.
-- Assumes nothing.
use Rattle.std.specs.Prelude.{ℕ, zero, suc, ◌-◌, ◌<◌, ◌≤◌, ◌≡◌, ◌≢◌, cond, length, get_or, eqb}
use Rattle.std.proofs.Math.Path.{refl, sym}
use Rattle.std.proofs.Common.{ap, subst, ◌∙◌, arith}
use Rattle.std.proofs.Math.Logic.{by_cases}
use mathlib.Core.List.{List, [], ◌∷◌}
use Rattle.std.proofs.Math.Decide.{ℕ_discrete}
use borrow.Author.Tests.{eq-eqb, ne_eqb}
use Rattle.laws.specs.Tests.{cond_elim}
use Rattle.lit.specs.Numbers.{NONE}
use Rattle.vmtf.specs.Vmtf.{first}

-- how often v stands in an order
unfoldable pub count : ℕ → List ℕ → ℕ
count v [] = 0
count v (x ∷ xs) = cond (eqb x v) (suc (count v xs)) (count v xs)

-- the order without v
unfoldable pub remove : ℕ → List ℕ → List ℕ
remove v [] = []
remove v (x ∷ xs) = cond (eqb x v) xs (x ∷ remove v xs)

-- v taken out and put first
abbrev pub to_front : ℕ → List ℕ → List ℕ
to_front v o = v ∷ remove v o

-- each of a group in turn
unfoldable pub all_to_front : List ℕ → List ℕ → List ℕ
all_to_front [] o = o
all_to_front (v ∷ vs) o = all_to_front vs (to_front v o)

-- the one after v, and the one before v where p stands before the order; NONE at the ends
unfoldable pub after : ℕ → List ℕ → ℕ
after v [] = NONE
after v (x ∷ xs) = cond (eqb x v) (first xs) (after v xs)

unfoldable pub before : ℕ → ℕ → List ℕ → ℕ
before p v [] = NONE
before p v (x ∷ xs) = cond (eqb x v) p (before x v xs)

-- ---- the first of an order is v, or another

module _ (v x : ℕ) (xs : List ℕ) where
  pub count_here : x ≡ v → count v (x ∷ xs) ≡ suc (count v xs)
  unfolding count
  count_here e = rw (eq-eqb x v e)

  pub count_there : x ≢ v → count v (x ∷ xs) ≡ count v xs
  unfolding count
  count_there n = rw (ne_eqb x v n)

  remove_here : x ≡ v → remove v (x ∷ xs) ≡ xs
  unfolding remove
  remove_here e = rw (eq-eqb x v e)

  remove_there : x ≢ v → remove v (x ∷ xs) ≡ x ∷ remove v xs
  unfolding remove
  remove_there n = rw (ne_eqb x v n)

  pub after_here : x ≡ v → after v (x ∷ xs) ≡ first xs
  unfolding after
  after_here e = rw (eq-eqb x v e)

  pub after_there : x ≢ v → after v (x ∷ xs) ≡ after v xs
  unfolding after
  after_there n = rw (ne_eqb x v n)

  pub before_here : (p : ℕ) → x ≡ v → before p v (x ∷ xs) ≡ p
  unfolding before
  before_here p e = rw (eq-eqb x v e)

  pub before_there : (p : ℕ) → x ≢ v → before p v (x ∷ xs) ≡ before x v xs
  unfolding before
  before_there p n = rw (ne_eqb x v n)

  -- what stands in the rest stands in the whole
  pub count_more : count v xs ≤ count v (x ∷ xs)
  count_more = by_cases (ℕ_discrete x v) (λ e. omega (arith, count_here e)) (λ n. omega (arith, count_there n))

pub count_head : (x : ℕ) (xs : List ℕ) → 0 < count x (x ∷ xs)
count_head x xs = omega (arith, count_here x x xs refl)

pub count_nil : (v : ℕ) → count v [] ≡ 0
unfolding count
count_nil v = refl

pub count_cons : (w x : ℕ) (a b : List ℕ) → count w a ≡ count w b → count w (x ∷ a) ≡ count w (x ∷ b)
unfolding count
count_cons w x a b e = rw e

pub count_swap : (w x y : ℕ) (o : List ℕ) → count w (x ∷ y ∷ o) ≡ count w (y ∷ x ∷ o)
count_swap w x y o =
    by_cases (ℕ_discrete x w)
    (λ e. count_here w x (y ∷ o) e ∙ by_cases (ℕ_discrete y w) (λ f. omega (arith, count_here w y o f, count_here w y (x ∷ o) f, count_here w x o e)) (λ n. omega (arith, count_there w y o n, count_there w y (x ∷ o) n, count_here w x o e)))
    (λ d. count_there w x (y ∷ o) d ∙ sym (count_cons w y (x ∷ o) o (count_there w x o d)))

-- what holds at every place holds of every one that stands in the order
pub at_every : (P : ℕ → Type 0) (o : List ℕ) → ((i : ℕ) → i < length o → P (get_or o i 0)) → (v : ℕ) → 0 < count v o → P v
at_every P [] f v h = absurd (omega (arith, count_nil v))
at_every P (x ∷ xs) f v h =
    by_cases (ℕ_discrete x v)
    (λ e. subst P e (f 0 (omega arith)))
    (λ d. at_every P xs (λ i b. f (suc i) (omega arith)) v (omega (arith, count_there v x xs d)))

pub every_at : (o : List ℕ) (i : ℕ) → i < length o → 0 < count (get_or o i 0) o
every_at [] i h = absurd (omega arith)
every_at (x ∷ xs) zero h = count_head x xs
every_at (x ∷ xs) (suc i) h = omega (arith, every_at xs i (omega arith), count_more (get_or xs i 0) x xs)

-- ---- taking out

pub remove_count_same : (v : ℕ) (o : List ℕ) → count v (remove v o) ≡ count v o - 1
unfolding count remove
remove_count_same v [] = refl
remove_count_same v (x ∷ xs) =
    by_cases (ℕ_discrete x v)
    (λ e. rw (eq-eqb x v e) (omega arith))
    (λ n. rw (ne_eqb x v n) (count_there v x (remove v xs) n ∙ remove_count_same v xs))

remove_count_other : (v w : ℕ) (o : List ℕ) → w ≢ v → count w (remove v o) ≡ count w o
unfolding remove
remove_count_other v w [] d = refl
remove_count_other v w (x ∷ xs) d =
    by_cases (ℕ_discrete x v)
    (λ e. rw (eq-eqb x v e) (sym (count_there w x xs (λ q. d (sym q ∙ e)))))
    (λ n. rw (ne_eqb x v n) (by_cases (ℕ_discrete x w)
    (λ e. count_here w x (remove v xs) e ∙ ap suc (remove_count_other v w xs d) ∙ sym (count_here w x xs e))
    (λ m. count_there w x (remove v xs) m ∙ remove_count_other v w xs d ∙ sym (count_there w x xs m))))

-- a move changes no count
pub front_count : (v w : ℕ) (o : List ℕ) → 0 < count v o → count w (to_front v o) ≡ count w o
front_count v w o h =
    by_cases (ℕ_discrete v w)
    (λ e. count_here w v (remove v o) e ∙ (let q : count w (remove w o) ≡ count w o - 1 = remove_count_same w o in rw e (omega (arith, q, rw e at h))))
    (λ n. count_there w v (remove v o) n ∙ remove_count_other v w o (λ q. n (sym q)))

pub first_remove : (v : ℕ) (o : List ℕ) → first o ≢ v → first (remove v o) ≡ first o
unfolding remove
first_remove v [] d = refl
first_remove v (x ∷ xs) d = rw (ne_eqb x v d)

-- a variable at the front is there already
pub front_front : (v : ℕ) (o : List ℕ) → v ≡ first o → v ≢ NONE → to_front v o ≡ o
unfolding remove
front_front v [] e d = absurd (d e)
front_front v (x ∷ xs) e d = rw (e, eq-eqb x x refl)

-- ---- who stands beside it

pub first_in : (o : List ℕ) → first o ≢ NONE → 0 < count (first o) o
first_in [] d = absurd (d refl)
first_in (x ∷ xs) d = count_head x xs

pub first_var : (o : List ℕ) → 0 < length o → 0 < count (first o) o
first_var [] h = absurd (omega arith)
first_var (x ∷ xs) h = count_head x xs

-- the one after is NONE or in the order
pub after_in : (v : ℕ) (o : List ℕ) → after v o ≢ NONE → 0 < count (after v o) o
unfolding after
after_in v [] d = absurd (d refl)
after_in v (x ∷ xs) d = cond_elim (λ (a : ℕ). a ≢ NONE → 0 < count a (x ∷ xs)) (eqb x v)
    (λ _ d. omega (arith, first_in xs d, count_more (first xs) x xs))
    (λ _ d. omega (arith, after_in v xs d, count_more (after v xs) x xs)) d

-- the one before is p, NONE or in the order
before_in : (p v : ℕ) (o : List ℕ) → before p v o ≢ p → before p v o ≢ NONE → 0 < count (before p v o) o
unfolding before
before_in p v [] a b = absurd (b refl)
before_in p v (x ∷ xs) a b = cond_elim (λ (u : ℕ). u ≢ p → u ≢ NONE → 0 < count u (x ∷ xs)) (eqb x v)
    (λ _ a b. absurd (a refl))
    (λ _ a b. by_cases (ℕ_discrete (before x v xs) x) (λ e. rw e (count_head x xs)) (λ n. omega (arith, before_in x v xs n b, count_more (before x v xs) x xs))) a b

-- one that is not at the front has one before it
pub before_some : (p v : ℕ) (o : List ℕ) → 0 < count v o → v ≢ first o → 0 < count (before p v o) o
before_some p v [] h d = absurd (omega (arith, count_nil v))
before_some p v (x ∷ xs) h d =
    let n : x ≢ v = λ e. d (sym e) in
    rw (before_there v x xs p n)
    (by_cases (ℕ_discrete v (first xs)) (λ e. rw (head xs e (omega (arith, count_there v x xs n, h))) (count_head x xs))
    (λ m. omega (arith, before_some x v xs (omega (arith, count_there v x xs n, h)) m, count_more (before x v xs) x xs)))
  where
    head : (ys : List ℕ) → v ≡ first ys → 0 < count v ys → before x v ys ≡ x
    head [] e k = absurd (omega (arith, count_nil v))
    head (y ∷ ys) e k = before_here v y ys x (sym e)

-- p matters to the first alone
pub before_other : (p q v : ℕ) (o : List ℕ) → v ≢ first o → before p v o ≡ before q v o
unfolding before
before_other p q v [] d = refl
before_other p q v (x ∷ xs) d = rw (ne_eqb x v (λ e. d (sym e)))

pub before_first : (p v : ℕ) (o : List ℕ) → v ≡ first o → v ≢ NONE → before p v o ≡ p
before_first p v [] e d = absurd (d e)
before_first p v (x ∷ xs) e d = before_here v x xs p (sym e)

-- what does not stand in the order stands before none but the first
before_not : (p u v : ℕ) (o : List ℕ) → u ≢ NONE → count u o ≡ 0 → v ≢ first o → before p v o ≢ u
unfolding before
before_not p u v [] d c n e = d (sym e)
before_not p u v (x ∷ xs) d c n e =
    let f : before x v xs ≡ u = sym (before_there v x xs p (λ z. n (sym z))) ∙ e in
    by_cases (ℕ_discrete x u) (λ q. omega (arith, count_here u x xs q))
    (λ m. omega (arith, count_there u x xs m, rw f at (before_in x v xs (λ r. m (sym r ∙ f)) (λ r. d (sym f ∙ r)))))

-- a variable stands beside itself nowhere
pub after_self : (v : ℕ) (o : List ℕ) → v ≢ NONE → count v o ≤ 1 → after v o ≢ v
unfolding after
after_self v [] d c e = d (sym e)
after_self v (x ∷ xs) d c e =
    by_cases (ℕ_discrete x v)
    (λ q.
    let f : first xs ≡ v = sym (after_here v x xs q) ∙ e in
    omega (arith, count_here v x xs q, rw f at (first_in xs (λ z. d (sym f ∙ z)))))
    (λ n. after_self v xs d (omega (arith, count_there v x xs n)) (sym (after_there v x xs n) ∙ e))

-- ---- the two sides agree

pub after_before : (u v p : ℕ) (o : List ℕ) → v ≢ NONE → count v o ≤ 1 → after u o ≡ v → before p v o ≡ u
unfolding after
after_before u v p [] d c e = absurd (d (sym e))
after_before u v p (x ∷ xs) d c e = by_cases (ℕ_discrete x u) here (there (after_before u v x xs d))
  where
    -- where v stands behind x, x is not v
    not_here : 0 < count v xs → x ≢ v
    not_here h q = omega (arith, count_here v x xs q)

    here : x ≡ u → before p v (x ∷ xs) ≡ u
    here q =
        let f : first xs ≡ v = sym (after_here u x xs q) ∙ e in
        let h : 0 < count v xs = rw f at (first_in xs (λ z. d (sym f ∙ z))) in
        before_there v x xs p (not_here h) ∙ before_first x v xs (sym f) d ∙ q

    there : (count v xs ≤ 1 → after u xs ≡ v → before x v xs ≡ u) → x ≢ u → before p v (x ∷ xs) ≡ u
    there ih n =
        let f : after u xs ≡ v = sym (after_there u x xs n) ∙ e in
        let h : 0 < count v xs = rw f at (after_in u xs (λ z. d (sym f ∙ z))) in
        before_there v x xs p (not_here h) ∙ ih (omega (arith, count_more v x xs)) f

pub before_after : (u v p : ℕ) (o : List ℕ) → u ≢ p → u ≢ NONE → count u o ≤ 1 → before p v o ≡ u → after u o ≡ v
unfolding before
before_after u v p [] a b c e = absurd (b (sym e))
before_after u v p (x ∷ xs) a b c e =
    by_cases (ℕ_discrete x v)
    (λ q. absurd (a (sym e ∙ before_here v x xs p q)))
    (λ n.
    let f : before x v xs ≡ u = sym (before_there v x xs p n) ∙ e in
    by_cases (ℕ_discrete u x)
    (λ q.
    let none : count u xs ≡ 0 = omega (arith, count_here u x xs (sym q)) in
    after_here u x xs (sym q) ∙ by_cases (ℕ_discrete v (first xs)) (λ z. sym z) (λ m. absurd (before_not x u v xs b none m f)))
    (λ m. after_there u x xs (λ z. m (sym z)) ∙ before_after u v x xs m b (omega (arith, count_more u x xs)) f))

-- ---- who stands beside w when v is taken out

module _ (v w : ℕ) (some : v ≢ NONE) (real : w ≢ NONE) (other : w ≢ v) where
  -- the one after v closes up
  first_cut : (o : List ℕ) → first o ≡ v → first (remove v o) ≡ after v o
  first_cut [] z = absurd (some (sym z))
  first_cut (x ∷ xs) z = rw (remove_here v x xs z, after_here v x xs z)

  pub after_cut : (o : List ℕ) → count v o ≤ 1 → after w o ≡ v → after w (remove v o) ≡ after v o
  unfolding after
  after_cut [] c e = absurd (some (sym e))
  after_cut (x ∷ xs) c e =
      by_cases (ℕ_discrete x v)
      (λ q.
      let f : after w xs ≡ v = sym (after_there w x xs (λ z. other (sym z ∙ q))) ∙ e in
      absurd (omega (arith, count_here v x xs q, rw f at (after_in w xs (λ z. some (sym f ∙ z))))))
      (λ n. rw (remove_there v x xs n, ne_eqb x v n) (by_cases (ℕ_discrete x w)
      (λ q. after_here w x (remove v xs) q ∙ first_cut xs (sym (after_here w x xs q) ∙ e))
      (λ m. after_there w x (remove v xs) m ∙ after_cut xs (omega (arith, count_there v x xs n)) (sym (after_there w x xs m) ∙ e))))

  pub after_kept : (o : List ℕ) → after w o ≢ v → after w (remove v o) ≡ after w o
  unfolding remove
  after_kept [] d = refl
  after_kept (x ∷ xs) d =
      by_cases (ℕ_discrete x v)
      (λ q. rw (eq-eqb x v q) (sym (after_there w x xs (λ z. other (sym z ∙ q)))))
      (λ n. rw (ne_eqb x v n) (by_cases (ℕ_discrete x w)
      (λ q. after_here w x (remove v xs) q ∙ first_remove v xs (λ z. d (after_here w x xs q ∙ z)) ∙ sym (after_here w x xs q))
      (λ m. after_there w x (remove v xs) m ∙ after_kept xs (λ z. d (after_there w x xs m ∙ z)) ∙ sym (after_there w x xs m))))

  pub before_cut : (p : ℕ) (o : List ℕ) → p ≢ v → count v o ≤ 1 → before p w o ≡ v → before p w (remove v o) ≡ before p v o
  unfolding before
  before_cut p [] a c e = absurd (some (sym e))
  before_cut p (x ∷ xs) a c e =
      by_cases (ℕ_discrete x v)
      (λ q.
      let f : before x w xs ≡ v = sym (before_there w x xs p (λ z. other (sym z ∙ q))) ∙ e in
      let none : count v xs ≡ 0 = omega (arith, count_here v x xs q) in
      rw (remove_here v x xs q, eq-eqb x v q)
      (by_cases (ℕ_discrete w (first xs)) (λ z. before_first p w xs z real) (λ m. absurd (before_not x v w xs some none m f))))
      (λ n. rw (remove_there v x xs n, ne_eqb x v n) (by_cases (ℕ_discrete x w)
      (λ q. absurd (a (sym (before_here w x xs p q) ∙ e)))
      (λ m. before_there w x (remove v xs) p m ∙ before_cut x xs n (omega (arith, count_there v x xs n)) (sym (before_there w x xs p m) ∙ e))))

  pub before_kept : (p : ℕ) (o : List ℕ) → before p w o ≢ v → before p w (remove v o) ≡ before p w o
  unfolding remove
  before_kept p [] d = refl
  before_kept p (x ∷ xs) d =
      by_cases (ℕ_discrete x v)
      (λ q.
      let e : before p w (x ∷ xs) ≡ before x w xs = before_there w x xs p (λ z. other (sym z ∙ q)) in
      rw (eq-eqb x v q) (before_other p x w xs (λ z. d (e ∙ before_first x w xs z real ∙ q)) ∙ sym e))
      (λ n. rw (ne_eqb x v n) (by_cases (ℕ_discrete x w)
      (λ q. before_here w x (remove v xs) p q ∙ sym (before_here w x xs p q))
      (λ m. before_there w x (remove v xs) p m ∙ before_kept x xs (λ z. d (before_there w x xs p m ∙ z)) ∙ sym (before_there w x xs p m))))
