-- Lists put together from parts, as a slice's is when `&mut a[..n]` or `&mut a[n..]` was lent: how long it is and what stands where. Assumes nothing.
use Rattle.std.specs.Prelude.{◌≡◌, refl, List, ◌∷◌, ◌++◌, ℕ, zero, suc, ◌+◌, ◌-◌, ◌<◌, ◌≤◌, length, get_or, take, drop, replicate}
use Rattle.std.proofs.Common.{ap, sym, subst, ◌∙◌, append-nil, arith, add-one, length-append, length-drop, drop_of_length-le, take-append-drop, drop-cons, get_or-drop, get_or-append-add, take_all, take_at, drop_at}
use Rattle.std.proofs.Math.ListN.{get_or-append}

-- what is left of a list from place i on: the element there, and what is left behind it
pub drop_next : (l : List ℕ) (i : ℕ) → i < length l → drop i l ≡ get_or l i 0 ∷ drop (i + 1) l
drop_next l i h = rw (add-one, drop-cons l i 0 h)

-- a part up to the end is what is left
pub to_end : (n : ℕ) (l : List ℕ) → take (length l - n) (drop n l) ≡ drop n l
to_end n l = take_all (length l - n) (drop n l) (omega (arith, length-drop n l))

-- a first part p of n elements
module _ {A : Type 0} (p : List A) (n : ℕ) (e : length p ≡ n) where
  pub first_at : (r : List A) (i : ℕ) (d : A) → i < n → get_or (p ++ r) i d ≡ get_or p i d
  first_at r i d q = get_or-append p r d i (omega arith)

  pub second_at : (r : List A) (j : ℕ) (d : A) → n ≤ j → get_or (p ++ r) j d ≡ get_or r (j - n) d
  second_at r j d q =
      let s : j ≡ length p + (j - n) = omega arith in
      subst (λ (k : ℕ). get_or (p ++ r) k d ≡ get_or r (j - n) d) (sym s) (get_or-append-add p r (j - n) d)

  -- behind `&mut a[..n]` nothing has changed
  pub behind_at : (l : List A) (j : ℕ) (d : A) → n ≤ j → get_or (p ++ drop n l) j d ≡ get_or l j d
  behind_at l j d q = let t : n + (j - n) ≡ j = omega arith in second_at (drop n l) j d q ∙ get_or-drop n l (j - n) d ∙ ap (λ (k : ℕ). get_or l k d) t

  -- what `&mut a[n..]` lends then, and what a is once it has come back as r
  pub back_part : (l : List A) → take (length (p ++ drop n l) - n) (drop n (p ++ drop n l)) ≡ drop n l
  back_part l = rw (drop_at p (drop n l) n e) (take_all (length (p ++ drop n l) - n) (drop n l) (simp length-append (omega arith)))

  pub back_put : (l r : List A) → take n (p ++ drop n l) ++ (r ++ drop (length (p ++ drop n l) - n) (drop n (p ++ drop n l))) ≡ p ++ r
  back_put l r =
      let none : length (drop n l) ≤ length (p ++ drop n l) - n = simp length-append (omega arith) in
      rw (take_at p (drop n l) n e, drop_at p (drop n l) n e, drop_of_length-le (drop n l) none) (ap (λ (z : List A). p ++ z) (append-nil r))

-- a is as long as before once the part that `&mut a[..n]` lent has come back as p
pub rejoined : {A : Type 0} (n : ℕ) (l p : List A) → length p ≡ length (take n l) → length (p ++ drop n l) ≡ length l
rejoined n l p e = length-append p (drop n l) ∙ rw e (sym (length-append (take n l) (drop n l)) ∙ ap length (take-append-drop n l))

-- the first part of equal elements
pub take_replicate : {A : Type 0} (x : A) (n m : ℕ) → n ≤ m → take n (replicate m x) ≡ replicate n x
take_replicate x zero m l = refl
take_replicate x (suc n) zero l = absurd (omega arith)
take_replicate {A} x (suc n) (suc m) l = ap (λ (t : List A). x ∷ t) (take_replicate x n m (omega arith))
