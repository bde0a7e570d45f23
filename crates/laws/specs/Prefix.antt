-- A list that starts as another one and then holds one value. Assumes nothing.
use Rattle.std.specs.Prelude.{◌≡◌, List, ◌++◌, ℕ, ◌+◌, ◌-◌, ◌≤◌, ◌<◌, length, get_or, take, replicate}
use Rattle.std.proofs.Common.{sym, ap, ◌∙◌, arith, length-append, length-take-le, get_or-take, get_or-append-add, ext_get_or}
use Rattle.std.proofs.Math.Logic.{by_cases}
use Rattle.std.proofs.Math.Decide.{dec_lt}
use Rattle.std.proofs.lemmas.List.{length-replicate, get_or-replicate}
use Rattle.std.proofs.Math.ListN.{get_or-append}

module _ {A : Type 0} (n k : ℕ) (l u : List A) (x d : A) where
  -- of two lists of length n: the first k places of u are those of l, the others hold x
  pub prefix_is : length l ≡ n → length u ≡ n → k ≤ n → ((i : ℕ) → i < k → get_or u i d ≡ get_or l i d) → ((i : ℕ) → k ≤ i → i < n → get_or u i d ≡ x) → u ≡ take k l ++ replicate (n - k) x
  prefix_is e q h f g =
      let r = replicate (n - k) x in
      let z : length (take k l) ≡ k = length-take-le k l (omega arith) in
      ext_get_or d u (take k l ++ r) (omega (arith, length-append (take k l) r, length-replicate (n - k) x)) (λ i b. by_cases (dec_lt i k)
      (λ c. f i c ∙ sym (get_or-append (take k l) r d i (omega arith) ∙ get_or-take k l i d c))
      (λ c.
      let j : i ≡ length (take k l) + (i - k) = omega arith in
      g i (omega arith) (omega arith) ∙ sym (ap (λ (y : ℕ). get_or (take k l ++ r) y d) j ∙ get_or-append-add (take k l) r (i - k) d ∙ get_or-replicate (n - k) (i - k) x d (omega arith))))
