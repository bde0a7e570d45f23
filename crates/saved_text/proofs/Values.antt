-- The values of a list of numbers: one for each, in its order.
use Rattle.std.specs.Prelude.{ℕ, ◌<◌, ◌≡◌, List, map, length, get_or, set}
use Rattle.std.proofs.Common.{sym, ap, ◌∙◌, arith}
use Rattle.std.proofs.lemmas.List.{map-set, length-map, get_or-map}

module _ {N : Type 0} {value : N → ℕ} {values : List N → List ℕ} (each : (l : List N) → values l ≡ map value l) where
  pub values_set : (l : List N) (i : ℕ) (v : N) → values (set l i v) ≡ set (values l) i (value v)
  values_set l i v = rw (each (set l i v), each l) (map-set value l i v)

  pub values_length : (l : List N) → length (values l) ≡ length l
  values_length l = rw (each l) (length-map l value)

  pub values_within : (l : List N) (i : ℕ) → i < length l → i < length (values l)
  values_within l i h = omega (arith, values_length l)

  -- the value of a number at its place
  pub value_at : (l : List N) (i : ℕ) (x : N) → i < length l → x ≡ get_or l i x → get_or (values l) i 0 ≡ value x
  value_at l i x h e = rw (each l) (get_or-map value l i x 0 h) ∙ ap value (sym e)
