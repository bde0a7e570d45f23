-- Counting whole numbers parted by tabs, from the front: what is left still decides. The laws that the loop cites. Assumes nothing.
use Rattle.std.specs.Prelude.{◌≡◌, ℕ, ◌+◌, ◌<◌, ◌≤◌, List, [], ◌∷◌, ◌++◌, length, take, drop, slice_set, Some, None, refl}
use Rattle.std.proofs.Common.{sym, ap, ◌∙◌, arith, add-one, length-append, length-drop, length-set, take-suc-set, drop-drop}
use Rattle.std.proofs.Math.Option.{Option, none, some}
use Rattle.std.proofs.Math.Seq.{append_snoc}
use Rattle.forms.specs.Text.{tab, find, fields, number}
use Rattle.forms.specs.Forms.{given, numbers}
use Rattle.forms.specs.Laws.{numbers_last, numbers_found, numbers_bad}
use Rattle.forms.specs.Read.{Counted}

-- The numbers before `at` were read, n of them, and stand in out as far as it has room; those from there on follow.
pub record SoFar (bytes out : List ℕ) (n at : ℕ) : Type 0 where
  pub done : List ℕ
  pub within : at ≤ length bytes
  pub few : n ≤ at
  pub count : length done ≡ n
  pub held : n ≤ length out → take n out ≡ done
  pub rest : numbers (fields bytes) ≡ given (numbers (fields (drop at bytes))) (λ ns. some (done ++ ns))

given_back : (o : Option (List ℕ)) → o ≡ given o (λ ns. some ns)
given_back none = refl
given_back (some ns) = refl

given_snoc : (o : Option (List ℕ)) (done : List ℕ) (v : ℕ) → given (given o (λ ns. some (v ∷ ns))) (λ ns. some (done ++ ns)) ≡ given o (λ ns. some ((done ++ (v ∷ [])) ++ ns))
given_snoc none done v = refl
given_snoc (some ns) done v = ap some (sym (append_snoc done v ns))

module _ (bytes out : List ℕ) where
  pub so_far_none : SoFar bytes out 0 0
  so_far_none = record { done = []; within = omega arith; few = omega arith; count = refl; held = λ h. refl; rest = given_back (numbers (fields bytes)) }

  module _ (n at : ℕ) (s : SoFar bytes out n at) where
    abbrev left : List ℕ
    left = drop at bytes

    abbrev end : ℕ
    end = find tab left

    pub count_none : number (take end left) ≡ none → Counted (numbers (fields bytes)) None out
    count_none e = rw (s.rest, numbers_bad left e)

    module _ (v : ℕ) (e : number (take end left) ≡ some v) where
      one_more : length (s.done ++ (v ∷ [])) ≡ n + 1
      one_more = simp length-append (omega (arith, s.count))

      held_more : n + 1 ≤ length (slice_set out n v) → take (n + 1) (slice_set out n v) ≡ s.done ++ (v ∷ [])
      held_more h =
          let l : n < length out = omega (arith, length-set out n v) in
          rw (add-one, take-suc-set out n v l, s.held (omega arith))

      pub count_last : end ≡ length left → Counted (numbers (fields bytes)) (Some (n + 1)) (slice_set out n v)
      count_last h = rw (s.rest, numbers_last left v h e, one_more) (refl, held_more)

      pub count_next : end < length left → SoFar bytes (slice_set out n v) (n + 1) (at + end + 1)
      count_next h =
          record {
            done = s.done ++ (v ∷ []);
            within = omega (arith, length-drop at bytes);
            few = omega (arith, s.few);
            count = one_more;
            held = held_more;
            rest =
                let place : at + (end + 1) ≡ at + end + 1 = omega arith in
                s.rest ∙ rw (numbers_found left v h e, drop-drop (end + 1) at bytes, place) (given_snoc (numbers (fields (drop (at + end + 1) bytes))) s.done v);
          }
