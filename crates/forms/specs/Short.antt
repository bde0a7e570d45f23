-- A line with many numbers is long: each takes a byte at least and a tab before it. Assumes nothing.
use Rattle.std.specs.Prelude.{◌≡◌, ℕ, ◌+◌, ◌*◌, ◌≤◌, List, [], ◌∷◌, ◌++◌, length, drop, ◌==◌, refl}
use Rattle.std.proofs.Math.Option.{Option, none, some}
use Rattle.std.proofs.Common.{arith, length-append}
use Rattle.laws.specs.Tests.{true_or_false}
use Rattle.forms.specs.Text.{tab, split_from, number_up_to, number, plain}
use Rattle.forms.specs.Forms.{given, numbers}
use Rattle.forms.specs.Behind.{behind}

-- the numbers of a field and those behind it
record Split (f : List ℕ) (rest : Option (List ℕ)) (ns : List ℕ) : Type 0 where
  pub more : List ℕ
  pub first : 1 ≤ length f
  pub behind : rest ≡ some more
  pub count : length ns ≡ 1 + length more

parts : (f : List ℕ) (rest : Option (List ℕ)) {ns : List ℕ} → given (number f) (λ n. given rest (λ more. some (n ∷ more))) ≡ some ns → Split f rest ns
unfolding number_up_to plain
parts [] rest e = let z : ◌≡◌ {A = ℕ} 0 1 = cc in absurd (omega arith)
parts (b ∷ bs) rest e = found (number (b ∷ bs)) rest e
  where
    found : (o : Option ℕ) (rest : Option (List ℕ)) {ns : List ℕ} → given o (λ n. given rest (λ more. some (n ∷ more))) ≡ some ns → Split (b ∷ bs) rest ns
    found none rest e = let z : ◌≡◌ {A = ℕ} 0 1 = cc in absurd (omega arith)
    found (some n) none e = let z : ◌≡◌ {A = ℕ} 0 1 = cc in absurd (omega arith)
    found (some n) (some more) {ns} e =
        let same : (n ∷ more) ≡ ns = cc in
        record { more = more; first = omega arith; behind = refl; count = rw (← same) (omega arith) }

short : (piece bs : List ℕ) {ns : List ℕ} → numbers (split_from tab piece bs) ≡ some ns → 2 * length ns ≤ length piece + length bs + 1
unfolding split_from numbers
short piece [] e =
    let s = parts piece (some []) e in
    let last : length s.more ≡ 0 = (let same : s.more ≡ [] = cc s.behind in rw same) in
    omega (arith, s.first, s.count)
short piece (b ∷ bs) e =
    true_or_false (b == tab)
    (λ t.
    let s = parts piece (numbers (split_from tab [] bs)) (rw t at e) in
    omega (arith, s.first, s.count, short [] bs s.behind))
    (λ f. omega (arith, short (piece ++ (b ∷ [])) bs (rw f at e), length-append piece (b ∷ [])))

pub listed_short : (line ns : List ℕ) → given (behind (drop 1 line)) numbers ≡ some ns → 2 * length ns ≤ length line
unfolding behind numbers
listed_short [] ns e = let same : ns ≡ [] = cc in rw same (omega arith)
listed_short (a ∷ []) ns e = let same : ns ≡ [] = cc in rw same (omega arith)
listed_short (a ∷ (b ∷ bs)) ns e =
    true_or_false (b == tab)
    (λ t. omega (arith, short [] bs (rw t at e)))
    (λ f. let n : ◌≡◌ {A = Option (List ℕ)} none (some ns) = rw f at e in let z : ◌≡◌ {A = ℕ} 0 1 = cc in absurd (omega arith))
