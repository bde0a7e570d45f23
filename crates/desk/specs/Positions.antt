-- The lent positions at the end of a run: those at the front that it may have used are left open, and every other is as it was. Assumes nothing.
use Rattle.std.specs.Prelude.{ℕ, ◌≤◌, ◌≡◌, refl, ◌&&◌, cond, List, [], ◌∷◌, ◌++◌, leb, length, take, drop}
use Rattle.std.proofs.Common.{◌∙◌, arith, le-leb, length-take-le, drop_at}
use Rattle.std.proofs.Math.Option.{Option, none, some}
use Rattle.laws.specs.Parts.{rejoined}
use Rattle.laws.specs.Tests.{and_both}
use Rattle.lit.specs.Numbers.{max_vars}
use Rattle.book.specs.Session.{Result, done, refuse}
use Rattle.forms.specs.Forms.{Mode, vsids, vmtf, Opening, first_in}

-- how many positions a session over n variables needs
abbrev pub needed : Mode → ℕ → ℕ
needed vsids n = n
needed vmtf n = 0

-- how many of the lent ones a run may use, from the first on: those that the session needs which the first line opens. A refused line opens none, and
-- where too few are lent the session has its own.
abbrev pub used_by : Option Opening → ℕ → ℕ
used_by none lent = 0
used_by (some o) lent = let k = needed o.mode o.vars in cond (leb o.vars max_vars && leb k lent) k 0

abbrev pub used_on : List (List ℕ) → ℕ → ℕ
used_on [] lent = 0
used_on (line ∷ ls) lent = used_by (first_in line) lent

-- none where the sheet is refused by 1 or 2
abbrev pub used : Result (List ℕ) → List (List ℕ) → ℕ → ℕ
used (done r bytes) ls lent = used_on ls lent
used (refuse k) ls lent = 0

-- from place k on nothing has changed
pub record SameFrom (k : ℕ) (before after : List ℕ) : Type 0 where
  pub long : length after ≡ length before
  pub same : drop k after ≡ drop k before

pub untouched : {k : ℕ} {l : List ℕ} → SameFrom k l l
untouched = record { long = refl; same = refl }

-- those that the session needs were lent to it, and have come back as p
pub used-front : (o : Opening) {k : ℕ} (l p : List ℕ) → o.vars ≤ max_vars → k ≡ needed o.mode o.vars → k ≤ length l → length p ≡ length (take k l)
    → SameFrom (used_by (some o) (length l)) l (p ++ drop k l)
used-front o {k} l p few e lent same =
    let test = and_both (le-leb o.vars max_vars few) (rw e at (le-leb k (length l) lent)) in
    rw test (record { long = rejoined k l p same; same = rw (← e) (drop_at p (drop k l) k (same ∙ length-take-le k l lent)) })

-- those are as many as the session needs
pub front_enough : (o : Opening) {k : ℕ} (l : List ℕ) → k ≡ needed o.mode o.vars → k ≤ length l → needed o.mode o.vars ≤ length (take k l)
front_enough o {k} l e lent = omega (arith, length-take-le k l lent, e)
