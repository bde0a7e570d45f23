-- What every run keeps, it keeps over a save: of the levels it sees those of assigned variables alone, and reading them back twice is reading them once.
use Prim.Native.Nat.{ℕ, zero, suc, ◌<◌}
use mathlib.Core.Path.{◌≡◌, refl, ◌∙◌}
use mathlib.Core.Bool.{cond}
use mathlib.Core.List.{List, [], ◌∷◌}
use native.Mathlib.Omega.{arith}
use lib.ListN.{length, get_or}
use lib.Dec.{ltb}
use Rattle.laws.specs.Tests.{true_or_false}
use Rattle.lit.specs.Numbers.{NONE, unassigned}
use Rattle.lit.specs.Lits.{is_assigned}
use Rattle.trail.specs.Trail.{Trail}
use Rattle.book.specs.Book.{Book, book}
use Rattle.book.specs.Chooser.{Operations, Chooser}
use Rattle.book.specs.Claim.{log, assigned_levels, records_of, Run}
use Rattle.book.specs.Saved.{forgot, read_back, ReadLevel, ReadRest, RecordsRead}
use Rattle.book.proofs.Memory.{Holds, told}
use Rattle.book.proofs.Term3.{Inv}

levels_twice : (vs ls : List ℕ) → assigned_levels vs (assigned_levels vs ls) ≡ assigned_levels vs ls
unfolding assigned_levels
levels_twice [] ls = refl
levels_twice (x ∷ vs) [] = refl
levels_twice (x ∷ vs) (l ∷ ls) = true_or_false (ltb x unassigned) (λ a. rw (a, levels_twice vs ls)) (λ a. rw (a, levels_twice vs ls))

level_at_lem : (vs ls : List ℕ) (v : ℕ) → length vs ≡ length ls → v < length vs → get_or (assigned_levels vs ls) v 0 ≡ cond (is_assigned vs v) (get_or ls v 0) NONE
unfolding assigned_levels
level_at_lem [] ls v e h = absurd (omega arith)
level_at_lem (x ∷ vs) [] v e h = absurd (omega arith)
level_at_lem (x ∷ vs) (l ∷ ls) zero e h = refl
level_at_lem (x ∷ vs) (l ∷ ls) (suc v) e h = level_at_lem vs ls v (omega arith) (omega arith)

pub read_level : ReadLevel
unfolding forgot
read_level t v e h = level_at_lem t.values t.levels v e h

pub read_rest : ReadRest
unfolding forgot
read_rest t = refl

-- what was read back is read back as it is
pub read_twice : (t : Trail) → forgot (forgot t) ≡ forgot t
unfolding forgot
read_twice t = rw (levels_twice t.values t.levels)

pub records_read : RecordsRead
unfolding forgot records_of
records_read t = rw (levels_twice t.values t.levels)

holds_read : {n : ℕ} {b : Book} {t : Trail} → Holds n b t → Holds n b (forgot t)
unfolding forgot
holds_read {t = t} h = record { values = h.values; reasons = h.reasons; levels = levels_twice t.values t.levels ∙ h.levels; trail = h.trail; opened = h.opened }

pub read_back_lem : {n m : ℕ} {O : Operations} (C : Chooser n m O) (r : Run n m O) → Inv n m O C r → Inv n m O C (read_back r)
unfolding forgot
read_back_lem C r i =
    let h : Holds _ (book (log r.past)) (forgot r.now.trail) = holds_read i.good.holds in
    record {
      good = record { fine = i.good.fine; holds = h; ok = i.good.ok };
      moments = i.moments;
      claim = record { told = told h; none_right = i.claim.none_right; back_right = i.claim.back_right; unit_right = i.claim.unit_right };
    }
