-- What the tests of lengths say.
use Rattle.std.specs.Prelude.{ℕ, ◌≡◌, Bool, true, ◌&&◌, List, length, eqb}
use Rattle.std.proofs.Common.{eqb-true, eq-eqb}
use Rattle.laws.specs.Tests.{and_left, and_right, and_both}
use Rattle.trail.specs.Trail.{Trail}
use Rattle.trail.specs.Memory.{Sized}
use Rattle.book.specs.Session.{Session}
use Rattle.session.specs.Mode.{trail_lengths, clause_lengths, Mode, lengths_ok}

pub trail_sized : (n : ℕ) (t : Trail) → trail_lengths n t ≡ true → Sized n t
trail_sized n t e =
    let p = and_right (eqb (length t.values) n) _ e in
    let q = and_right (eqb (length t.levels) n) _ p in
    let r = and_right (eqb (length t.reasons) n) _ q in
    record {
      values_long = eqb-true _ _ (and_left (eqb (length t.values) n) _ e);
      levels_long = eqb-true _ _ (and_left (eqb (length t.levels) n) _ p);
      reasons_long = eqb-true _ _ (and_left (eqb (length t.reasons) n) _ q);
      trail_long = eqb-true _ _ (and_left (eqb (length t.trail) n) _ r);
      opened_long = eqb-true _ _ (and_right (eqb (length t.trail) n) _ r);
    }

pub sized_trail : (n : ℕ) (t : Trail) → Sized n t → trail_lengths n t ≡ true
sized_trail n t z = rw (eq-eqb _ _ z.values_long, eq-eqb _ _ z.levels_long, eq-eqb _ _ z.reasons_long, eq-eqb _ _ z.trail_long, eq-eqb _ _ z.opened_long)

-- two tests of numbers
pub both : (a b c d : ℕ) → eqb a b && eqb c d ≡ true → (a ≡ b) × (c ≡ d)
both a b c d e = (eqb-true a b (and_left (eqb a b) _ e), eqb-true c d (and_right (eqb a b) _ e))

-- the memory of a session and the clause list have the lengths that refusal 5 asks for
pub record Sizes (n m : ℕ) (M : Mode) (lits : List ℕ) (literals : ℕ) (ends : List ℕ) (s : Session n m M.ops) : Type 0 where
  pub trail : Sized n s.trail
  pub chooser : M.lengths s.chooser ≡ true
  pub lits_long : length lits ≡ literals
  pub ends_long : length ends ≡ m

module _ (n m : ℕ) (M : Mode) (lits : List ℕ) (literals : ℕ) (ends : List ℕ) (s : Session n m M.ops) (scratch : Bool) where
  pub sizes_right : lengths_ok n m M lits literals ends s scratch ≡ true → Sizes n m M lits literals ends s × (scratch ≡ true)
  unfolding lengths_ok
  sizes_right e =
      let p = and_right (trail_lengths n s.trail) _ e in
      let q = and_right (M.lengths s.chooser) _ p in
      let z = both _ _ _ _ (and_left (clause_lengths literals m lits ends) scratch q) in (
        record {
          trail = trail_sized n s.trail (and_left (trail_lengths n s.trail) _ e);
          chooser = and_left (M.lengths s.chooser) _ p;
          lits_long = z.0;
          ends_long = z.1;
        },
        and_right (clause_lengths literals m lits ends) scratch q,
      )

  pub right_sizes : Sizes n m M lits literals ends s → scratch ≡ true → lengths_ok n m M lits literals ends s scratch ≡ true
  unfolding lengths_ok
  right_sizes z e =
      and_both (sized_trail n s.trail z.trail)
      (and_both z.chooser (and_both (and_both (eq-eqb _ _ z.lits_long) (eq-eqb _ _ z.ends_long)) e))
