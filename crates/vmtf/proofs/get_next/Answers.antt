-- `vmtf::get_next`: the first open variable decides which of the definition's cases it is.
use Prim.Native.Nat.{ℕ}
use Rattle.std.specs.Prelude.{◌≡◌, ◌≢◌, eqb, length, List, Option, None, Some}
use Rattle.std.specs.Option.{is_some}
use Rattle.std.proofs.Math.Bool.{false≢true}
use mathlib.Core.Path.{sym, ap, ◌∙◌}
use borrow.Author.Tests.{eq-eqb, ne_eqb, eqb-true, eqb-false}
use Rattle.laws.specs.Tests.{cond_elim}
use Rattle.lit.specs.Numbers.{NONE}
use Rattle.vmtf.specs.Laws.{found}
use Rattle.vmtf.specs.Vmtf.{marked, first_open, from, get_next}
use Rattle.vmtf.proofs.get_next.Goals as goal
use Rattle.vmtf.proofs.get_next.Goals.{In-Some, In_default}

abbrev or_none : Option ℕ → ℕ
or_none (Some v) = v
or_none None = NONE

some_marked : (n v : ℕ) → Some v ≡ marked n → (v ≡ n) × (n ≢ NONE)
some_marked n v =
    cond_elim (λ (o : Option ℕ). Some v ≡ o → (v ≡ n) × (n ≢ NONE)) (eqb n NONE)
    (λ q e. absurd (false≢true (sym (ap is_some e))))
    (λ q (e : Some v ≡ Some n). (ap or_none e, eqb-false n NONE q))

none_marked : (n : ℕ) → None ≡ marked n → n ≡ NONE
none_marked n =
    cond_elim (λ (o : Option ℕ). None ≡ o → n ≡ NONE) (eqb n NONE)
    (λ q e. eqb-true n NONE q)
    (λ q e. absurd (false≢true (ap is_some e)))

abbrev first : List ℕ → List ℕ → ℕ → ℕ
first values next search = first_open values (from next (length next) search)

some : (c : In-Some) → let n = first c.args.values.now c.args.next.now c.args.s.search in (c.in-Some.v ≡ n) × (n ≢ NONE)
some c = some_marked _ _ c.in-Some.ensures

none : (c : In_default) → first c.args.values.now c.args.next.now c.args.s.search ≡ NONE
none c = none_marked _ c.in_default.ensures

pub bounds-next-v : goal.bounds-next-v
bounds-next-v c = let m = some (goal.at.bounds-next-v c).In-Some in (found c.requires.ends c.args.values.now c.in-Some.v m.0 (λ e. m.1 (sym m.0 ∙ e))).0

pub returns-in-Some-clause-found : goal.returns-in-Some-clause-found
unfolding get_next
returns-in-Some-clause-found c = λ prev ts. let m = some (goal.at.returns-in-Some-clause-found c).In-Some in rw (ne_eqb _ _ m.1, m.0)

pub returns-then-any_open-clause-found : goal.returns-then-any_open-clause-found
unfolding get_next
returns-then-any_open-clause-found c = λ prev ts. rw (eq-eqb _ _ (none (goal.at.returns-then-any_open-clause-found c).In_default), sym c.any_open.ensures ∙ c.if-any_open.true)

pub returns-clause-found : goal.returns-clause-found
unfolding get_next
returns-clause-found c = λ prev ts. rw (eq-eqb _ _ (none (goal.at.returns-clause-found c).In_default), sym c.any_open.ensures ∙ c.if-any_open.false)
