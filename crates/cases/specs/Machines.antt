-- What the cases are of: a session in heap mode, a session in list mode, and the formula check.
use Rattle.std.specs.Prelude.{ℕ, ◌+◌, Bool, true, ◌&&◌, List, [], ◌∷◌, ◌++◌, Result, length}
use Rattle.std.proofs.Math.Option.{Option, none, some}
use Rattle.lit.specs.declared.Refusal.{Refusal}
use Rattle.formula.specs.declared.checks.SatResult.{SatResult}
use Rattle.formula.specs.Clauses.{clauses_ok}
use Rattle.formula.specs.Checks.{check_formula_invariant_call}
use Rattle.trail_check.specs.Check.{trail_ok}
use Rattle.vsids.specs.Check.{check_heap}
use Rattle.vmtf.specs.Vmtf.{check_list}
use Rattle.book.specs.Calls.{Call}
use Rattle.book.specs.Chooser.{Operations}
use Rattle.book.specs.Session.{status, reply, leaves, Session, fresh, call}
use Rattle.choosers.specs.Heap.{heap_ops}
use Rattle.choosers.specs.List.{list_ops}
use Rattle.cases.specs.Claim.{Machine}

-- Clauses are written each as its codes. Flat, as they are lent: the codes of all, and where each ends.
abbrev pub Clauses : Type 0
Clauses = List (List ℕ)

unfoldable pub codes : Clauses → List ℕ
codes [] = []
codes (c ∷ cs) = c ++ codes cs

unfoldable pub ends_from : ℕ → Clauses → List ℕ
ends_from k [] = []
ends_from k (c ∷ cs) = (k + length c) ∷ ends_from (k + length c) cs

abbrev pub ends : Clauses → List ℕ
ends cs = ends_from 0 cs

-- a call's answer, as on an answer line; the reply `none` is `-`
pub record Answer : Type 0 where
  pub status : ℕ
  pub reply : Option ℕ

abbrev pub answer : ℕ → Option ℕ → Answer
answer k r = record { status = k; reply = r }

-- `0|-`: a call passes, or a decide says none. `0|v`: the variable decided, or the number undone. `k|-`: refusal k
abbrev pub passes : Answer
passes = answer 0 none

abbrev pub says_none : Answer
says_none = answer 0 none

abbrev pub says : ℕ → Answer
says v = answer 0 (some v)

abbrev pub refused : ℕ → Answer
refused k = answer k none

-- a session of n variables and these clauses over a chooser. A good start passes what refusals 6 and 7 ask; `ok` is the chooser's part
abbrev pub sessions : ℕ → Clauses → (O : Operations) → (List ℕ → O.State → Bool) → Machine
sessions n cs O ok = record {
  State = Session n (length cs) O;
  Call = Call;
  Answer = Answer;
  fresh = fresh n (length cs) O;
  good = λ s. clauses_ok n (codes cs) (ends cs) && (trail_ok (length cs) s.trail && ok s.trail.values s.chooser);
  step = λ s c. let x = call n (length cs) O s c in (answer (status x) (reply x), leaves s x);
}

-- `vsids` and `vmtf`
abbrev pub heap_mode : ℕ → Clauses → Machine
heap_mode n cs = sessions n cs (heap_ops n (codes cs) (ends cs)) (check_heap n)

abbrev pub list_mode : ℕ → Clauses → Machine
list_mode n cs = sessions n cs (list_ops n (codes cs)) (λ values l. check_list l)

-- the formula check takes formulas, and keeps nothing
pub record Formula : Type 0 where
  pub n : ℕ
  pub clauses : Clauses

abbrev pub check : Formula → Result SatResult Refusal
check f = check_formula_invariant_call f.n (codes f.clauses) (ends f.clauses) (length (codes f.clauses)) (length (ends f.clauses))

abbrev pub formula_check : Machine
formula_check = record {
  State = Unit {0};
  Call = Formula;
  Answer = Result SatResult Refusal;
  fresh = tt;
  good = λ s. true;
  step = λ s f. (check f, s);
}
