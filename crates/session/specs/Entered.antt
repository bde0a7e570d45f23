-- What holds of the entry points in either mode: on good memory a checked call is the call, from any other it is refused, and where it is
-- accepted it leaves a good session; and what an accepted creation makes.
use Rattle.std.specs.Prelude.{ℕ, ◌≤◌, ◌≡◌, ◌↔◌, true, List, length}
use Rattle.lit.specs.Numbers.{max_vars}
use Rattle.formula.specs.Good.{GoodClauses}
use Rattle.trail.specs.Memory.{Sized}
use Rattle.trail.specs.Good.{GoodTrail}
use Rattle.book.specs.Calls.{Call}
use Rattle.book.specs.Chooser.{Operations}
use Rattle.book.specs.Session.{leaves, Session, fresh, call}
use Rattle.session.specs.declared.Call.TheVariants as variant
use Rattle.session.specs.Asked.{Asked}
use Rattle.session.specs.Mode.{Mode}

-- What a mode owes: which sessions are good, that the check passes exactly these, and that every call keeps them.
pub record Sound (n m : ℕ) (M : Mode) (lits ends : List ℕ) : Type 1 where
  pub Good : Session n m M.ops → Type 0
  -- what the types of the lent slices say of the chooser's memory
  pub Typed : M.ops.State → Type 0
  pub right : (s : Session n m M.ops) → n ≤ max_vars → length ends ≡ m → GoodClauses n lits ends → Sized n s.trail → M.lengths s.chooser ≡ true
      → Typed s.chooser → (M.state s.trail s.chooser ≡ true) ↔ Good s
  pub trail : (s : Session n m M.ops) → Good s → GoodTrail n m s.trail
  pub chooser_sized : (s : Session n m M.ops) → Good s → M.lengths s.chooser ≡ true
  pub chooser_typed : (s : Session n m M.ops) → Good s → Typed s.chooser
  pub fresh_good : n ≤ max_vars → length ends ≡ m → GoodClauses n lits ends → Good (fresh n m M.ops)
  pub kept : (s : Session n m M.ops) → Good s → (c : Call) → Good (leaves s (call n m M.ops s c))

-- 'for a group's scratch the group's length'
abbrev pub RightScratch : Asked → Type 0
RightScratch a = a.call ≡ variant.Group → (length a.stamps ≡ length a.vars) × (length a.order ≡ length a.vars)

-- what an accepted creation shows of the sizes and the clause list that it was lent
pub record Founded (n m : ℕ) (lits ends : List ℕ) : Type 0 where
  pub small : n ≤ max_vars
  pub stated : length ends ≡ m
  pub clauses : GoodClauses n lits ends

-- the memory that was lent is good: the clause list with its stated counts, and the session
pub record GoodMemory {n m : ℕ} {O : Operations} (Good : Session n m O → Type 0) (lits : List ℕ) (literals : ℕ) (ends : List ℕ) (s : Session n m O) : Type 0 where
  pub founded : Founded n m lits ends
  pub stated : length lits ≡ literals
  pub session : Good s
