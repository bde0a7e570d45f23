-- A chooser as the book sees it: the operations of the source's trait `Decisions`, and the laws that term 3 needs of them.
use Rattle.std.specs.Prelude.{ℕ, ◌<◌, ◌≡◌, Bool, true, false, cond, ◌&&◌, ◌||◌, List, [], ◌∷◌, set, replicate, ltb, eqb, Float}
use Rattle.std.proofs.Math.Option.{Option, none, some}
use Rattle.lit.specs.Numbers.{NONE, unassigned}
use Rattle.lit.specs.Lits.{is_assigned}
use Rattle.activity.specs.Step.{good_decay}
use Rattle.book.specs.Book.{without}

-- the operations that only move a chooser's order: `bump_variable`, `decay_var_inc`, `set_var_decay`,
-- `bump_reason_literals` by the variable's reason, and `bump_vec_of_vars`
pub data Tune : Type 0 where
  bump_variable bump_reason_literals : ℕ → Tune
  decay_var_inc : Tune
  set_var_decay : Float → Tune
  bump_vec_of_vars : List ℕ → Tune

-- the tests that refusals 8 and 10 make of arguments; for 12 it is `good_decay`. 8, for a group: every variable is below n
unfoldable pub below : ℕ → List ℕ → Bool
below n [] = true
below n (v ∷ vs) = ltb v n && below n vs

-- 10: NONE, or the number of one of m clauses
abbrev pub good_reason : ℕ → ℕ → Bool
good_reason m r = eqb r NONE || ltb r m

-- what a session knows of the arguments when it hands an operation on
unfoldable pub fits : ℕ → ℕ → Tune → Bool
fits n m (bump_variable v) = ltb v n
fits n m decay_var_inc = true
fits n m (set_var_decay d) = good_decay d
fits n m (bump_reason_literals r) = good_reason m r
fits n m (bump_vec_of_vars vs) = below n vs

-- what `get_next` comes to: a variable, no variable, or refusal 14
pub data Next (S : Type 0) : Type 0 where
  chose : ℕ → S → Next S
  nothing : S → Next S
  stuck : Next S

-- no variable that is on is unassigned
abbrev pub Settled : ℕ → List ℕ → (ℕ → Bool) → Type 0
Settled n values on = (v : ℕ) → v < n → on v ≡ true → is_assigned values v ≡ true

-- What `get_next` owes: the variable chosen is below n, on and unassigned, and with a value for it the state is good again;
-- none comes when nothing that is on is unassigned, and 14 only where something is: so none comes exactly then
abbrev pub NextRight : {S : Type 0} → ℕ → List ℕ → (ℕ → Bool) → (List ℕ → (ℕ → Bool) → S → Type 0) → Next S → Type 0
NextRight n values on ok (chose v c) = (v < n) × (on v ≡ true) × (is_assigned values v ≡ false) × ((p : ℕ) → p < 2 → ok (set values v p) on c)
NextRight n values on ok (nothing c) = Settled n values on × ok values on c
NextRight n values on ok stuck = ¬ (Settled n values on)

-- P of the new state, if there is one
abbrev pub IfSome : {S : Type 0} → (S → Type 0) → Option S → Type 0
IfSome P none = Unit {0}
IfSome P (some c) = P c

-- The operations of a chooser.
pub record Operations : Type 1 where
  pub State : Type 0
  -- whether switching off counts, as in heap mode
  pub switches : Bool
  -- `new`, and the operations that only move the order; no state where 'the decayed step would be above 1e200' (13)
  pub start : State
  pub tune : Tune → State → Option State
  -- `insert`, as a call, and for a variable that has just been undone
  pub insert : ℕ → State → State
  pub offer : ℕ → State → State
  -- `turn_off_decision_for_idx` and `get_next`
  pub turn_off : ℕ → State → State
  pub get_next : List ℕ → State → Next State

-- They are a chooser for n variables and m clauses where they keep these laws. `ok values on c`: the state c is good for these values and
-- these switches.
pub record Chooser (n m : ℕ) (O : Operations) : Type 1 where
  pub ok : List ℕ → (ℕ → Bool) → O.State → Type 0
  pub start_ok : ok (replicate n unassigned) (λ v. true) O.start
  pub tune_ok : (t : Tune) (c : O.State) {values : List ℕ} {on : ℕ → Bool} → fits n m t ≡ true → ok values on c → IfSome (ok values on) (O.tune t c)
  pub insert_ok : (v : ℕ) (c : O.State) {values : List ℕ} {on : ℕ → Bool} → v < n → ok values on c → ok values on (O.insert v c)
  pub offer_ok : (v : ℕ) (c : O.State) {values : List ℕ} {on : ℕ → Bool} → v < n → ok values on c → ok (set values v unassigned) on (O.offer v c)
  pub turn_off_ok : (v : ℕ) (c : O.State) {values : List ℕ} {on : ℕ → Bool} → v < n → ok values on c
      → ok values (cond O.switches (without v on) on) (O.turn_off v c)
  -- a variable gets its value from another call
  pub assign_ok : (v p : ℕ) (c : O.State) {values : List ℕ} {on : ℕ → Bool} → v < n → p < 2 → ok values on c → ok (set values v p) on c
  pub get_next_ok : (c : O.State) {values : List ℕ} {on : ℕ → Bool} → ok values on c → NextRight n values on ok (O.get_next values c)
