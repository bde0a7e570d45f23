-- Sessions that are read back as one, on the entry points' own definition; and rows of turns with saves among them, of which session/proofs/Runs.antt has term 3.
-- proofs/Modes.antt proves it in either mode: `heap_entered_same`, `heap_lists_same`, `heap_saves_unseen`, `heap_back_over_save`, and with `list_` for `heap_`.
use Rattle.std.specs.Prelude.{ℕ, ◌+◌, ◌≡◌, Bool, List, [], ◌∷◌}
use Rattle.book.specs.Calls.{Call, decide, go_back}
use Rattle.book.specs.Session.{status, leaves, Session}
use Rattle.book.specs.Claim.{records_of, Run, starting_with, begin}
use Rattle.session.specs.Asked.{Asked, Lending}
use Rattle.session.specs.Mode.{Mode, entered, entered_list}
use Rattle.session.specs.Runs.{FoundedBy, Turn, single, listed, saved, propagated, turn, run_turns}
use Rattle.carried.specs.Same.{Same, SameResult, Alike}

-- the row without its saves
unfoldable pub unsaved : List Turn → List Turn
unsaved [] = []
unsaved (saved h ∷ turns) = unsaved turns
unsaved (single h a ∷ turns) = single h a ∷ unsaved turns
unsaved (listed h fit cs ∷ turns) = listed h fit cs ∷ unsaved turns
unsaved (propagated curr ∷ turns) = propagated curr ∷ unsaved turns

-- A call and a list of calls on memory as lent with g are refused alike, and else have the same answers
module _ (M : Lending → Mode) (g : Lending) where
  abbrev pub EnteredSame : Type 0
  EnteredSame = (a : Asked) (s t : Session g.n g.m (M g).ops) → Same s t
      → SameResult s t (entered g.n g.m (M g) g.lits g.literals g.ends a s) (entered g.n g.m (M g) g.lits g.literals g.ends a t)

  abbrev pub ListsSame : Type 0
  ListsSame = (fit : Bool) (cs : List Call) (s t : Session g.n g.m (M g).ops) → Same s t →
      let x = entered_list g.n g.m (M g) g.lits g.literals g.ends fit cs s in
      let y = entered_list g.n g.m (M g) g.lits g.literals g.ends fit cs t in
      (status x ≡ status y) × Alike (leaves (starting_with g.n g.m (M g).ops s) x) (leaves (starting_with g.n g.m (M g).ops t) y)

module _ (M : Lending → Mode) (into : (g h : Lending) → (M g).ops.State → (M h).ops.State) (g : Lending) where
  -- From any session, good or not: a row and the row without its saves have one log, and they end the same
  abbrev pub SavesUnseen : Type 0
  SavesUnseen = (r : Run g.n g.m (M g).ops) (turns : List Turn) → Alike (run_turns M into g r (unsaved turns)) (run_turns M into g r turns)

  -- (c) read off the claim once: a decision that raised the level, a save, and the going back behind it leave the records as they were just before the decision
  abbrev pub BackOverSave : Type 0
  BackOverSave = FoundedBy g → (turns : List Turn) (h j k : Lending) (fit fit' : Bool) (p : ℕ) →
      let r = run_turns M into g (begin g.n g.m (M g).ops) turns in
      let l = r.now.trail.level in
      let d = turn M into g (turn M into g r (listed h fit (decide p ∷ []))) (saved j) in
      let b = turn M into g d (listed k fit' (go_back l ∷ [])) in
      d.now.trail.level ≡ l + 1 → b.now.trail.level ≡ l → records_of b.now.trail ≡ records_of r.now.trail
