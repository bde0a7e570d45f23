-- 'The book of demand 3 is a list of entries.' Here books and logs have the newest first; Letter.antt says that `back`, `codes` and
-- `openings` are document 01's, where the oldest is first, and that `on` is what it says.
use Rattle.std.specs.Prelude.{ℕ, ◌+◌, Bool, true, false, cond, List, [], ◌∷◌, ◌++◌, length, set, replicate, leb, eqb}
use Rattle.std.proofs.Math.Option.{Option, none, some}
use Rattle.lit.specs.Numbers.{NONE, unassigned}
use Rattle.lit.specs.Lits.{index, polarity, new}
use Rattle.book.specs.Calls.{Call, bump, decay, set_decay, insert, switch_off, decide, enqueue, learn_unit, go_back, bump_reason, group, Line, accepted}

-- 'each a code and a reason, some marked opening'
pub data Entry : Type 0 where
  entry : ℕ → ℕ → Bool → Entry

abbrev pub Book : Type 0
Book = List Entry

-- 'The level is the number of opening entries'
unfoldable pub present_level : Book → ℕ
present_level [] = 0
present_level (entry c r true ∷ b) = present_level b + 1
present_level (entry c r false ∷ b) = present_level b

-- 'going back to a level L below it drops all from the (L+1)th opening entry on': the newest go until the level is L or less
unfoldable pub back : ℕ → Book → Book
back l [] = []
back l (e ∷ b) = cond (leb (present_level (e ∷ b)) l) (e ∷ b) (back l b)

-- 'Decide answering v adds code 2v + polarity with reason NONE, marked opening; enqueue adds its code and reason. .. Learn-unit goes
-- back to 0, then adds code and NONE. Refusals, "none" and other calls leave it.'
unfoldable pub written : Call → Option ℕ → Book → Book
written (bump v) r b = b
written decay r b = b
written (set_decay d) r b = b
written (insert v) r b = b
written (switch_off v) r b = b
written (decide p) none b = b
written (decide p) (some v) b = entry (new v p) NONE true ∷ b
written (enqueue code reason) r b = entry code reason false ∷ b
written (learn_unit code) r b = entry code NONE false ∷ back 0 b
written (go_back l) r b = back l b
written (bump_reason v) r b = b
written (group vs) r b = b

-- 'it starts empty and is fed calls and answers alone'
unfoldable pub book : List Line → Book
book [] = []
book (l ∷ ls) = cond (accepted l) (written l.call l.reply (book ls)) (book ls)

-- 'Its codes are the trail, the places of opening entries the opened levels.'
unfoldable pub codes : Book → List ℕ
codes [] = []
codes (entry c r o ∷ b) = codes b ++ (c ∷ [])

unfoldable pub openings : Book → List ℕ
openings [] = []
openings (entry c r true ∷ b) = openings b ++ (length b ∷ [])
openings (entry c r false ∷ b) = openings b

-- 'An entry gives its variable's value, reason and, as level, the number of opening entries up to itself;
-- others are unassigned, reason NONE.'
unfoldable pub values_of : ℕ → Book → List ℕ
values_of n [] = replicate n unassigned
values_of n (entry c r o ∷ b) = set (values_of n b) (index c) (polarity c)

unfoldable pub reasons_of : ℕ → Book → List ℕ
reasons_of n [] = replicate n NONE
reasons_of n (entry c r o ∷ b) = set (reasons_of n b) (index c) r

unfoldable pub levels_of : ℕ → Book → List ℕ
levels_of n [] = replicate n NONE
levels_of n (entry c r o ∷ b) = set (levels_of n b) (index c) (present_level (entry c r o ∷ b))

-- the switches, once v is off
abbrev pub without : ℕ → (ℕ → Bool) → ℕ → Bool
without v on w = cond (eqb w v) false (on w)

unfoldable pub switched : Call → (ℕ → Bool) → ℕ → Bool
switched (bump v) on = on
switched decay on = on
switched (set_decay d) on = on
switched (insert v) on = on
switched (switch_off v) on = without v on
switched (decide p) on = on
switched (enqueue code reason) on = on
switched (learn_unit code) on = on
switched (go_back l) on = on
switched (bump_reason v) on = on
switched (group vs) on = on

-- 'on until an accepted switch off names it'
unfoldable pub on : List Line → ℕ → Bool
on [] = λ v. true
on (l ∷ ls) = cond (accepted l) (switched l.call (on ls)) (on ls)

-- the variables that may not be unassigned when a decide says none: those that are on; 'in list mode, no variable at all' may be
unfoldable pub counts : Bool → List Line → ℕ → Bool
counts true ls = on ls
counts false ls = λ v. true
