-- The lines of a session in list mode: they are answered, and the session stays good. Assumes nothing.
use Rattle.std.specs.Prelude.{ℕ, refl, List, length}
use Rattle.choosers.specs.List.{list_ops}
use Rattle.book.specs.Session.{Session}
use Rattle.list_session.specs.Kept.{IsGood}
use Rattle.list_entry.specs.Checked.{list_sound}
use Rattle.sheet.specs.declared.Place.{Place}
use Rattle.sheet.specs.Stages.{in_list}
use Rattle.sheet.proofs.Replies.{list_reply}
use Rattle.sheet.specs.SessionLines.{Along}
use Rattle.lines.specs.Lines.{Stands, Went}

module _ (n : ℕ) (lits ends : List ℕ) where
  -- lines are answered from one session on up to another
  abbrev pub ListAlong : List ℕ → Place → Session n (length ends) (list_ops n lits) → List ℕ → Place → Session n (length ends) (list_ops n lits) → List ℕ → Type 0
  ListAlong = Along (IsGood n (length ends) lits) (in_list n lits ends)

  list_stands : Stands (list_sound n (length ends) lits ends).Good (in_list n lits ends)
  unfolding list_sound
  list_stands = record {
    mode = record { meets_it = λ s line. refl; its_turn = λ s line. refl };
    replies = λ s good c. list_reply n (length ends) lits good.list.0 s good.small good.trail good.list.1 c;
  }

  -- the lines that code answers in any mode
  pub list_along : {sheet out out' : List ℕ} {p q : Place} {s u : Session n (length ends) (list_ops n lits)} → Went (list_sound n (length ends) lits ends).Good sheet p s out q u out' → ListAlong sheet p s out q u out'
  unfolding list_sound
  list_along w = w.along (in_list n lits ends) list_stands
