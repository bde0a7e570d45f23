-- The lines of a session, in any mode, as code runs them: each is answered, and the session stays good. Assumes nothing.
use Rattle.std.specs.Prelude.{ℕ, ◌+◌, ◌<◌, List}
use Rattle.std.proofs.Math.Option.{Option}
use Rattle.std.proofs.Common.{sym, subst, arith}
use Rattle.book.specs.Calls.{Call}
use Rattle.book.specs.Chooser.{Operations}
use Rattle.book.specs.Session.{Session, reply, leaves, call}
use Rattle.book.specs.Read.{called, called_kept}
use Rattle.session.specs.Entry.{Answered}
use Rattle.forms.specs.Forms.{call_in}
use Rattle.forms.specs.Written.{Wrote}
use Rattle.sheet.specs.declared.Place.{Place}
use Rattle.sheet.specs.Sheet.{answer_line}
use Rattle.sheet.specs.Stages.{Stage}
use Rattle.sheet.specs.Writing.{reply_of}
use Rattle.sheet.specs.Bounds.{Small}
use Rattle.sheet.specs.Running.{line_length, line_from, after, Room}
use Rattle.sheet.specs.SessionLines.{Along, Mode}
use Rattle.sheet.proofs.Bounds.{answer_short, status_small}
use Rattle.sheet.proofs.Steps.{room_behind}
use Rattle.sheet.proofs.SessionLines.{along_none, along_more, along_one}

module _ {n m : ℕ} {O : Operations} (Good : Session n m O → Type 0) where
  -- what the sessions are as stages of a run, and that the replies of good ones are no number that stands for none
  pub record Stands (stage : Session n m O → Stage) : Type 0 where
    pub mode : Mode stage
    pub replies : (s : Session n m O) → Good s → (c : Option Call) → Small (reply (called n m O s c))

  -- Lines are answered, from s on up to u: there is room for the rest, u is good, and whatever stages the sessions are, the run comes to the same end
  -- from there.
  pub record Went (sheet : List ℕ) (p : Place) (s : Session n m O) (out : List ℕ) (q : Place) (u : Session n m O) (out' : List ℕ) : Type 0 where
    pub room : Room sheet q out'
    pub good : Good u
    pub along : (stage : Session n m O → Stage) → Stands stage → Along Good stage sheet p s out q u out'

module _ {n m : ℕ} {O : Operations} {Good : Session n m O → Type 0} {sheet : List ℕ} where
  -- no line is answered yet, or one after another
  pub went_none : {p : Place} {s : Session n m O} {out : List ℕ} → Room sheet p out → Good s → Went Good sheet p s out p s out
  went_none room good = record { room = room; good = good; along = λ stage h. along_none room good }

  pub went_more : {p q r : Place} {s u v : Session n m O} {out out' out'' : List ℕ} → Went Good sheet p s out q u out' → Went Good sheet q u out' r v out'' → Went Good sheet p s out r v out''
  went_more a b = record { room = b.room; good = b.good; along = λ stage h. along_more (a.along stage h) (b.along stage h) }

-- the next line is answered
pub went_one : {n m : ℕ} {O : Operations} (Good : Session n m O → Type 0) → ((s : Session n m O) → Good s → (c : Call) → Good (leaves s (call n m O s c)))
    → {s u : Session n m O} {sheet out : List ℕ} {p : Place} → Room sheet p out → 0 < p.left → Good s → {k r : ℕ}
    → Answered (called n m O s (call_in (line_from sheet p.from))) s k r u → {out' : List ℕ} {at : ℕ} → Wrote p.at (answer_line p.line k (reply_of r)) out out' at
    → Went Good sheet p s out (after p (p.from + line_length sheet p.from) at) u out'
went_one {n} {m} {O} Good kept {s} {sheet = sheet} {p = p} room more good {k} {r} answered wrote =
    let c = call_in (line_from sheet p.from) in
    let still = called_kept Good s good (kept s good) c in
    let few : k < 100 = subst (λ (j : ℕ). j < 100) (sym answered.status) (status_small n m O s c) in
    record {
      room = room_behind room more wrote (answer_short p.line k (reply_of r) (omega (arith, room.numbered, more)) few);
      good = subst Good (sym answered.session) still;
      along = λ stage h. along_one room more answered h.mode (h.replies s good c) Good still wrote;
    }
