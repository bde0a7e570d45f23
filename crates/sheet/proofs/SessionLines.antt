-- The lines of a session, in any mode: what an answered line does to the buffer and the place. Assumes nothing.
use Rattle.std.specs.Prelude.{ℕ, ◌+◌, ◌≤◌, ◌<◌, ◌≡◌, refl}
use Rattle.std.proofs.Common.{sym, subst, ◌∙◌, arith}
use Rattle.std.proofs.Math.Path.{ap}
use mathlib.Core.List.{List}
use Rattle.std.proofs.Math.ListN.{length}
use Rattle.lit.specs.Numbers.{answer_room}
use Rattle.book.specs.Chooser.{Operations}
use Rattle.book.specs.Session.{Result, status, reply, leaves, mapped, Session}
use Rattle.book.specs.Read.{called}
use Rattle.book.specs.Mapped.{mapped_status, mapped_reply, mapped_leaves}
use Rattle.session.specs.Entry.{Answered}
use Rattle.forms.specs.Text.{written}
use Rattle.forms.specs.Forms.{call_in}
use Rattle.sheet.specs.declared.Place.{Place}
use Rattle.sheet.specs.Sheet.{answer_line}
use Rattle.sheet.specs.Stages.{Stage, answers, stage_behind}
use Rattle.forms.specs.Written.{Wrote, same_room}
use Rattle.sheet.specs.Writing.{reply_of}
use Rattle.sheet.specs.Bounds.{Small}
use Rattle.sheet.proofs.Bounds.{answer_short, status_small, answer_text}
use Rattle.sheet.specs.Running.{lines_from, line_length, line_from, after, Room, Ended, SameEnd}
use Rattle.sheet.proofs.Steps.{same_end, lines_over, answer_room_lem, room_behind, end_behind}
use Rattle.sheet.specs.SessionLines.{Along, Mode}

module _ {S : Type 0} {Good : S → Type 0} {stage : S → Stage} {sheet : List ℕ} where
  -- no line is answered yet, or one after another, or all of them
  pub along_none : {p : Place} {s : S} {out : List ℕ} → Room sheet p out → Good s → Along Good stage sheet p s out p s out
  along_none room good = record { room = room; good = good; end = record { buffer = refl; count = refl; stage = refl }; out_same = refl }

  pub along_more : {p q r : Place} {s u v : S} {out out' out'' : List ℕ} → Along Good stage sheet p s out q u out' → Along Good stage sheet q u out' r v out'' → Along Good stage sheet p s out r v out''
  along_more a b = record { room = b.room; good = b.good; end = same_end a.end b.end; out_same = b.out_same ∙ a.out_same }

  pub along_over : {p q : Place} {s u : S} {out out' : List ℕ} → Along Good stage sheet p s out q u out' → q.left ≡ 0 → Ended sheet p (stage s) out q.at out'
  unfolding answers written
  along_over {q = q} {u = u} a over =
      let e = lines_over a.room over in record {
        buffer = rw e at a.end.buffer;
        count = omega (arith, a.end.count, ap (λ (ls : List (List ℕ)). length (answers q.line (stage u) ls)) e);
      }

  -- and then u is the session behind them
  pub along_last : {p q : Place} {s u : S} {out out' : List ℕ} → Along Good stage sheet p s out q u out' → q.left ≡ 0 → stage u ≡ stage_behind (stage s) (lines_from sheet p.from)
  unfolding stage_behind
  along_last {u = u} a over = let e = lines_over a.room over in (rw e at a.end.stage)

-- where no line is left, a run has ended, and the buffer stays
pub nothing_left : {sheet out : List ℕ} {p : Place} (stage : Stage) → Room sheet p out → p.left ≡ 0 → Ended sheet p stage out p.at out
nothing_left {p = p} stage room over = along_over {Good = λ (s : Stage). p.left ≡ 0} {stage = λ (s : Stage). s} (along_none {s = stage} room over) over

module _ {n m : ℕ} {O : Operations} {s u : Session n m O} {sheet out : List ℕ} {p : Place} (room : Room sheet p out) (more : 0 < p.left) {k r : ℕ}
    (answered : Answered (called n m O s (call_in (line_from sheet p.from))) s k r u) where
  abbrev x : Result (Session n m O)
  x = called n m O s (call_in (line_from sheet p.from))

  -- the answer fits its room, and the buffer
  short : length (answer_line p.line k (reply_of r)) ≤ answer_room
  short =
      let few : k < 100 = subst (λ (j : ℕ). j < 100) (sym answered.status) (status_small n m O s (call_in (line_from sheet p.from))) in
      answer_short p.line k (reply_of r) (omega (arith, room.numbered, more)) few

  pub line_fits : p.at + length (answer_line p.line k (reply_of r)) ≤ length out
  line_fits = answer_room_lem room more (answer_line p.line k (reply_of r)) short

  module _ {stage : Session n m O → Stage} (mode : Mode stage) (small : Small (reply x)) where
    same_answer : answer_line p.line k (reply_of r) ≡ answer_line p.line (status (mapped stage x)) (reply (mapped stage x))
    same_answer =
        let e : reply_of r ≡ reply x = ap (λ (j : ℕ). reply_of j) answered.reply ∙ answer_text (reply x) small in
        rw (mapped_status stage x, mapped_reply stage x, answered.status, e)

    module _ (Good : Session n m O → Type 0) (good : Good (leaves s x)) {out' : List ℕ} {at : ℕ} (wrote : Wrote p.at (answer_line p.line k (reply_of r)) out out' at) where
      end_next : SameEnd sheet p (stage s) out (after p (p.from + line_length sheet p.from) at) (stage u) out'
      end_next =
          let w : Wrote p.at (answer_line p.line (status (mapped stage x)) (reply (mapped stage x))) out out' at = subst (λ (a : List ℕ). Wrote p.at a out out' at) same_answer wrote in
          subst (λ (t : Stage). SameEnd sheet p (stage s) out (after p (p.from + line_length sheet p.from) at) t out')
          (mapped_leaves stage s x ∙ ap stage (sym answered.session))
          ((rw (mode.meets_it s (line_from sheet p.from), mode.its_turn s (line_from sheet p.from)) at (end_behind room more (stage s) {out' = out'} {k = at})) w)

      -- the line is answered, and the run goes on behind it
      pub along_one : Along Good stage sheet p s out (after p (p.from + line_length sheet p.from) at) u out'
      along_one = record { room = room_behind room more wrote short; good = subst Good (sym answered.session) good; end = end_next; out_same = same_room wrote }

-- an answer for a line is one for a line that is the same
pub same_called : {n m : ℕ} {O : Operations} {s u : Session n m O} {k r : ℕ} {line line' : List ℕ} → line ≡ line'
    → Answered (called n m O s (call_in line)) s k r u → Answered (called n m O s (call_in line')) s k r u
same_called {n} {m} {O} {s} {u} {k} {r} e a = subst (λ (l : List ℕ). Answered (called n m O s (call_in l)) s k r u) e a
