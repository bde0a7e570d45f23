-- In a row of turns a save in list mode is writing and reading as their contracts have them. Assumes nothing.
use Rattle.std.specs.Prelude.{ℕ, ◌≡◌, true, List, take}
use Rattle.std.proofs.Common.{sym, ap, ◌∙◌}
use Rattle.std.proofs.Math.Option.{none}
use Rattle.lit.specs.Numbers.{short_buffer}
use Rattle.vmtf.specs.Vmtf.{Vmtf}
use Rattle.choosers.specs.List.{list_ops}
use Rattle.book.specs.Session.{Result, done, refuse, status, reply, leaves, Session}
use Rattle.book.specs.Claim.{Run}
use Rattle.session.specs.Asked.{Lending}
use Rattle.session.specs.Entry.{reply_number}
use Rattle.session.specs.Runs.{saved, turn}
use Rattle.list_entry.specs.Term3.{list_over}
use Rattle.saved_text.specs.Saved.{Saved}
use Rattle.saved_state.specs.Written.{saved_list}
use Rattle.saved_state.specs.Entry.{Memory, wrote, read}
use Rattle.saved_state.specs.Judged.{LongStamp, same_lengths}
use Rattle.saved_state.specs.InARow as either
use Rattle.list_saved.specs.Reader.{list_reader}
use Rattle.list_saved.specs.Claims.{written_read}

module _ (g : Lending) (r : Run g.n g.m (list_ops g.n g.lits)) (h : Lending) (buffer : List ℕ) where
  -- the memory that the run has come to, as lent with h
  abbrev memory : Memory Vmtf
  memory = (h.lits, h.ends, r.now.trail, r.now.chooser)

  -- what writing it comes to
  abbrev saved_as : Session h.n h.m (list_ops h.n h.lits) → Saved
  saved_as s = saved_list h.n h.lits h.ends s.trail s.chooser

  abbrev came : Result (List ℕ)
  came = wrote h.n h.m (list_over h) h.lits h.literals h.ends saved_as (record { trail = memory.2; chooser = memory.3 }) buffer

  -- the run behind the save
  abbrev after : Run g.n g.m (list_ops g.n g.lits)
  after = turn list_over (λ g h c. c) g r (saved h)

  -- Where writing is accepted, what it wrote is read into any memory of these lengths, and leaves there the session that the run goes on with; the log is as it was.
  pub accepted_goes_on : status came ≡ 0 → LongStamp memory.3 → (lent : Memory Vmtf) → same_lengths list_reader h.n memory lent ≡ true
      → (read list_reader (take (reply_number (reply came)) (leaves buffer came)) lent ≡ done none (h.lits, h.ends, after.now.trail, after.now.chooser)) × (after.past ≡ r.past)
  accepted_goes_on e wide lent fit =
      let on = either.accepted_goes_on list_over (λ g h c. c) g r h saved_as buffer e in (
        written_read h.n h.m h.lits h.literals h.ends (record { trail = memory.2; chooser = memory.3 }) buffer e wide lent fit
            ∙ ap (λ (u : Run g.n g.m (list_ops g.n g.lits)). done none (h.lits, h.ends, u.now.trail, u.now.chooser)) (sym on),
        ap (λ (u : Run g.n g.m (list_ops g.n g.lits)). u.past) on,
      )

  -- Where it is refused by 4, 5, 6 or 7, the run is left as it was.
  pub refused_stays : {k : ℕ} → came ≡ refuse k → ¬ (k ≡ short_buffer) → after ≡ r
  refused_stays = either.refused_stays list_over (λ g h c. c) g r h saved_as buffer
