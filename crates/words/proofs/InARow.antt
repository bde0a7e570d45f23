-- In a row of turns a list does what its entry's definition says of it: an accepted one leaves its session and puts the lines in the log that its answers
-- tell, a refused one leaves the run as it was. In either mode.
use Rattle.std.specs.Prelude.{◌≡◌, Bool, true, false, ℕ, length}
use Rattle.std.proofs.Math.Path.{refl, sym, ap}
use Rattle.std.proofs.Common.{true≢false}
use Rattle.std.proofs.Math.Option.{none}
use mathlib.Core.List.{List, ◌++◌, reverse}
use Rattle.book.specs.Session.{Result, done, refuse, leaves, mapped}
use Rattle.book.specs.Claim.{Past, log, Run}
use Rattle.session.specs.Asked.{Lending}
use Rattle.session.specs.Mode.{Mode}
use Rattle.session.specs.Runs.{SessionOver, moved, list_with, gone_on, turn}
use Rattle.words.specs.Words.{calls_in, answers_of, told, entered_words, words_fit, Handed, handed}
use Rattle.book.specs.Read.{calls_of}

abbrev is_done : {S : Type 0} → Result S → Bool
is_done (done r s) = true
is_done (refuse k) = false

module _ (M : Lending → Mode) (into : (g h : Lending) → (M g).ops.State → (M h).ops.State) (g : Lending) (r : Run g.n g.m (M g).ops) (h : Handed) where
  -- the list as its entry has it, on the session that the run has come to
  abbrev came : Result (SessionOver M into h.lent × List ℕ)
  came = let l = h.lent in entered_words l.n l.m (M l) l.lits l.literals l.ends h.vars h.words h.answers (moved M into g l r.now)

  -- the run behind it
  abbrev after : Run g.n g.m (M g).ops
  after = turn M into g r (handed h)

  pub accepted_goes_on : {u : SessionOver M into h.lent} {out : List ℕ} → came ≡ done none (u, out)
      → (new : Past) × (after.now ≡ moved M into h.lent g u) × (after.past ≡ new ++ r.past) × (out ≡ answers_of (calls_in h.vars h.words) (reverse (log new)))
  unfolding turn
  accepted_goes_on {u} {out} e =
      let l = h.lent in
      go (list_with M into g l (words_fit (length h.words) h.answers) (calls_of (calls_in h.vars h.words)) r.now) e
    where
      go : (x : Result (Run h.lent.n h.lent.m (M h.lent).ops)) → mapped (told h.vars h.words) x ≡ done none (u, out)
          → let r' = gone_on M into g h.lent r x in
          (new : Past) × (r'.now ≡ moved M into h.lent g u) × (r'.past ≡ new ++ r.past) × (out ≡ answers_of (calls_in h.vars h.words) (reverse (log new)))
      go (done k v) q =
          let p : told h.vars h.words v ≡ (u, out) = ap (λ (y : Result (SessionOver M into h.lent × List ℕ)). leaves (u, out) y) q in
          (v.past, ap (λ (y : SessionOver M into h.lent × List ℕ). moved M into h.lent g y.0) p, refl, sym (ap (λ (y : SessionOver M into h.lent × List ℕ). y.1) p))
      go (refuse k) q = absurd (true≢false (sym (ap is_done q)))

  pub refused_stays : {k : ℕ} → came ≡ refuse k → after ≡ r
  unfolding turn
  refused_stays {k} e =
      let l = h.lent in
      go (list_with M into g l (words_fit (length h.words) h.answers) (calls_of (calls_in h.vars h.words)) r.now) e
    where
      go : (x : Result (Run h.lent.n h.lent.m (M h.lent).ops)) → mapped (told h.vars h.words) x ≡ refuse k → gone_on M into g h.lent r x ≡ r
      go (done j v) q = absurd (true≢false (ap is_done q))
      go (refuse j) q = refl
