-- Term 3, proved of every chooser that keeps its laws: by one induction over the calls, (c) by one over the past.
use Prim.Native.Nat.{ℕ, ◌<◌}
use mathlib.Core.Path.{◌≡◌, refl, sym, ap, ◌∙◌}
use mathlib.Core.Logic.{◌↔◌}
use mathlib.Core.Bool.{Bool, true, false, not, false≢true}
use mathlib.Core.Option.{none, some-ne-none}
use mathlib.Core.List.{List, [], ◌∷◌}
use native.Mathlib.Omega.{arith}
use lib.Dec.{ltb, eqb}
use borrow.Author.Tests.{lt-ltb}
use Rattle.lit.specs.Numbers.{NONE, no_variable, bad_polarity, assigned}
use Rattle.lit.specs.Lits.{index, is_assigned}
use Rattle.trail.specs.Trail.{Trail, enq_assignment}
use Rattle.book.specs.Calls.{Call, decide, learn_unit, Line}
use Rattle.book.specs.Book.{Book, present_level, back, book, openings, values_of}
use Rattle.book.specs.Chooser.{Next, chose, nothing, stuck, Operations, Chooser}
use Rattle.book.specs.Session.{done, refuse, status, reply, leaves, need, Session, fresh, went_back, enqueued, decided, call}
use Rattle.book.specs.Claim.{Event, Past, log, Records, records_of, records_in, SettledBy, Raises, JustBefore, here, earlier, AsThen, EachEvent, Run, begin, extended, step, run, Claim, Term3, SettledAccepted}
use Rattle.book.proofs.Books.{length_openings, Seen, raised, over, seen, fine_nil}
use Rattle.book.proofs.Memory.{fresh_holds, told}
use Rattle.book.proofs.Going.{GoodAfter, went}
use Rattle.book.proofs.Steps.{counts_nil, Kept, Owed, refused, asked, kept}

-- the records of an event are those in the book before it and after it
abbrev pub Moment : ℕ → Event → Past → Type 0
Moment n ev past = (records_of ev.before ≡ records_in n (book (log past))) × (records_of ev.after ≡ records_in n (book (log (ev ∷ past))))

level_told : (n : ℕ) (b : Book) (t : Trail) → records_of t ≡ records_in n b → t.level ≡ present_level b
unfolding records_of records_in
level_told n b t e = ap (λ (x : Records). x.level) e

-- what is in the book gone back to l stood in the trail just before the latest decision that raised the level from l
abbrev Stood : ℕ → ℕ → Past → Type 0
Stood n l past = (t : Trail) × JustBefore l t past × (records_of t ≡ records_in n (back l (book (log past))))

find : (n l : ℕ) (past : Past) → EachEvent (Moment n) past → l < present_level (book (log past)) → Stood n l past
unfolding EachEvent
find n l [] ms h = absurd (unfold present_level book in (omega arith))
find n l (ev ∷ past) (m, ms) h = go (seen l ev.line (log past) h) (find n l past ms)
  where
    go : Seen l ev.line.call (book (log past)) (book (log (ev ∷ past))) → (l < present_level (book (log past)) → Stood n l past)
        → Stood n l (ev ∷ past)
    go (raised p e h1 h2 q) ih = (
      ev.before,
      here (record { polarity = p; decision = e; from = level_told n _ _ m.0 ∙ h1; to = level_told n _ _ m.1 ∙ h2 }) refl,
      rw q m.0,
    )
    go (over h1 q) ih =
        let (t, j, k) = ih h1 in
        (t, earlier (λ (r : Raises l ev). omega (arith, r.from, level_told n _ _ m.0)) j, rw q k)

module _ (n m : ℕ) (O : Operations) (C : Chooser n m O) where
  -- (b)
  none_right : (s : Session n m O) (ls : List Line) → GoodAfter n m O C ls s → (p : ℕ) → eqb (status (call n m O s (decide p))) 0 ≡ true
      → reply (call n m O s (decide p)) ≡ none ↔ SettledBy n O.switches ls
  unfolding call need decided
  none_right s ls g p = go (ltb p 2) (O.get_next s.trail.values s.chooser) (asked n m O C s ls g)
    where
      go : (t : Bool) (x : Next O.State) → Owed n m O C ls x
          → eqb (status (need t bad_polarity (decided n m O p s x))) 0 ≡ true
          → reply (need t bad_polarity (decided n m O p s x)) ≡ none ↔ SettledBy n O.switches ls
      go false x q a = absurd (false≢true a)
      go true (chose v d) (hv, ho, hu, q) a = ((λ e. absurd (some-ne-none v e)), (λ f. absurd (false≢true (sym hu ∙ f v hv ho))))
      go true (nothing d) (q, o) a = ((λ e. q), (λ f. refl))
      go true stuck q a = absurd (false≢true a)

  -- where all is settled, a decide is not refused with 14
  settled_now : (s : Session n m O) (ls : List Line) → GoodAfter n m O C ls s → SettledBy n O.switches ls → (p : ℕ) → p < 2
      → status (call n m O s (decide p)) ≡ 0
  unfolding call need decided
  settled_now s ls g f p h = rw (lt-ltb p 2 h) (go (O.get_next s.trail.values s.chooser) (asked n m O C s ls g))
    where
      go : (x : Next O.State) → Owed n m O C ls x → status (decided n m O p s x) ≡ 0
      go (chose v d) q = refl
      go (nothing d) q = refl
      go stuck q = absurd (q f)

  -- (c)
  as_then : (s : Session n m O) (past : Past) → GoodAfter n m O C (log past) s → EachEvent (Moment n) past → (l : ℕ) → l < s.trail.level
      → AsThen l (went_back n m O l s).trail past
  as_then s past g ms l h =
      let (t, j, k) = find n l past ms (omega (arith, g.holds.opened.count, length_openings (book (log past)))) in
      (t, j, told (went n m O C l s g).holds ∙ sym k)

  unit_after : (s : Session n m O) (code : ℕ) → eqb (status (call n m O s (learn_unit code))) 0 ≡ true
      → (leaves s (call n m O s (learn_unit code))).trail ≡ enq_assignment code NONE (went_back n m O 0 s).trail
  unfolding call need enqueued
  unit_after s code = go (ltb (index code) n) (not (is_assigned (went_back n m O 0 s).trail.values (index code)))
    where
      u : Session n m O
      u = enqueued n m O code NONE (went_back n m O 0 s)

      go : (t t2 : Bool) → eqb (status (need t no_variable (need t2 assigned (done none u)))) 0 ≡ true
          → (leaves s (need t no_variable (need t2 assigned (done none u)))).trail ≡ u.trail
      go false t2 a = absurd (false≢true a)
      go true false a = absurd (false≢true a)
      go true true a = refl

  -- what every run keeps: its session is good, and the claim holds of it
  pub record Inv (r : Run n m O) : Type 0 where
    pub good : GoodAfter n m O C (log r.past) r.now
    pub moments : EachEvent (Moment n) r.past
    pub claim : Claim n m O r

  pub began : Inv (begin n m O)
  unfolding begin fresh EachEvent book openings values_of
  began = record {
    good = record { fine = fine_nil; holds = fresh_holds n; ok = rw (counts_nil O.switches) C.start_ok };
    moments = tt;
    claim = record { told = told (fresh_holds n); none_right = tt; back_right = tt; unit_right = tt };
  }

  pub stepped : (r : Run n m O) (c : Call) → Inv r → Inv (step n m O r c)
  unfolding step EachEvent
  stepped r c i =
      let s = r.now in
      let k : Kept n m O C (log r.past) s c (call n m O s c) = kept n m O C s (log r.past) i.good c in
      record {
        good = k.good;
        moments = ((told i.good.holds, told k.good.holds), i.moments);
        claim = record {
          told = told k.good.holds;
          none_right = ((λ p e a. rw e (none_right s (log r.past) i.good p (rw e at a))), i.claim.none_right);
          back_right = ((λ l e a h. rw e (unfold call in (as_then s r.past i.good i.moments l h))), i.claim.back_right);
          unit_right = (
            (λ code e a h. ((went_back n m O 0 s).trail, as_then s r.past i.good i.moments 0 h, rw e (unit_after s code (rw e at a)))),
            i.claim.unit_right,
          );
        };
      }

  -- a call that is refused, on whatever grounds
  pub turned_down : (r : Run n m O) (c : Call) (k : ℕ) → eqb k 0 ≡ false → Inv r → Inv (extended n m O r c (refuse k))
  unfolding EachEvent
  turned_down r c k z i =
      let g : Kept n m O C (log r.past) r.now c (refuse k) = refused n m O C r.now (log r.past) i.good k z in
      let never : eqb k 0 ≡ true → ⊥ = λ a. false≢true (sym z ∙ a) in
      record {
        good = g.good;
        moments = ((told i.good.holds, told g.good.holds), i.moments);
        claim = record {
          told = told g.good.holds;
          none_right = ((λ p e a. absurd (never a)), i.claim.none_right);
          back_right = ((λ l e a h. absurd (never a)), i.claim.back_right);
          unit_right = ((λ code e a h. absurd (never a)), i.claim.unit_right);
        };
      }

  -- so every run keeps it
  pub ran : (r : Run n m O) (calls : List Call) → Inv r → Inv (run n m O r calls)
  unfolding run
  ran r [] i = i
  ran r (c ∷ cs) i = ran (step n m O r c) cs (stepped r c i)

  -- every session of a run is good
  every : (calls : List Call) → Inv (run n m O (begin n m O) calls)
  every calls = ran (begin n m O) calls began

  pub term3 : Term3 n m O
  term3 calls = (every calls).claim

  pub settled_accepted : SettledAccepted n m O
  settled_accepted calls p f h = settled_now _ _ (every calls).good f p h
