-- Term 3 on the entry points' own definition, in either mode: runs as in `book`, of calls that are checked first, whatever each is lent with, and of saves between
-- them. What is accepted finds the memory good for what it is lent with, so that what every run keeps goes on over that.
use Rattle.std.specs.Prelude.{ℕ, ◌≡◌, Bool, false, eqb, length}
use Rattle.std.proofs.Math.Path.{refl, ap, subst}
use Rattle.std.proofs.Common.{sym, ◌∙◌, true≢false, eqb-true}
use Rattle.std.proofs.Math.Bool.{true}
use Rattle.std.proofs.Math.Option.{none}
use mathlib.Core.List.{List, [], ◌∷◌, map}
use Rattle.laws.specs.Tests.{true_or_false}
use Rattle.laws.specs.Each.{Each}
use Rattle.book.specs.Calls.{Call}
use Rattle.book.specs.Session.{Result, done, refuse, status, leaves, mapped, call}
use Rattle.book.specs.Claim.{records_of, Run, starting_with, begin, extended, step, run, Claim}
use Rattle.book.proofs.Books.{length_values}
use Rattle.book.specs.Saved.{read_back}
use Rattle.book.specs.Read.{run_past}
use Rattle.book.proofs.Term3.{Inv, began, stepped, turned_down, ran}
use Rattle.book.proofs.OtherList.{over_run, claim_over, over_list}
use Rattle.book.proofs.Saved.{read_back_lem}
use Rattle.session.specs.Asked.{Asked, asked, Lending}
use Rattle.session.specs.Mode.{Mode, entered, entered_list, made}
use Rattle.session.proofs.Checks as check-laws
use Rattle.session.specs.Entered.{Sound, RightScratch, Founded, GoodMemory}
use Rattle.session.proofs.Entered.{passed_good, made_sizes, made_fresh, unchecked, bad_refused}
use Rattle.session.specs.Runs.{Family, FoundedBy, SessionOver, Turn, all_lent, entered_over, entered_with, gone_on, list_with, listed, moved, propagated, run_turns, saved, single, turn, with_curr}

-- M g is the mode over what g lends, and `into g h c` the memory c of its chooser as memory of the one over h.
module _ (M : Lending → Mode) (into : (g h : Lending) → (M g).ops.State → (M h).ops.State) where
  module _ (F : (Family M into)) (g : Lending) where
    -- a run over g, as one over h
    abbrev over : (h : Lending) → Run g.n g.m (M g).ops → Run h.n h.m (M h).ops
    over h r = over_run h.n h.m (M h).ops r (into g h r.now.chooser)

    -- what every run keeps, as one over h; and over what the last accepted call was lent with
    record KeepsOver (h : Lending) (r : Run g.n g.m (M g).ops) : Type 0 where
      pub same : h.n ≡ g.n
      pub founded : FoundedBy h
      pub inv : Inv h.n h.m (M h).ops (F.chooser h founded) (over h r)

    abbrev Keeps : Run g.n g.m (M g).ops → Type 0
    Keeps r = (h : Lending) × KeepsOver h r

    -- the memory is what the types of the lent slices say, and where it is good as lent with h, the run goes on over h
    typed_over : (h : Lending) (r : Run g.n g.m (M g).ops) → Keeps r → (F.sound h).Typed (into g h r.now.chooser)
    typed_over h r (w, p) = rw (F.through g w h r.now.chooser) at (F.typed w h p.founded _ _ (into g w r.now.chooser) p.inv.good.ok)

    carried : (h : Lending) (r : Run g.n g.m (M g).ops) → GoodMemory (F.sound h).Good h.lits h.literals h.ends ((moved M into) g h r.now) → Keeps r → KeepsOver h r
    carried h r k (w, p) =
        let c = r.now.chooser in
        let t = (F.sound h).trail ((moved M into) g h r.now) k.session in
        let e : w.n ≡ h.n = sym (length_values w.n _) ∙ sym (ap length p.inv.good.holds.values) ∙ t.lengths.values_long in
        record {
          same = sym e ∙ p.same;
          founded = k.founded;
          inv = over_list (over w r) (into g h c) e (F.switches w h) (F.chooser w p.founded) (F.chooser h k.founded) t
              (λ values on q. rw (F.through g w h c) at (F.carry w h p.founded k.founded e values on (into g w c) q)) p.inv;
        }

    -- the result over h, as one over g
    settle : (h : Lending) (f : FoundedBy h) (r : Run g.n g.m (M g).ops) (c : Call) (x : Result ((SessionOver M into) h))
        → Inv h.n h.m (M h).ops (F.chooser h f) (extended h.n h.m (M h).ops (over h r) c x)
        → Inv h.n h.m (M h).ops (F.chooser h f) (over h (extended g.n g.m (M g).ops r c (mapped ((moved M into) h g) x)))
    settle h f r c (done k u) i = rw (F.through h g h u.chooser ∙ F.self h u.chooser) i
    settle h f r c (refuse k) i = i

    refused : (h : Lending) (r : Run g.n g.m (M g).ops) (c : Call) (x : Result ((SessionOver M into) h)) → eqb (status x) 0 ≡ false → Keeps r → Keeps (extended g.n g.m (M g).ops r c (mapped ((moved M into) h g) x))
    refused h r c (done k u) z p = absurd (true≢false z)
    refused h r c (refuse k) z (w, p) = (w, record { same = p.same; founded = p.founded; inv = turned_down w.n w.m (M w).ops (F.chooser w p.founded) (over w r) c k z p.inv })

    -- an accepted call was lent good memory: the clause list that it was lent with, its scratch, and the session over them
    lent_good : (h : Lending) (a : Asked) (s : (SessionOver M into) g) → (F.sound h).Typed (into g h s.chooser) → status ((entered_over M into) g h a s) ≡ 0
        → GoodMemory (F.sound h).Good h.lits h.literals h.ends ((moved M into) g h s) × RightScratch a
    lent_good h a s t e = bad_refused h.n h.m (M h) h.lits h.literals h.ends (F.sound h) a ((moved M into) g h s) t e

    accepted : (h : Lending) (a : Asked) (r : Run g.n g.m (M g).ops) → status ((entered_over M into) g h a r.now) ≡ 0 → Keeps r
        → Keeps (extended g.n g.m (M g).ops r (asked a) ((entered_with M into) g h a r.now))
    unfolding step
    accepted h a r z p =
        let x = (entered_over M into) g h a r.now in
        let k = lent_good h a r.now (typed_over h r p) z in
        let q = carried h r k.0 p in
        let j = stepped h.n h.m (M h).ops (F.chooser h q.founded) (over h r) (asked a) q.inv in (
          h,
          record {
            same = q.same;
            founded = q.founded;
            inv = settle h q.founded r (asked a) x (rw (unchecked h.n h.m (M h) h.lits h.literals h.ends (F.sound h) a ((moved M into) g h r.now) k.0 k.1) j);
          },
        )

    one_call : (h : Lending) (a : Asked) (r : Run g.n g.m (M g).ops) → Keeps r → Keeps (extended g.n g.m (M g).ops r (asked a) ((entered_with M into) g h a r.now))
    one_call h a r p =
        let x = (entered_over M into) g h a r.now in
        true_or_false (eqb (status x) 0) (λ z. accepted h a r (eqb-true (status x) 0 z) p) (λ z. refused h r (asked a) x z p)

    -- a list of calls: refused, the run stays; else its memory is good over h, and the run goes on over h
    stays : (h : Lending) (r : Run g.n g.m (M g).ops) (x : Result (Run h.n h.m (M h).ops)) → eqb (status x) 0 ≡ false → (gone_on M into) g h r x ≡ r
    stays h r (done k u) z = absurd (true≢false z)
    stays h r (refuse k) z = refl

    goes : (h : Lending) (fit : Bool) (cs : List Call) (r : Run g.n g.m (M g).ops) → status ((list_with M into) g h fit cs r.now) ≡ 0 → Keeps r
        → KeepsOver h ((gone_on M into) g h r ((list_with M into) g h fit cs r.now))
    unfolding entered_list
    goes h fit cs r z p =
        let s = (moved M into) g h r.now in
        let e = check-laws.checked_zero h.n _ _ _ _ z in
        let q = carried h r (passed_good h.n h.m (M h) h.lits h.literals h.ends (F.sound h) fit s (typed_over h r p) e).0 p in
        let u = run h.n h.m (M h).ops (starting_with h.n h.m (M h).ops s) cs in
        let i = ran h.n h.m (M h).ops (F.chooser h q.founded) (over h r) cs q.inv in
        rw (check-laws.accepted h.n _ _ _ (done none u) e)
        (record { same = q.same; founded = q.founded; inv = rw (F.through h g h u.now.chooser ∙ F.self h u.now.chooser) (rw (run_past h.n h.m (M h).ops cs (over h r)) at i) })

    one_list : (h : Lending) (fit : Bool) (cs : List Call) (r : Run g.n g.m (M g).ops) → Keeps r → Keeps ((gone_on M into) g h r ((list_with M into) g h fit cs r.now))
    one_list h fit cs r p =
        let x = (list_with M into) g h fit cs r.now in
        true_or_false (eqb (status x) 0) (λ z. (h, goes h fit cs r (eqb-true (status x) 0 z) p)) (λ z. subst Keeps (sym (stays h r x z)) p)

    -- a save: what is kept behind a list without calls is kept behind the reading
    one_save : (h : Lending) (r : Run g.n g.m (M g).ops) (x : Result (Run h.n h.m (M h).ops)) → Keeps ((gone_on M into) g h r x) → Keeps ((gone_on M into) g h r (mapped read_back x))
    one_save h r (refuse k) p = p
    one_save h r (done k u) (w, p) = (w, record { same = p.same; founded = p.founded; inv = read_back_lem (F.chooser w p.founded) (over w ((gone_on M into) g h r (done k u))) p.inv })

    -- what every run keeps says nothing of `curr_i`
    placed : (curr : ℕ) (r : Run g.n g.m (M g).ops) → Keeps r → Keeps (with_curr curr r)
    unfolding records_of
    placed curr r (w, p) =
        let i = p.inv in
        let t = i.good.holds in
        let c = i.claim in (
          w,
          record {
            same = p.same;
            founded = p.founded;
            inv = record {
              good = record { fine = i.good.fine; holds = record { values = t.values; reasons = t.reasons; levels = t.levels; trail = t.trail; opened = t.opened }; ok = i.good.ok };
              moments = i.moments;
              claim = record { told = c.told; none_right = c.none_right; back_right = c.back_right; unit_right = c.unit_right };
            };
          },
        )

    one_turn : (r : Run g.n g.m (M g).ops) (t : Turn) → Keeps r → Keeps ((turn M into) g r t)
    unfolding turn
    one_turn r (single h a) p = one_call h a r p
    one_turn r (listed h fit cs) p = one_list h fit cs r p
    one_turn r (saved h) p = one_save h r ((list_with M into) g h true [] r.now) (one_list h true [] r p)
    one_turn r (propagated curr) p = placed curr r p

    along : (r : Run g.n g.m (M g).ops) (turns : List Turn) → Keeps r → Keeps ((run_turns M into) g r turns)
    unfolding run_turns
    along r [] p = p
    along r (t ∷ turns) p = along ((turn M into) g r t) turns (one_turn r t p)

    started : FoundedBy g → Keeps (begin g.n g.m (M g).ops)
    started f = (g, record { same = refl; founded = f; inv = rw (F.self g (begin g.n g.m (M g).ops).now.chooser) (began g.n g.m (M g).ops (F.chooser g f)) })

    claims : (r : Run g.n g.m (M g).ops) → Keeps r → Claim g.n g.m (M g).ops r
    claims r (w, p) = claim_over (over w r) r.now.chooser p.same (F.switches w g) p.inv.claim

    -- Term 3 of every row of turns from a fresh session
    pub turns_term3 : FoundedBy g → (turns : List Turn) → Claim g.n g.m (M g).ops ((run_turns M into) g (begin g.n g.m (M g).ops) turns)
    turns_term3 f turns = let start = begin g.n g.m (M g).ops in claims ((run_turns M into) g start turns) (along start turns (started f))

    -- and so from every session that an accepted creation made
    pub made_term3 : (scratch : Bool) (s : (SessionOver M into) g) → status (made g.n g.m (M g) g.lits g.literals g.ends scratch s) ≡ 0
        → (turns : List Turn) → let u = leaves s (made g.n g.m (M g) g.lits g.literals g.ends scratch s) in
        Claim g.n g.m (M g).ops ((run_turns M into) g (starting_with g.n g.m (M g).ops u) turns)
    unfolding begin
    made_term3 scratch s e turns =
        subst (λ (u : (SessionOver M into) g). Claim g.n g.m (M g).ops ((run_turns M into) g (starting_with g.n g.m (M g).ops u) turns))
        (sym (made_fresh g.n g.m (M g) g.lits g.literals g.ends scratch s e))
        (turns_term3 (made_sizes g.n g.m (M g) g.lits g.literals g.ends scratch s e) turns)

    -- a result over g, as one over g, is itself
    self_mapped : (x : Result ((SessionOver M into) g)) → mapped ((moved M into) g g) x ≡ x
    self_mapped (done k s) = rw (F.self g s.chooser)
    self_mapped (refuse k) = refl

    -- Lent as the session was made, and each with its scratch, checked calls run as the book runs them
    module _ (f : FoundedBy g) (el : length g.lits ≡ g.literals) where
      along_book : (r : Run g.n g.m (M g).ops) → (F.sound g).Good r.now → (asks : List Asked) → Each RightScratch asks
          → (run_turns M into) g r (all_lent g asks) ≡ run g.n g.m (M g).ops r (map asked asks)
      unfolding run_turns turn run step
      along_book r good [] z = refl
      along_book r good (a ∷ asks) z =
          let L = F.sound g in
          let same : (entered_with M into) g g a r.now ≡ call g.n g.m (M g).ops r.now (asked a) =
          rw (self_mapped, F.self g r.now.chooser) (unchecked g.n g.m (M g) g.lits g.literals g.ends L a r.now (record { founded = f; stated = el; session = good }) z.0) in
          ap (λ (x : Result ((SessionOver M into) g)). (run_turns M into) g (extended g.n g.m (M g).ops r (asked a) x) (all_lent g asks)) same
          ∙ along_book (step g.n g.m (M g).ops r (asked a)) (L.kept r.now good (asked a)) asks z.1

      pub lent_run : (asks : List Asked) → Each RightScratch asks → let start = begin g.n g.m (M g).ops in
          (run_turns M into) g start (all_lent g asks) ≡ run g.n g.m (M g).ops start (map asked asks)
      unfolding begin
      lent_run asks z = along_book (begin g.n g.m (M g).ops) ((F.sound g).fresh_good f.small f.stated f.clauses) asks z

-- every session of a run is good, so that a call on it, lent as it was made, is refused before its own tests only for a group's scratch
module _ (n m : ℕ) (M : Mode) (lits : List ℕ) (literals : ℕ) (ends : List ℕ) (L : Sound n m M lits ends) (f : Founded n m lits ends) where
  along_run : (r : Run n m M.ops) (calls : List Call) → L.Good r.now → L.Good (run n m M.ops r calls).now
  unfolding run step
  along_run r [] g = g
  along_run r (c ∷ calls) g = along_run (step n m M.ops r c) calls (L.kept r.now g c)

  pub run_good : (calls : List Call) → L.Good (run n m M.ops (begin n m M.ops) calls).now
  unfolding begin
  run_good calls = along_run (begin n m M.ops) calls (L.fresh_good f.small f.stated f.clauses)

  pub run_unchecked : length lits ≡ literals → (calls : List Call) (a : Asked) → RightScratch a → let s = (run n m M.ops (begin n m M.ops) calls).now in
      entered n m M lits literals ends a s ≡ call n m M.ops s (asked a)
  run_unchecked el calls a z = unchecked n m M lits literals ends L a _ (record { founded = f; stated = el; session = run_good calls }) z
