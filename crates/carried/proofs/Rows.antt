-- No turn tells the same sessions apart, where the check of a state is blind for levels of unassigned variables; and going back over a save, read off term 3.
use Prim.Native.Nat.{ℕ, ◌+◌}
use mathlib.Core.Path.{◌≡◌, refl, sym, ap, subst, ◌∙◌}
use mathlib.Core.Logic.{◌⊎◌, inl, inr}
use mathlib.Core.Bool.{Bool, true, false, false≢true}
use mathlib.Core.Option.{none}
use mathlib.Core.List.{List, [], ◌∷◌, ◌++◌, map-append}
use native.Mathlib.Omega.{arith}
use lib.ListN.{length}
use Rattle.formula.specs.Clauses.{clauses_ok}
use Rattle.trail.specs.Trail.{Trail}
use Rattle.trail.specs.Memory.{Sized}
use Rattle.book.specs.Calls.{Call, decide, go_back, Line, accepted}
use Rattle.book.specs.Session.{Result, done, refuse, status, leaves, log_line, mapped, need, call}
use Rattle.book.specs.Mapped.{mapped_status, mapped_reply, mapped_leaves}
use Rattle.book.specs.Claim.{Event, Past, records_of, Raises, JustBefore, here, earlier, BackRight, EachEvent, Run, starting_with, begin, step, run, Claim}
use Rattle.book.specs.Saved.{forgot, read_back}
use Rattle.session.specs.Asked.{Asked, asked, Lending}
use Rattle.session.specs.Entry.{sizes_checked, checked}
use Rattle.session.specs.Mode.{Mode, scratch_ok, lengths_ok, entered, entered_list}
use Rattle.session.specs.Sizes.{sizes_right}
use Rattle.session.specs.Runs.{SessionOver, moved, gone_on, Turn, single, listed, saved, propagated, with_curr, turn, run_turns, Family}
use Rattle.session.proofs.Runs.{turns_term3}
use Rattle.carried.specs.Same.{SameTrail, Same, SameResult, Alike}
use Rattle.carried.specs.Rows.{unsaved, EnteredSame, ListsSame, SavesUnseen, BackOverSave}
use Rattle.carried.proofs.Trails.{Facts, facts, same_refl, same_trans, forgot_same}
use Rattle.carried.proofs.Calls.{call_same, extended_alike, run_alike}

-- equal tests of what R relates where they pass, and where they do not
need_both : {S T : Type 0} (R : Result S → Result T → Type 0) → ((k : ℕ) → R (refuse k) (refuse k)) → (a b : Bool) (k : ℕ) (x : Result S) (y : Result T)
    → a ≡ b → (a ≡ true → R x y) → R (need a k x) (need b k y)
unfolding need
need_both R z true true k x y q f = f refl
need_both R z false false k x y q f = z k
need_both R z true false k x y q f = absurd (false≢true (sym q))
need_both R z false true k x y q f = absurd (false≢true q)

module _ (M : Lending → Mode) (into : (g h : Lending) → (M g).ops.State → (M h).ops.State) where
  -- the check of a state reads no level of an unassigned variable
  abbrev pub Blind : Type 0
  Blind = (g : Lending) (t u : Trail) (c : (M g).ops.State) → Sized g.n t → SameTrail t u → (M g).state t c ≡ (M g).state u c

  -- what is lent beside the session fits, or does not; the tests are passed or failed alike
  module _ (blind : Blind) (h : Lending) (fit : Bool) (s t : SessionOver M into h) (e : Same s t) {S T : Type 0} (R : Result S → Result T → Type 0) (refusals : (k : ℕ) → R (refuse k) (refuse k)) where
    abbrev long : SessionOver M into h → Bool
    long u = lengths_ok h.n h.m (M h) h.lits h.literals h.ends u fit

    abbrev tests : {U : Type 0} → SessionOver M into h → Result U → Result U
    tests u x = checked h.n (long u) (clauses_ok h.n h.lits h.ends) ((M h).state u.trail u.chooser) x

    sized : long s ≡ true → Sized h.n s.trail
    sized z = (sizes_right h.n h.m (M h) h.lits h.literals h.ends s fit z).0.trail

    same_lengths : long s ≡ long t
    unfolding lengths_ok
    same_lengths =
        let f : Facts s.trail t.trail = facts e.trail in
        let l : length s.trail.levels ≡ length t.trail.levels = e.trail.long in
        let c : s.chooser ≡ t.chooser = e.chooser in
        cc

    checked_both : (x : Result S) (y : Result T) → (Sized h.n s.trail → R x y) → R (tests s x) (tests t y)
    unfolding checked sizes_checked
    checked_both x y f =
        need_both R refusals _ _ _ _ _ refl (λ _.
        need_both R refusals _ _ _ _ _ same_lengths (λ z.
        need_both R refusals _ _ _ _ _ refl (λ _.
        need_both R refusals _ _ _ _ _ (blind h s.trail t.trail s.chooser (sized z) e.trail ∙ ap ((M h).state t.trail) e.chooser) (λ _.
        f (sized z)))))

  module _ (blind : Blind) (h : Lending) where
    pub entered_same : EnteredSame M h
    unfolding entered
    entered_same a s t e =
        checked_both blind h (scratch_ok a.call (length a.vars) (length a.stamps) (length a.order)) s t e (SameResult s t) (λ k. record { same_status = refl; same_reply = refl; same_left = e }) _ _ (λ _.
        call_same h.n h.m (M h).ops s t (asked a) e)

    pub lists_same : ListsSame M h
    unfolding entered_list
    lists_same fit cs s t e =
        let begins = starting_with h.n h.m (M h).ops in
        let a : Alike (begins s) (begins t) = record { answers = refl; ends = e } in
        checked_both blind h fit s t e (λ x y. (status x ≡ status y) × Alike (leaves (begins s) x) (leaves (begins t) y)) (λ k. (refl, a)) _ _ (λ _.
        (refl, run_alike h.n h.m (M h).ops (begins s) (begins t) cs a))

  module _ (blind : Blind) (F : Family M into) (g : Lending) where
    -- a session over g, taken over h and back
    returned : (h : Lending) (c : (M g).ops.State) → into h g (into g h c) ≡ c
    returned h c = F.through g h g c ∙ F.self g c

    there : (h : Lending) {s t : SessionOver M into g} → Same s t → Same (moved M into g h s) (moved M into g h t)
    there h e = record { trail = e.trail; chooser = ap (into g h) e.chooser }

    back_left : (h : Lending) (s : SessionOver M into g) (x : Result (SessionOver M into h)) → moved M into h g (leaves (moved M into g h s) x) ≡ leaves s (mapped (moved M into h g) x)
    back_left h s x =
        sym (mapped_leaves (moved M into h g) (moved M into g h s) x)
        ∙ ap (λ (c : (M g).ops.State). leaves (record { trail = s.trail; chooser = c }) (mapped (moved M into h g) x)) (returned h s.chooser)

    back_same : (h : Lending) (s t : SessionOver M into g) (x y : Result (SessionOver M into h)) → SameResult (moved M into g h s) (moved M into g h t) x y
        → SameResult s t (mapped (moved M into h g) x) (mapped (moved M into h g) y)
    back_same h s t x y k = record {
      same_status = mapped_status (moved M into h g) x ∙ k.same_status ∙ sym (mapped_status (moved M into h g) y);
      same_reply = mapped_reply (moved M into h g) x ∙ k.same_reply ∙ sym (mapped_reply (moved M into h g) y);
      same_left =
          subst (λ (u : SessionOver M into g). Same u (leaves t (mapped (moved M into h g) y))) (back_left h s x)
          (subst (λ (u : SessionOver M into g). Same (moved M into h g (leaves (moved M into g h s) x)) u) (back_left h t y)
          (record { trail = k.same_left.trail; chooser = ap (into h g) k.same_left.chooser }));
    }

    module _ (r q : Run g.n g.m (M g).ops) (a : Alike r q) where
      single_alike : (h : Lending) (x : Asked) → Alike (turn M into g r (single h x)) (turn M into g q (single h x))
      unfolding turn
      single_alike h x = extended_alike g.n g.m (M g).ops r q (asked x) _ _ a (back_same h r.now q.now _ _ (entered_same blind h x _ _ (there h a.ends)))

      listed_alike : (h : Lending) (fit : Bool) (cs : List Call) → Alike (turn M into g r (listed h fit cs)) (turn M into g q (listed h fit cs))
      unfolding turn entered_list
      listed_alike h fit cs =
          let s = moved M into g h r.now in
          let t = moved M into g h q.now in
          checked_both blind h fit s t (there h a.ends) (λ x y. Alike (gone_on M into g h r x) (gone_on M into g h q y)) (λ k. a) _ _ (λ _.
          let u = run h.n h.m (M h).ops (starting_with h.n h.m (M h).ops s) cs in
          let w = run h.n h.m (M h).ops (starting_with h.n h.m (M h).ops t) cs in
          let b : Alike u w = run_alike h.n h.m (M h).ops _ _ cs (record { answers = refl; ends = there h a.ends }) in
          record {
            answers = map-append _ u.past r.past ∙ rw (b.answers, a.answers) (sym (map-append _ w.past q.past));
            ends = record { trail = b.ends.trail; chooser = ap (into h g) b.ends.chooser };
          })

      -- where a save is accepted each variable has its level
      saved_alike : (h : Lending) → Alike r (turn M into g q (saved h))
      unfolding turn entered_list run
      saved_alike h =
          let t = moved M into g h q.now in
          checked_both blind h true t t (record { trail = same_refl t.trail; chooser = refl }) (λ x y. Alike r (gone_on M into g h q (mapped read_back y))) (λ k. a)
          (done none (starting_with h.n h.m (M h).ops t)) _ (λ z. record {
            answers = a.answers;
            ends = record {
              trail = same_trans a.ends.trail (forgot_same q.now.trail (z.values_long ∙ sym z.levels_long));
              chooser = a.ends.chooser ∙ sym (returned h q.now.chooser);
            };
          })

      propagated_alike : (curr : ℕ) → Alike (with_curr curr r) (with_curr curr q)
      unfolding forgot
      propagated_alike curr =
          let f : Facts r.now.trail q.now.trail = facts a.ends.trail in
          record { answers = a.answers; ends = record { trail = record { read = cc; long = a.ends.trail.long }; chooser = a.ends.chooser } }

    along : (r q : Run g.n g.m (M g).ops) (turns : List Turn) → Alike r q → Alike (run_turns M into g r (unsaved turns)) (run_turns M into g q turns)
    unfolding run_turns unsaved
    along r q [] a = a
    along r q (single h x ∷ turns) a = along (turn M into g r (single h x)) (turn M into g q (single h x)) turns (single_alike r q a h x)
    along r q (listed h fit cs ∷ turns) a = along (turn M into g r (listed h fit cs)) (turn M into g q (listed h fit cs)) turns (listed_alike r q a h fit cs)
    along r q (saved h ∷ turns) a = along r (turn M into g q (saved h)) turns (saved_alike r q a h)
    along r q (propagated curr ∷ turns) a = along (turn M into g r (propagated curr)) (turn M into g q (propagated curr)) turns (unfold turn in (propagated_alike r q a curr))

    pub saves_unseen : SavesUnseen M into g
    saves_unseen r turns = along r r turns (record { answers = refl; ends = record { trail = same_refl r.now.trail; chooser = refl } })

-- ---- going back over a save

-- what holds of every refusal, and of x, holds of x behind the tests
need_any : {S : Type 0} (P : Result S → Type 0) → ((k : ℕ) → P (refuse k)) → (a : Bool) (k : ℕ) (x : Result S) → P x → P (need a k x)
unfolding need
need_any P z true k x p = p
need_any P z false k x p = z k

checked_any : {S : Type 0} (P : Result S → Type 0) → ((k : ℕ) → P (refuse k)) → (n : ℕ) (lengths clauses state : Bool) (x : Result S) → P x → P (checked n lengths clauses state x)
unfolding checked sizes_checked
checked_any P z n lengths clauses state x p = need_any P z _ _ _ (need_any P z _ _ _ (need_any P z _ _ _ (need_any P z _ _ _ p)))

-- a decision that raised the level is the latest that did
latest : {l : ℕ} {t : Trail} {ev : Event} {past : Past} → JustBefore l t (ev ∷ past) → Raises l ev → ev.before ≡ t
latest (here _ e) r = e
latest (earlier f _) r = absurd (f r)

module _ (M : Lending → Mode) (into : (g h : Lending) → (M g).ops.State → (M h).ops.State) (g : Lending) where
  turns_append : (r : Run g.n g.m (M g).ops) (before after : List Turn) → run_turns M into g r (before ++ after) ≡ run_turns M into g (run_turns M into g r before) after
  unfolding run_turns
  turns_append r [] after = refl
  turns_append r (t ∷ before) after = turns_append (turn M into g r t) before after

  -- q is r with one event more, of the call c that was lent with h
  record Latest (h : Lending) (c : Call) (r q : Run g.n g.m (M g).ops) : Type 0 where
    pub event : Event
    pub past : q.past ≡ event ∷ r.past
    pub line : event.line ≡ log_line c (call h.n h.m (M h).ops (moved M into g h r.now) c)
    pub before : event.before ≡ r.now.trail
    pub after : event.after ≡ q.now.trail

  module _ (r : Run g.n g.m (M g).ops) (h : Lending) where
    -- of a list with one call the run stays, or that call is the latest
    one_listed : (fit : Bool) (c : Call) → let q = turn M into g r (listed h fit (c ∷ [])) in (q ≡ r) ⊎ Latest h c r q
    unfolding turn entered_list run step
    one_listed fit c =
        checked_any (λ x. let q = gone_on M into g h r x in (q ≡ r) ⊎ Latest h c r q) (λ k. inl refl) _ _ _ _ _
        (inr (record { event = _; past = refl; line = refl; before = refl; after = refl }))

    -- a save leaves past and level
    saved_past : let q = turn M into g r (saved h) in (q.past ≡ r.past) × (q.now.trail.level ≡ r.now.trail.level)
    unfolding turn entered_list run forgot
    saved_past = checked_any (λ x. let q = gone_on M into g h r (mapped read_back x) in (q.past ≡ r.past) × (q.now.trail.level ≡ r.now.trail.level)) (λ k. (refl, refl)) _ _ _ _ _ (refl, refl)

  -- r, with a decision m, with a save d, gone back b
  over_save : (r m d b : Run g.n g.m (M g).ops) (h k : Lending) (p : ℕ) → let l = r.now.trail.level in
      (m ≡ r) ⊎ Latest h (decide p) r m → (d.past ≡ m.past) × (d.now.trail.level ≡ m.now.trail.level) → (b ≡ d) ⊎ Latest k (go_back l) d b
      → d.now.trail.level ≡ l + 1 → b.now.trail.level ≡ l → Claim g.n g.m (M g).ops b → records_of b.now.trail ≡ records_of r.now.trail
  unfolding EachEvent call
  over_save r m d b h k p (inl same) s y up down c = absurd (let e = ap (λ (q : Run g.n g.m (M g).ops). q.now.trail.level) same in omega (arith, s.1))
  over_save r m d b h k p (inr x) s (inl same) up down c = absurd (let e = ap (λ (q : Run g.n g.m (M g).ops). q.now.trail.level) same in omega arith)
  over_save r m d b h k p (inr x) s (inr y) up down c =
      let l = r.now.trail.level in
      let level : Trail → ℕ = λ t. t.level in
      let back : EachEvent BackRight (y.event ∷ d.past) = subst (EachEvent BackRight) y.past c.back_right in
      let (t, j, e) = back.0 l (ap (λ (z : Line). z.call) y.line) (ap accepted y.line) (omega (arith, ap level y.before)) in
      let j' : JustBefore l t (x.event ∷ r.past) = subst (JustBefore l t) (s.0 ∙ x.past) j in
      let raises : Raises l x.event = record {
        polarity = p;
        decision = ap (λ (z : Line). z.call) x.line;
        from = ap level x.before;
        to = ap level x.after ∙ sym s.1 ∙ up;
      } in
      ap records_of (sym y.after) ∙ e ∙ ap records_of (sym (latest j' raises) ∙ x.before)

  pub back_over_save : Family M into → BackOverSave M into g
  unfolding run_turns
  back_over_save F f turns h j k fit fit' p up down =
      let start = begin g.n g.m (M g).ops in
      let r = run_turns M into g start turns in
      let m = turn M into g r (listed h fit (decide p ∷ [])) in
      let d = turn M into g m (saved j) in
      let back = go_back r.now.trail.level in
      let more = listed h fit (decide p ∷ []) ∷ saved j ∷ listed k fit' (back ∷ []) ∷ [] in
      over_save r m d (turn M into g d (listed k fit' (back ∷ []))) h k p (one_listed r h fit (decide p)) (saved_past m j) (one_listed d k fit' back) up down
      (subst (Claim g.n g.m (M g).ops) (turns_append start turns more) (turns_term3 M into F g f (turns ++ more)))
