-- A list of calls is the same as each call in a list of its own, checked every time, and that is the call on its entry point; what an accepted list
-- leaves is good. In either mode, by what it owes.
use Rattle.std.specs.Prelude.{ℕ, ◌≡◌, ◌≢◌, Bool, true, false, length, leb}
use Rattle.std.proofs.Math.Path.{refl}
use Rattle.std.proofs.Common.{sym, ap, ◌∙◌}
use Rattle.std.proofs.Math.Option.{Option, none, some}
use mathlib.Core.List.{List, [], ◌∷◌}
use Rattle.lit.specs.Numbers.{max_vars, many_vars, bad_length, bad_clauses, bad_state}
use Rattle.book.specs.Calls.{Call}
use Rattle.book.specs.Session.{Result, done, refuse, status, reply, leaves, need, Session}
use Rattle.book.specs.Mapped.{mapped_status}
use Rattle.book.specs.Claim.{starting_with, run}
use Rattle.book.specs.Read.{calls_of, called, called_kept}
use Rattle.session.specs.Asked.{Asked, asked}
use Rattle.session.specs.Entry.{sizes_checked, checked, reply_number}
use Rattle.session.specs.Checks.{state_refusal}
use Rattle.session.proofs.Checks.{accepted, checked_zero}
use Rattle.session.specs.Mode.{Mode, entered, entered_list}
use Rattle.session.specs.Entered.{Sound, RightScratch, GoodMemory}
use Rattle.session.proofs.Entered.{passed_good, good_passed, unchecked}
use Rattle.words.specs.Words.{word_call, calls_in, words_fit, told, entered_words, each_alone}
use Rattle.words.specs.Going.{ends, tells}
use Rattle.words.proofs.Going.{told_is}

-- with nothing to refuse behind the tests, the status is theirs
checked_refusal : {S : Type 0} (n : ℕ) (lengths clauses state : Bool) (r : Option ℕ) (u : S) → status (checked n lengths clauses state (done r u)) ≡ state_refusal n lengths clauses state
unfolding checked sizes_checked need
checked_refusal n lengths clauses state r u = go (leb n max_vars) lengths clauses state
  where
    go : (a b c d : Bool) → status (need a many_vars (need b bad_length (need c bad_clauses (need d bad_state (done r u)))))
        ≡ status (need {S = Unit {0}} a many_vars (need b bad_length (need c bad_clauses (need d bad_state (done none tt)))))
    go false b c d = refl
    go true false c d = refl
    go true true false d = refl
    go true true true false = refl
    go true true true true = refl

-- what is refused leaves what was there
leaves_refused : {S : Type 0} (s : S) (x : Result S) → status x ≢ 0 → leaves s x ≡ s
leaves_refused s (done r u) z = absurd (z refl)
leaves_refused s (refuse k) z = refl

module _ (n m : ℕ) (M : Mode) (lits : List ℕ) (literals : ℕ) (list-ends : List ℕ) (vars : List ℕ) where
  -- whether a list is refused, and why, hangs on what is lent alone: a list and each call of it alone are refused alike
  pub alone_refused : (words : List ℕ) (answers l a b : ℕ) (s : Session n m M.ops) → words_fit (length words) answers ≡ true
      → status (entered_words n m M lits literals list-ends vars words answers s) ≡ status (entered_words n m M lits literals list-ends vars (l ∷ (a ∷ (b ∷ []))) 2 s)
  unfolding entered_list
  alone_refused words answers l a b s e =
      let three = l ∷ (a ∷ (b ∷ [])) in
      rw (mapped_status (told vars words), mapped_status (told vars three), e, checked_refusal) (sym (checked_refusal n _ _ _ _ _))

  -- so where it is refused, each call alone changes nothing and tells nothing
  pub none_alone : (ws : List ℕ) (s : Session n m M.ops) → ((l a b : ℕ) → status (entered_words n m M lits literals list-ends vars (l ∷ (a ∷ (b ∷ []))) 2 s) ≢ 0)
      → each_alone n m M lits literals list-ends vars ws s ≡ (s, [])
  unfolding each_alone
  none_alone [] s z = refl
  none_alone (l ∷ []) s z = refl
  none_alone (l ∷ (a ∷ [])) s z = refl
  none_alone (l ∷ (a ∷ (b ∷ ws))) s z =
      rw (leaves_refused (s, []) (entered_words n m M lits literals list-ends vars (l ∷ (a ∷ (b ∷ []))) 2 s) (z l a b), none_alone ws s z)

  pub refused_alone : (words : List ℕ) (answers : ℕ) (s : Session n m M.ops) → words_fit (length words) answers ≡ true
      → status (entered_words n m M lits literals list-ends vars words answers s) ≢ 0 → each_alone n m M lits literals list-ends vars words s ≡ (s, [])
  refused_alone words answers s e z = none_alone words s (λ l a b q. z (alone_refused words answers l a b s e ∙ q))

  module _ (L : Sound n m M lits list-ends) where
    -- on good memory what is told is what the calls leave and tell in turn
    good_told : (words : List ℕ) (answers : ℕ) (s : Session n m M.ops) → GoodMemory L.Good lits literals list-ends s → words_fit (length words) answers ≡ true
        → let cs = calls_in vars words in
        entered_words n m M lits literals list-ends vars words answers s ≡ done none (ends n m M.ops s cs, tells n m M.ops s cs)
    unfolding entered_list
    good_told words answers s g e =
        rw (accepted n _ _ _ (done none (run n m M.ops (starting_with n m M.ops s) (calls_of (calls_in vars words)))) (good_passed n m M lits literals list-ends L (words_fit (length words) answers) s g e))
        (ap (λ p. done none p) (told_is n m M.ops vars words s))

    -- a list that is not refused had good memory, and fits
    passed : (words : List ℕ) (answers : ℕ) (s : Session n m M.ops) → L.Typed s.chooser → status (entered_words n m M lits literals list-ends vars words answers s) ≡ 0
        → GoodMemory L.Good lits literals list-ends s × (words_fit (length words) answers ≡ true)
    unfolding entered_list
    passed words answers s t z =
        let fit = words_fit (length words) answers in
        let x = entered_list n m M lits literals list-ends fit (calls_of (calls_in vars words)) s in
        passed_good n m M lits literals list-ends L fit s t (checked_zero n _ _ _ _ (sym (mapped_status (told vars words) x) ∙ z))

    -- calls in turn keep a good session
    ends_good : (cs : List (Option Call)) (s : Session n m M.ops) → L.Good s → L.Good (ends n m M.ops s cs)
    unfolding ends
    ends_good [] s g = g
    ends_good (c ∷ cs) s g = ends_good cs _ (called_kept L.Good s g (L.kept s g) c)

    each : (words : List ℕ) (s : Session n m M.ops) → GoodMemory L.Good lits literals list-ends s → let cs = calls_in vars words in
        each_alone n m M lits literals list-ends vars words s ≡ (ends n m M.ops s cs, tells n m M.ops s cs)
    unfolding each_alone calls_in ends tells
    each [] s g = refl
    each (l ∷ []) s g = refl
    each (l ∷ (a ∷ [])) s g = refl
    each (l ∷ (a ∷ (b ∷ ws))) s g =
        let c = word_call vars l a b in
        let u = leaves s (called n m M.ops s c) in
        let kept : GoodMemory L.Good lits literals list-ends u = record {
          founded = g.founded;
          stated = g.stated;
          session = called_kept L.Good s g.session (L.kept s g.session) c;
        } in
        rw (good_told (l ∷ (a ∷ (b ∷ []))) 2 s g refl, each ws u kept)

    module _ (words : List ℕ) (answers : ℕ) (s : Session n m M.ops) (typed : L.Typed s.chooser) (z : status (entered_words n m M lits literals list-ends vars words answers s) ≡ 0) where
      -- an accepted list comes to what its calls come to, each alone
      pub alone : entered_words n m M lits literals list-ends vars words answers s ≡ done none (each_alone n m M lits literals list-ends vars words s)
      alone = let p = passed words answers s typed z in good_told words answers s p.0 p.1 ∙ ap (λ q. done none q) (sym (each words s p.0))

      -- and leaves a good session
      pub list_good : (out : List ℕ) → L.Good (leaves (s, out) (entered_words n m M lits literals list-ends vars words answers s)).0
      list_good out = let p = passed words answers s typed z in rw (good_told words answers s p.0 p.1) (ends_good (calls_in vars words) s p.0.session)

    -- A call alone in a list is the call on its entry point: in the list's answer stand its status and its reply
    pub one_entered : (l a b : ℕ) (q : Asked) (s : Session n m M.ops) → L.Typed s.chooser → word_call vars l a b ≡ some (asked q) → RightScratch q
        → status (entered_words n m M lits literals list-ends vars (l ∷ (a ∷ (b ∷ []))) 2 s) ≡ 0 → let x = entered n m M lits literals list-ends q s in
        entered_words n m M lits literals list-ends vars (l ∷ (a ∷ (b ∷ []))) 2 s ≡ done none (leaves s x, status x ∷ (reply_number (reply x) ∷ []))
    unfolding calls_in ends tells called
    one_entered l a b q s t e f z =
        let p = passed (l ∷ (a ∷ (b ∷ []))) 2 s t z in
        good_told (l ∷ (a ∷ (b ∷ []))) 2 s p.0 p.1 ∙ (rw (e, unchecked n m M lits literals list-ends L q s p.0 f))
