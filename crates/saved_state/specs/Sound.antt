-- What each mode owes to reading and writing, and what follows for it: what is written of a good session has the form and says that session, and reading a text comes to
-- what `Judged` says. Assumes nothing.
use Rattle.std.specs.Prelude.{ℕ, ◌≤◌, ◌≡◌, ◌↔◌, Bool, ◌&&◌}
use Rattle.std.proofs.Math.Path.{refl, sym, ap}
use Rattle.std.proofs.Common.{◌∙◌, arith, leb-true, leb-false}
use Rattle.std.proofs.Math.Bool.{true, false, false≢true}
use Rattle.std.proofs.Math.Option.{none}
use mathlib.Core.List.{List, [], ◌∷◌, ◌++◌}
use Rattle.std.proofs.Math.Dec.{leb}
use Rattle.std.proofs.Math.ListN.{length}
use Rattle.lit.specs.Numbers.{NONE, max_vars, many_vars, bad_length, bad_clauses, bad_state, bad_saved}
use Rattle.formula.specs.Clauses.{clauses_ok}
use Rattle.formula.specs.Good.{GoodClauses, clauses_facts}
use Rattle.trail.specs.Good.{GoodTrail}
use Rattle.book.specs.Session.{Result, done, status, need}
use Rattle.book.specs.Saved.{forgot}
use Rattle.session.specs.Entry.{sizes_checked, checked}
use Rattle.saved_text.specs.Saved.{chooser_forms, Rows, Saved, WellFormed, text_of}
use Rattle.saved_state.specs.Written.{trail_rows, saved_of}
use Rattle.saved_state.specs.Said.{lits_said, ends_said, row, trail_said}
use Rattle.saved_state.specs.Entry.{Reader, Memory, memory_said, read_into}
use Rattle.saved_state.specs.Judged.{ClausesSaid, same_lengths, Judged, many_variables, other_lengths, bad_clauses_lem, bad_state_lem, taken}
use Rattle.saved_state.specs.OfClauses.{clauses_again, clauses_formed, clauses_back}
use Rattle.saved_state.specs.OfTrail.{trail_again, codes_formed, trail_formed, codes_back, trail_back}
use Rattle.saved_state.specs.Rows.{rows_are}

module _ {C : Type 0} where
  -- the memory with the levels of unassigned variables forgotten
  abbrev pub forgotten : Memory C → Memory C
  forgotten x = (x.0, x.1, forgot x.2, x.3)

  module _ (R : Reader C) where
    -- refusal 7: what is in use has room, and the state passes its test
    abbrev pub state_test : Saved → Bool
    state_test s = leb (length s.codes) s.opening.vars && leb (length (row s 3)) s.opening.vars && R.state (length (ends_said s)) (trail_said s) (R.said s)

    -- What a mode owes: which memories are good sessions over n variables, what is written of their choosers, that this is read back and written again, and that the tests
    -- pass exactly the good.
    pub record Sound : Type 1 where
      pub rows : C → List (List ℕ)
      pub Good : ℕ → Memory C → Type 0
      pub small : (n : ℕ) (x : Memory C) → Good n x → n ≤ max_vars
      pub clauses : (n : ℕ) (x : Memory C) → Good n x → GoodClauses n x.0 x.1
      pub trail : (n : ℕ) (x : Memory C) → Good n x → GoodTrail n (length x.1) x.2
      pub forgets : (n : ℕ) (x : Memory C) → Good n x → Good n (forgotten x)
      pub formed : (n : ℕ) (x : Memory C) → Good n x → Rows (chooser_forms R.mode n) (rows x.3)
      pub again : (n : ℕ) (x : Memory C) → Good n x → R.said (saved_of R.mode n x.0 x.1 x.2 (rows x.3)) ≡ x.3
      pub back : (s : Saved) → WellFormed s → s.opening.mode ≡ R.mode → Good s.opening.vars (memory_said R s) → rows (R.said s) ≡ row s 3 ∷ row s 4 ∷ row s 5 ∷ row s 6 ∷ []
      pub right : (s : Saved) → WellFormed s → s.opening.mode ≡ R.mode → s.opening.vars ≤ max_vars → ClausesSaid s
          → (state_test s ≡ true) ↔ Good s.opening.vars (memory_said R s)

    module _ (S : Sound) where
      -- what is written of a memory over n variables, and its text
      abbrev pub saved_memory : ℕ → Memory C → Saved
      saved_memory n x = saved_of R.mode n x.0 x.1 x.2 (S.rows x.3)

      abbrev pub IsText : List ℕ → ℕ → Memory C → Type 0
      IsText bytes n x = S.Good n x × (bytes ≡ text_of (saved_memory n x))

      module _ (n : ℕ) (x : Memory C) (g : S.Good n x) where
        -- it has the form
        pub saved_formed : WellFormed (saved_memory n x)
        unfolding saved_of
        saved_formed =
            let t = S.trail n x g in
            let few : length x.1 ≤ NONE = omega (arith, (S.clauses n x g).list.few_clauses) in
            record {
              vars = omega (arith, S.small n x g);
              clauses = clauses_formed (S.clauses n x g) (S.small n x g);
              codes = codes_formed t (S.small n x g) few;
              rows = trail_formed t (S.small n x g) few (chooser_forms R.mode n) (S.rows x.3) (S.formed n x g);
            }

        -- and says the memory, with the levels forgotten
        pub saved_again : memory_said R (saved_memory n x) ≡ forgotten x
        unfolding saved_of
        saved_again =
            let c = clauses_again (S.clauses n x g) in
            let lits = c.0 in
            let ends = c.1 in
            let t = trail_again (S.trail n x g) R.mode x.0 x.1 (S.rows x.3) in
            let chooser = S.again n x g in
            λ i. (lits i, ends i, t i, chooser i)

      -- a text that says a good memory is what is written of it
      pub saved_back : (s : Saved) → WellFormed s → s.opening.mode ≡ R.mode → S.Good s.opening.vars (memory_said R s) → saved_memory s.opening.vars (memory_said R s) ≡ s
      unfolding saved_of
      saved_back s w mode g =
          let n = s.opening.vars in
          let t = S.trail n (memory_said R s) g in
          let cs = clauses_back s.clauses in
          let codes = codes_back s w t in
          let first = trail_back s w t in
          let behind = S.back s w mode g in
          let rows : trail_rows (trail_said s) ++ S.rows (R.said s) ≡ s.rows = ap (λ (l : List (List ℕ)). l ++ S.rows (R.said s)) first ∙ ap (λ (l : List (List ℕ)). row s 0 ∷ row s 1 ∷ row s 2 ∷ l) behind ∙ sym (rows_are s w) in
          let same = sym mode in
          λ i. record { opening = record { vars = n; mode = same i }; clauses = cs i; codes = codes i; rows = rows i }

      -- what reading a text comes to
      pub judged : (s : Saved) (lent : Memory C) → WellFormed s → s.opening.mode ≡ R.mode → Judged R S.Good s lent (read_into R s lent)
      unfolding read_into checked sizes_checked need
      judged s lent w mode = go (leb s.opening.vars max_vars) refl (same_lengths R s.opening.vars (memory_said R s) lent) refl (clauses_ok s.opening.vars (lits_said s) (ends_said s)) refl (state_test s) refl
        where
          go : (a : Bool) → leb s.opening.vars max_vars ≡ a → (b : Bool) → same_lengths R s.opening.vars (memory_said R s) lent ≡ b → (c : Bool) → clauses_ok s.opening.vars (lits_said s) (ends_said s) ≡ c → (d : Bool) → state_test s ≡ d
              → Judged R S.Good s lent (need a many_vars (need b bad_length (need c bad_clauses (need d bad_state (done none (memory_said R s))))))
          go false p b q c r d t = many_variables (leb-false _ _ p)
          go true p false q c r d t = other_lengths (leb-true _ _ p) q
          go true p true q false r d t = bad_clauses_lem (leb-true _ _ p) q (λ k. false≢true (sym r ∙ (clauses_facts _ _ _).1 k))
          go true p true q true r false t = bad_state_lem (leb-true _ _ p) q ((clauses_facts _ _ _).0 r) (λ k. false≢true (sym t ∙ (S.right s w mode (leb-true _ _ p) ((clauses_facts _ _ _).0 r)).1 k))
          go true p true q true r true t = taken q ((S.right s w mode (leb-true _ _ p) ((clauses_facts _ _ _).0 r)).0 t)

    -- ---- what is refused and what is taken
    module _ {Good : ℕ → Memory C → Type 0} {s : Saved} {lent : Memory C} where
      pub never_form : {r : Result (Memory C)} → Judged R Good s lent r → ¬ (status r ≡ bad_saved)
      never_form (many_variables h) e = omega arith
      never_form (other_lengths h l) e = omega arith
      never_form (bad_clauses_lem h l c) e = omega arith
      never_form (bad_state_lem h l c g) e = omega arith
      never_form (taken l g) e = omega arith

      pub was_taken : {r : Result (Memory C)} → Judged R Good s lent r → status r ≡ 0 → (same_lengths R s.opening.vars (memory_said R s) lent ≡ true) × Good s.opening.vars (memory_said R s) × (r ≡ done none (memory_said R s))
      was_taken (many_variables h) e = absurd (omega arith)
      was_taken (other_lengths h l) e = absurd (omega arith)
      was_taken (bad_clauses_lem h l c) e = absurd (omega arith)
      was_taken (bad_state_lem h l c g) e = absurd (omega arith)
      was_taken (taken l g) e = (l, g, refl)

      pub is_taken : {r : Result (Memory C)} → Judged R Good s lent r → s.opening.vars ≤ max_vars → same_lengths R s.opening.vars (memory_said R s) lent ≡ true → ClausesSaid s → Good s.opening.vars (memory_said R s) → r ≡ done none (memory_said R s)
      is_taken (many_variables h) small l c g = absurd (omega arith)
      is_taken (other_lengths h n) small l c g = absurd (false≢true (sym n ∙ l))
      is_taken (bad_clauses_lem h k n) small l c g = absurd (n c)
      is_taken (bad_state_lem h k b n) small l c g = absurd (n g)
      is_taken (taken k b) small l c g = refl
