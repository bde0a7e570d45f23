-- The session of either mode: every run of a sheet's calls keeps it good, its text is read back as it with the levels of unassigned variables forgotten, and what is read
-- is a text of a good session. Both modes by one argument over what each reads.
use Prim.Native.Nat.{ℕ, ◌≤◌}
use mathlib.Core.Path.{◌≡◌, refl, sym, ap, subst, ◌∙◌}
use mathlib.Core.Bool.{Bool, true, false}
use mathlib.Core.Option.{Option, none, some}
use mathlib.Core.List.{List, [], ◌∷◌}
use native.Mathlib.Omega.{arith}
use borrow.Author.Tests.{leb-true, le-leb}
use lib.Dec.{leb}
use lib.Ieee.{binary64}
use lib.Ieee.Bits.{of_bits-fits}
use lib.ListN.{length}
use Rattle.laws.specs.Each.{Each}
use Rattle.lit.specs.Numbers.{max_vars, many_vars, bad_clauses, bad_state}
use Rattle.formula.specs.Clauses.{clauses_ok}
use Rattle.formula.specs.Good.{GoodClauses, clauses_facts}
use Rattle.trail.specs.Good.{GoodTrail}
use Rattle.vsids.specs.Vsids as vsids-of
use Rattle.vmtf.specs.Fresh.{new_is}
use Rattle.book.specs.Calls.{Call}
use Rattle.book.specs.Session.{done, status, leaves, mapped, need, Session, fresh, call}
use Rattle.book.specs.Claim.{Run, starting_with, step, run}
use Rattle.book.specs.Saved.{forgotten}
use Rattle.session.specs.Entry.{sizes_checked, checked}
use Rattle.heap_entry.specs.Kept as heap-kept
use Rattle.list_session.specs.Kept as list_fresh
use Rattle.list_entry.specs.Checked as list-kept
use Rattle.carried.specs.Same.{Same}
use Rattle.carried.proofs.Calls.{read_same}
use Rattle.forms.specs.Forms.{Mode, vsids, vmtf}
use Rattle.saved_text.specs.Saved.{Saved, WellFormed, text_of}
use Rattle.saved_text.specs.Reading.{read_text}
use Rattle.saved_text.specs.Read.{read_said}
use Rattle.saved_state.specs.Written.{saved_of}
use Rattle.saved_state.specs.Said.{lits_said, ends_said}
use Rattle.saved_state.specs.Entry.{Reader, Memory, memory_said, read_with, read_into}
use Rattle.saved_state.specs.Judged.{same_lengths}
use Rattle.saved_state.specs.Sound.{state_test, Sound, saved_memory, saved_formed, saved_again, saved_back}
use Rattle.saved_state.specs.Sound as said
use Rattle.heap_saved.specs.Reader.{heap_reader}
use Rattle.heap_saved.specs.Sound.{heap_sound}
use Rattle.heap_saved.specs.Claims as heap-claims
use Rattle.list_saved.specs.Reader.{list_reader}
use Rattle.list_saved.specs.Sound.{list_sound}
use Rattle.list_saved.specs.Claims as list-claims
use Rattle.sheet.specs.Sheet.{ClauseList, chooser_of}
use Rattle.saved_sheet.specs.Sheets.{Held, text_held, text_room, heap_held, list_held, held_said, held_of, held_in}
use Rattle.saved_sheet.specs.Claims.{Savable, Good, read_held}
use Rattle.saved_sheet.proofs.Widths.{Double, heap_double, list_few}

-- ---- reading, in a mode

-- into memory of the text's lengths, whatever it holds
pub read_into_lem : {C : Type 0} (R : Reader C) (s : Saved) (lent : Memory C) → same_lengths R s.opening.vars (memory_said R s) lent ≡ true → read_into R s lent ≡ read_with R true s
unfolding read_into
read_into_lem R s lent e = rw e

module _ {C : Type 0} (R : Reader C) (S : Sound R) (hold : ℕ → Memory C → Held) (holds : (s : Saved) → held_said R.mode s ≡ mapped (hold s.opening.vars) (read_with R true s)) where
  -- what says a good session is taken
  said_taken : (s : Saved) → WellFormed s → s.opening.mode ≡ R.mode → S.Good s.opening.vars (memory_said R s) → held_said R.mode s ≡ done none (hold s.opening.vars (memory_said R s))
  unfolding checked sizes_checked need
  said_taken s w mode g =
      let n = s.opening.vars in
      let small = S.small n (memory_said R s) g in
      let c = S.clauses n (memory_said R s) g in
      holds s ∙ rw (le-leb n max_vars small, (clauses_facts n (lits_said s) (ends_said s)).1 c, (S.right s w mode small c).1 g)

  -- and nothing else is
  pub taken_said : (s : Saved) → WellFormed s → s.opening.mode ≡ R.mode → (r : Option ℕ) (h : Held) → held_said R.mode s ≡ done r h
      → S.Good s.opening.vars (memory_said R s) × (hold s.opening.vars (memory_said R s) ≡ h)
  unfolding checked sizes_checked need
  taken_said s w mode r h e =
      go (leb s.opening.vars max_vars) refl (clauses_ok s.opening.vars (lits_said s) (ends_said s)) refl (state_test R s) refl (sym (holds s) ∙ e)
    where
      go : (a : Bool) → leb s.opening.vars max_vars ≡ a → (c : Bool) → clauses_ok s.opening.vars (lits_said s) (ends_said s) ≡ c → (d : Bool) → state_test R s ≡ d
          → mapped (hold s.opening.vars) (need a many_vars (need c bad_clauses (need d bad_state (done none (memory_said R s))))) ≡ done r h
          → S.Good s.opening.vars (memory_said R s) × (hold s.opening.vars (memory_said R s) ≡ h)
      go false p c q d t e = absurd (omega (arith, ap status e))
      go true p false q d t e = absurd (omega (arith, ap status e))
      go true p true q false t e = absurd (omega (arith, ap status e))
      go true p true q true t e = ((S.right s w mode (leb-true _ _ p) ((clauses_facts _ _ _).0 q)).0 t, ap (leaves (hold s.opening.vars (memory_said R s))) e)

  -- the text of a good session is read as it, with levels forgotten
  pub text_read : (n : ℕ) (x : Memory C) → S.Good n x → held_in (text_of (saved_memory R S n x)) ≡ done none (hold n (said.forgotten x))
  unfolding held_in saved_of
  text_read n x g =
      let s = saved_memory R S n x in
      let w = saved_formed R S n x g in
      let again = saved_again R S n x g in
      rw ((read_said (text_of s) s).1 (w, refl))
      (said_taken s w refl (subst (λ (y : Memory C). S.Good n y) (sym again) (S.forgets n x g)) ∙ ap (λ (y : Memory C). done none (hold n y)) again)

-- ---- in either mode

abbrev held_with : (mode : Mode) (n : ℕ) (list : ClauseList) → Session n (length list.1) (chooser_of mode n list) → Held
held_with mode n list s = record { mode = mode; vars = n; list = list; run = starting_with n (length list.1) (chooser_of mode n list) s }

abbrev pub text_with : (mode : Mode) (n : ℕ) (list : ClauseList) → Session n (length list.1) (chooser_of mode n list) → List ℕ
text_with mode n list s = text_held (held_with mode n list s)

-- its text is read
read_with_lem : (mode : Mode) (n : ℕ) (list : ClauseList) (s : Session n (length list.1) (chooser_of mode n list)) → Savable mode n list s
    → held_in (text_with mode n list s) ≡ done none (held_with mode n list (forgotten s))
unfolding heap_sound list_sound
read_with_lem vsids n list s g = text_read heap_reader heap_sound heap_held (λ s. refl) n (list.0, list.1, s.trail, s.chooser) g
read_with_lem vmtf n list s g = text_read list_reader list_sound list_held (λ s. refl) n (list.0, list.1, s.trail, s.chooser) g

pub good_read : (h : Held) → Good h → held_in (text_held h) ≡ done none (read_held h)
good_read h g = read_with_lem h.mode h.vars h.list h.run.now g

-- what is read is the text of a good session
pub read_good : (text : List ℕ) (r : Option ℕ) (h : Held) → held_in text ≡ done r h → Good h × (text ≡ text_held h)
unfolding held_in heap_sound list_sound
read_good text r h e = go (read_text text) refl e
  where
    is : (s : Saved) → WellFormed s × (text ≡ text_of s) → (mode : Mode) → s.opening.mode ≡ mode → held_said mode s ≡ done r h → Good h × (text ≡ text_held h)
    is s (w, q) vsids m e =
        let t = taken_said heap_reader heap_sound heap_held (λ s. refl) s w m r h e in
        subst (λ (k : Held). Good k × (text ≡ text_held k)) t.1 (t.0, q ∙ ap text_of (sym (saved_back heap_reader heap_sound s w m t.0)))
    is s (w, q) vmtf m e =
        let t = taken_said list_reader list_sound list_held (λ s. refl) s w m r h e in
        subst (λ (k : Held). Good k × (text ≡ text_held k)) t.1 (t.0, q ∙ ap text_of (sym (saved_back list_reader list_sound s w m t.0)))

    go : (o : Option Saved) → read_text text ≡ o → held_of o ≡ done r h → Good h × (text ≡ text_held h)
    go none q e = absurd (omega (arith, ap status e))
    go (some s) q e = is s ((read_said text s).0 q) s.opening.mode refl e

-- it has room, forgets, and is the same for every call as what it is read back as
pub good_length : (mode : Mode) (n : ℕ) (list : ClauseList) (s : Session n (length list.1) (chooser_of mode n list)) → Savable mode n list s
    → length (text_with mode n list s) ≤ text_room n (length list.1) (length list.0)
good_length vsids n list s g = heap-claims.text_length n list.0 list.1 s.trail s.chooser g
good_length vmtf n list s g = list-claims.text_length n list.0 list.1 s.trail s.chooser g

pub good_forgets : (mode : Mode) (n : ℕ) (list : ClauseList) (s : Session n (length list.1) (chooser_of mode n list)) → Savable mode n list s → Savable mode n list (forgotten s)
unfolding heap_sound list_sound
good_forgets vsids n list s g = heap_sound.forgets n (list.0, list.1, s.trail, s.chooser) g
good_forgets vmtf n list s g = list_sound.forgets n (list.0, list.1, s.trail, s.chooser) g

good_trail : (mode : Mode) (n : ℕ) (list : ClauseList) (s : Session n (length list.1) (chooser_of mode n list)) → Savable mode n list s → GoodTrail n (length list.1) s.trail
good_trail vsids n list s g = g.0.trail
good_trail vmtf n list s g = g.1.trail

pub good_same : (mode : Mode) (n : ℕ) (list : ClauseList) (s : Session n (length list.1) (chooser_of mode n list)) → Savable mode n list s → Same s (forgotten s)
good_same mode n list s g = let z = (good_trail mode n list s g).lengths in read_same n (length list.1) (chooser_of mode n list) s (z.values_long ∙ sym z.levels_long)

-- the same sessions have one text
pub same_text : (mode : Mode) (n : ℕ) (list : ClauseList) (s t : Session n (length list.1) (chooser_of mode n list)) → Savable mode n list s → Savable mode n list t → Same s t
    → text_with mode n list s ≡ text_with mode n list t
same_text vsids n list s t g k e =
    (heap-claims.one_text n n list.0 list.0 list.1 list.1 s.trail t.trail s.chooser t.chooser g k).1 (refl, refl, refl, e.trail.read, e.chooser)
same_text vmtf n list s t g k e =
    (list-claims.one_text n n list.0 list.0 list.1 list.1 s.trail t.trail s.chooser t.chooser g k).1 (refl, refl, refl, e.trail.read, e.chooser)

-- a fresh session over a good clause list is good, and stays so
pub good_fresh : (mode : Mode) (n : ℕ) (list : ClauseList) → n ≤ max_vars → GoodClauses n list.0 list.1 → Savable mode n list (fresh n (length list.1) (chooser_of mode n list))
unfolding fresh vsids-of.new
good_fresh vsids n list small g = (heap-kept.fresh_good_session n (length list.1) list.0 list.1 small refl g, (of_bits-fits binary64 _, of_bits-fits binary64 _))
good_fresh vmtf n list small g = (g, list_fresh.fresh_good_session n (length list.1) list.0 small, omega (arith, (new_is n list.0 (omega arith)).1))

good_call : (mode : Mode) (n : ℕ) (list : ClauseList) (s : Session n (length list.1) (chooser_of mode n list)) → Savable mode n list s → (c : Call) → Double c
    → Savable mode n list (leaves s (call n (length list.1) (chooser_of mode n list) s c))
good_call vsids n list s g c d = (heap-kept.kept n (length list.1) list.0 list.1 s g.0 c, heap_double n (length list.1) list.0 list.1 s g.1 c d)
good_call vmtf n list s g c d =
    (g.0, list-kept.kept n (length list.1) list.0 s g.1 c, (list_few n (length list.1) list.0 s (g.2, omega (arith, g.1.list.1.linked.next_long, g.1.small)) c d).0)

pub good_run : (mode : Mode) (n : ℕ) (list : ClauseList) (r : Run n (length list.1) (chooser_of mode n list)) (cs : List Call) → Each Double cs → Savable mode n list r.now
    → Savable mode n list (run n (length list.1) (chooser_of mode n list) r cs).now
unfolding run step
good_run mode n list r [] d g = g
good_run mode n list r (c ∷ cs) d g = good_run mode n list (step n (length list.1) (chooser_of mode n list) r c) cs d.1 (good_call mode n list r.now g c d.0)
