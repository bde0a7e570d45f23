-- Reading a saved session in list mode into lent memory: what was loaded tells the answer, and what is then copied is what the text says. Assumes nothing.
use Rattle.std.specs.Prelude.{ℕ, ◌≤◌, ◌<◌, ◌≡◌, refl, Bool, true, false, ◌&&◌, List, length, take, Some, None, is_ok}
use Rattle.std.proofs.Common.{sym, ap, subst, ◌∙◌, arith}
use Rattle.std.proofs.Math.Option.{Option, none, some}
use Rattle.lit.specs.Numbers.{NONE, max_vars, max_clauses, max_literals, many_vars, bad_length, bad_saved}
use Rattle.formula.specs.Good.{clauses_facts}
use Rattle.trail.specs.Memory.{Sized, trail_of}
use Rattle.vmtf.specs.Vmtf.{Vmtf, vmtf_of}
use Rattle.session.specs.Entry.{Answered}
use Rattle.session.specs.Mode.{trail_lengths, clause_lengths}
use Rattle.session.specs.Sizes.{sized_trail, both}
use Rattle.session.specs.Checks.{state_refusal}
use Rattle.session.proofs.Checks.{state_passed}
use Rattle.list_entry.specs.Entry.{list_lengths}
use Rattle.list_entry.specs.Checked.{ListSized, sized_list}
use Rattle.forms.specs.Forms.{vmtf, Opening}
use Rattle.saved_text.specs.Saved.{Saved}
use Rattle.saved_text.specs.Reading.{read_text}
use Rattle.saved_text.specs.Form.{OpensWith, opened}
use Rattle.saved_text.specs.FormLaws.{opens_said}
use Rattle.saved_state.specs.Said.{lits_said, ends_said}
use Rattle.saved_state.specs.Entry.{same_mode, Memory, read}
use Rattle.saved_state.specs.Judging.{clauses_fit, form_or, LoadedIs, ends_length}
use Rattle.saved_state.specs.Answering.{read_refused, read_taken, read_own, read_none, read_other, read_form, read_many, read_unlike}
use Rattle.list_session.specs.declared.ListState.{ListState}
use Rattle.saved_state.specs.declared.judging.Loaded.{Loaded}
use Rattle.list_saved.specs.Reader.{list_reader}
use Rattle.list_saved.specs.Loading.{state_in, Loads}

-- bytes that say nothing are refused
pub answers_none : (text : List ℕ) (before : Memory Vmtf) (lits ends values levels reasons trail levelled next prev ts : List ℕ)
    → Loads (read_text text) None lits ends values levels reasons trail levelled next prev ts → Answered (read list_reader text before) before bad_saved NONE before
answers_none text before lits ends values levels reasons trail levelled next prev ts k = read_none list_reader text before (go (read_text text) k)
  where
    go : (o : Option Saved) → Loads o None lits ends values levels reasons trail levelled next prev ts → o ≡ none
    go none m = refl
    go (some s) (l, same, is) = let z : ◌≡◌ {A = ℕ} 0 1 = cc in absurd (omega arith)

-- a text of the other mode; more variables than there may be; slices of other lengths than the text says
pub answers_heap : {text : List ℕ} {at n : ℕ} → OpensWith text at (opened n false) → (before : Memory Vmtf) → Answered (read list_reader text before) before bad_saved NONE before
answers_heap {text} w before = go (read_text text) refl
  where
    go : (o : Option Saved) → read_text text ≡ o → Answered (read list_reader text before) before bad_saved NONE before
    go none e = read_none list_reader text before e
    go (some s) e = read_other list_reader text before s e (ap (λ (o : Opening). same_mode vmtf o.mode) (opens_said w s e).1)

module _ {text : List ℕ} {at n : ℕ} (w : OpensWith text at (opened n true)) (before : Memory Vmtf) {v : ℕ} where
  pub answers_many : max_vars < n → v ≡ form_or (read_text text) many_vars → Answered (read list_reader text before) before v NONE before
  answers_many many e = read_form list_reader text before e (λ s is.
      let o = (opens_said w s is).1 in read_many list_reader text before s is (ap (λ (o : Opening). o.mode) o) (omega (arith, many, ap (λ (o : Opening). o.vars) o)))

  pub answers_unlike : n ≤ max_vars → ((b : Bool) → trail_lengths n before.2 && (list_lengths n before.3 && b) ≡ false) → v ≡ form_or (read_text text) bad_length → Answered (read list_reader text before) before v NONE before
  answers_unlike few unlike e = read_form list_reader text before e (λ s is.
      let o = (opens_said w s is).1 in
      let vars = ap (λ (o : Opening). o.vars) o in
      read_unlike list_reader text before s is (ap (λ (o : Opening). o.mode) o) (omega (arith, few, vars)) (λ b. rw vars (unlike b)))

module _ {text : List ℕ} {at n : ℕ} (w : OpensWith text at (opened n true)) (l : Loaded ListState) (lits ends values levels reasons trail levelled next prev ts : List ℕ)
    (k : Loads (read_text text) (Some l) lits ends values levels reasons trail levelled next prev ts) where
  -- what was loaded is what the text says
  pub loaded_some : (s : Saved) × (read_text text ≡ some s) × (s.opening.mode ≡ vmtf) × (s.opening.vars ≡ n)
      × LoadedIs list_reader s l.literals l.clauses (clauses_fit l.state) (is_ok l.state) lits ends (trail_of values levels reasons trail levelled (state_in l.state).trail) (vmtf_of next prev ts (state_in l.state).vmtf)
  loaded_some = go (read_text text) refl k
    where
      go : (o : Option Saved) → read_text text ≡ o → Loads o (Some l) lits ends values levels reasons trail levelled next prev ts
          → (s : Saved) × (o ≡ some s) × (s.opening.mode ≡ vmtf) × (s.opening.vars ≡ n)
          × LoadedIs list_reader s l.literals l.clauses (clauses_fit l.state) (is_ok l.state) lits ends (trail_of values levels reasons trail levelled (state_in l.state).trail) (vmtf_of next prev ts (state_in l.state).vmtf)
      go none e m = let z : ◌≡◌ {A = ℕ} 0 1 = cc in absurd (omega arith)
      go (some s) e (l', same, is) =
          let x = opens_said w s e in
          let those : l' ≡ l = cc in
          (s, refl, ap (λ (o : Opening). o.mode) x.1, ap (λ (o : Opening). o.vars) x.1, subst (λ (m : Loaded ListState). LoadedIs list_reader s m.literals m.clauses (clauses_fit m.state) (is_ok m.state) lits ends (trail_of values levels reasons trail levelled (state_in m.state).trail) (vmtf_of next prev ts (state_in m.state).vmtf)) those is)

  module _ (before : Memory Vmtf) (sized : Sized n before.2) (list_sized : ListSized n before.3) where
    abbrev refusal : ℕ
    refusal = state_refusal n (clause_lengths l.literals l.clauses before.0 before.1) (clauses_fit l.state) (is_ok l.state)

    pub answers_refused : {v : ℕ} → v ≡ refusal → (v ≡ 0 → ⊥) → Answered (read list_reader text before) before v NONE before
    answers_refused {v} e z =
        let x = loaded_some in
        let s = x.0 in
        let t = subst (λ (m : ℕ). Sized m before.2) (sym x.3) sized in
        let h = subst (λ (m : ℕ). ListSized m before.3) (sym x.3) list_sized in
        rw (read_own list_reader text before s x.1 x.2) (read_refused list_reader before x.4 (sized_trail s.opening.vars before.2 t) (sized_list s.opening.vars before.3 h) (e ∙ ap (λ (m : ℕ). state_refusal m (clause_lengths l.literals l.clauses before.0 before.1) (clauses_fit l.state) (is_ok l.state)) (sym x.3)) z)

    module _ (none-fits : 0 ≡ refusal) where
      -- the counts are those of the slices, and within the limits
      pub counts_fit : (length before.0 ≡ l.literals) × (length before.1 ≡ l.clauses) × (l.literals ≤ max_literals) × (l.clauses ≤ max_clauses)
      counts_fit =
          let x = loaded_some in
          let p = state_passed n (clause_lengths l.literals l.clauses before.0 before.1) (clauses_fit l.state) (is_ok l.state) none-fits in
          let lengths = both _ _ _ _ p.0.lengths_ok_lem in
          let g = (clauses_facts x.0.opening.vars (lits_said x.0) (ends_said x.0)).0 (sym x.4.good_clauses ∙ p.0.clauses_ok_lem) in
          (lengths.0, lengths.1, omega (arith, g.list.few_literals_lem, x.4.literal_count), omega (arith, g.list.few_clauses, x.4.clause_count))

      pub answers_taken : l.literals ≤ length lits → l.clauses ≤ length ends → (after : Memory Vmtf) → after.0 ≡ take l.literals lits → after.1 ≡ take l.clauses ends
          → after.2 ≡ trail_of values levels reasons trail levelled (state_in l.state).trail → after.3 ≡ vmtf_of next prev ts (state_in l.state).vmtf → Answered (read list_reader text before) before 0 NONE after
      answers_taken more-lits more-ends after a b c d =
          let x = loaded_some in
          let s = x.0 in
          let i = x.4 in
          let p = state_passed n (clause_lengths l.literals l.clauses before.0 before.1) (clauses_fit l.state) (is_ok l.state) none-fits in
          let t = subst (λ (m : ℕ). Sized m before.2) (sym x.3) sized in
          let h = subst (λ (m : ℕ). ListSized m before.3) (sym x.3) list_sized in
          let count : l.clauses ≡ length s.clauses = i.clause_count ∙ ends_length 0 s.clauses in
          let codes : after.0 ≡ lits_said s = a ∙ ap (λ (m : ℕ). take m lits) i.literal_count ∙ i.held.codes_held (omega (arith, i.literal_count)) in
          let those : after.1 ≡ ends_said s = b ∙ ap (λ (m : ℕ). take m ends) count ∙ i.held.ends_held (omega (arith, i.literal_count)) (omega (arith, count)) in
          let at-trail = c ∙ i.trail_said_lem p.1 in
          let at_list = d ∙ i.chooser_said p.1 in
          rw (read_own list_reader text before s x.1 x.2) (read_taken list_reader before i (sized_trail s.opening.vars before.2 t) (sized_list s.opening.vars before.3 h) (none-fits ∙ ap (λ (m : ℕ). state_refusal m (clause_lengths l.literals l.clauses before.0 before.1) (clauses_fit l.state) (is_ok l.state)) (sym x.3)) (λ j. (codes j, those j, at-trail j, at_list j)))
