-- Reading a saved session in heap mode: the rows from which trail and heap are restored, and what was read where they have no room. Assumes nothing.
use Rattle.std.specs.Prelude.{ℕ, ◌<◌, ◌≤◌, ◌≡◌, refl, Bool, true, false, List, [], ◌∷◌, ◌++◌, length, get_or, take, Float, Some, None, Result, Ok, Err, is_ok}
use Rattle.std.specs.Prelude as code
use Rattle.std.proofs.Common.{sym, ap, subst, ◌∙◌, arith, le-leb, take_at}
use Rattle.std.proofs.lemmas.Bool.{false≢true}
use Rattle.std.proofs.Math.Option.{Option, none, some}
use Rattle.laws.specs.Each.{Each}
use Rattle.laws.specs.Tests.{not_true}
use Rattle.lit.specs.Numbers.{max_vars}
use Rattle.lit.specs.Lits.{index}
use Rattle.formula.specs.Clauses.{clauses_ok}
use Rattle.formula.specs.Good.{clauses_facts}
use Rattle.trail.specs.Trail.{Trail}
use Rattle.trail.specs.Memory.{Lengths, trail_of}
use Rattle.vsids.specs.Vsids.{Vsids, vsids_of}
use Rattle.vmtf.specs.Vmtf.{Vars}
use Rattle.heap_session.specs.declared.HeapState.{HeapState}
use Rattle.heap_session.specs.Check.{state_ok}
use Rattle.heap_entry.specs.Entry.{blank}
use Rattle.forms.specs.Forms.{vsids, Opening}
use Rattle.saved_text.specs.declared.form.Clauses.{Clauses}
use Rattle.saved_text.specs.declared.form.TrailRows.{TrailRows}
use Rattle.saved_text.specs.declared.form.HeapText.{HeapText}
use Rattle.saved_text.specs.declared.form.HeapRows.{HeapRows}
use Rattle.saved_text.specs.Saved.{switch, Fits, Saved, WellFormed}
use Rattle.saved_text.specs.Greatest.{greatest}
use Rattle.saved_text.specs.Reading.{read_text}
use Rattle.saved_text.specs.Form.{Told, HeapTold, OpensWith, opened}
use Rattle.saved_text.specs.FormLaws.{opens_said}
use Rattle.saved_state.specs.Said.{row, number, lits_said, ends_said, trail_said, heap_said}
use Rattle.saved_state.specs.Rows.{line}
use Rattle.saved_state.specs.Eachs.{each_at}
use Rattle.saved_state.specs.Loops.{Codes}
use Rattle.saved_state.specs.OfTrail.{each_code, codes_back}
use Rattle.saved_state.specs.OfHeap.{each_member, heap_back}
use Rattle.saved_state.specs.Judged.{ClausesSaid}
use Rattle.saved_state.specs.Sound.{state_test}
use Rattle.saved_state.specs.Entry.{Reader}
use Rattle.saved_state.specs.Judging.{clauses_fit, clauses_good, fitting, LoadedIs, ends_length, clauses_judged, fronts_apart, front_all, front_part, front_one, front_two, codes_below, below_codes, fitting_says}
use Rattle.saved_state.specs.declared.judging.Loaded.{Loaded}
use Rattle.saved_state.specs.declared.judging.Unfit.{Unfit}
use Rattle.saved_state.specs.declared.judging.Unfit.TheVariants as a-reason
use Rattle.heap_saved.specs.Reader.{heap_reader}
use Rattle.heap_saved.specs.Sound.{tests_right}

-- The rows of s stand where trail and heap over n variables are restored from: codes and members in front of their slices, levels, reasons, bits and switches in theirs.
pub record Ready (s : Saved) (n : ℕ) (t : TrailRows) (h : HeapRows) (trail levels reasons heap bits switches : List ℕ) : Type 0 where
  pub vars : s.opening.vars ≡ n
  pub small : n ≤ max_vars
  pub few : t.count ≤ n
  pub codes_are : take t.count trail ≡ s.codes
  pub codes_in : Codes n s.codes
  pub levels_are : take t.count levels ≡ row s 0
  pub reasons_are : take t.count reasons ≡ row s 1
  pub curr_is : t.curr ≡ number s 2
  pub few_members : h.count ≤ n
  pub members_are : take h.count heap ≡ row s 3
  pub members_in : Vars n (row s 3)
  pub bits_are : bits ≡ row s 4
  pub switches_are : switches ≡ row s 5
  pub switches_in : (v : ℕ) → v < length switches → get_or switches v 0 < 256
  pub inc_is : h.inc ≡ get_or (row s 6) 0 0
  pub decay_is : h.decay ≡ get_or (row s 6) 1 0

pub ready_for : {s : Saved} {n m : ℕ} {t : TrailRows} {h : HeapRows} {trail levels reasons heap bits switches : List ℕ} → n ≡ m → Ready s n t h trail levels reasons heap bits switches → Ready s m t h trail levels reasons heap bits switches
ready_for {s} {n} {m} {t} {h} {trail} {levels} {reasons} {heap} {bits} {switches} e r = subst (λ (k : ℕ). Ready s k t h trail levels reasons heap bits switches) e r

module _ {s : Saved} {n : ℕ} {c : Clauses} {t : TrailRows} (h : HeapRows) {lits ends trail levels reasons heap bits switches : List ℕ}
    (well : WellFormed s) (mode : s.opening.mode ≡ vsids) (vars : s.opening.vars ≡ n) (small : n ≤ max_vars)
    (told : Told s c t h.count h.greatest lits ends trail (levels ∷ reasons ∷ (t.curr ∷ []) ∷ heap ∷ bits ∷ switches ∷ (h.inc ∷ h.decay ∷ []) ∷ [])) where
  -- where codes and members fit, all is there
  pub ready : fitting n t.count t.greatest h.count h.greatest ≡ true → length trail ≡ n → length levels ≡ n → length reasons ≡ n → length heap ≡ n → length bits ≡ n → length switches ≡ n
      → Ready s n t h trail levels reasons heap bits switches
  ready fit trail_long levels_long reasons_long heap_long bits-long switches-long =
      let test : fitting n (length s.codes) (greatest s.codes) (length (row s 3)) (greatest (row s 3)) ≡ true = rw (← told.codes, ← told.high_code, ← told.members, ← told.high_member) fit in
      let f = (fitting_says n s.codes (row s 3)).0 test in
      let r = fronts_apart s well _ _ _ _ _ _ _ told.rows in
      let l = line s well vsids mode in
      let k : t.count ≤ n = omega (arith, told.codes, f.few) in
      let m : h.count ≤ n = omega (arith, told.members, f.few_members) in
      let switches_are = front_all switches (row s 5) r.5 (switches-long ∙ sym vars ∙ sym (l 5 (omega arith)).0) in
      let step = front_two h.inc h.decay (row s 6) r.6 (l 6 (omega arith)).0 in
      record {
        vars = vars;
        small = small;
        few = k;
        codes_are = front_part trail s.codes t.count told.codes_held told.codes (omega arith);
        codes_in = codes_below n s.codes f.codes_in;
        levels_are = front_part levels (row s 0) t.count r.0 (told.codes ∙ sym (l 0 (omega arith)).0) (omega arith);
        reasons_are = front_part reasons (row s 1) t.count r.1 (told.codes ∙ sym (l 1 (omega arith)).0) (omega arith);
        curr_is = front_one t.curr (row s 2) r.2 (l 2 (omega arith)).0;
        few_members = m;
        members_are = front_part heap (row s 3) h.count r.3 told.members (omega arith);
        members_in = λ i b. each_at (λ v. v < n) (row s 3) i 0 f.members_in b;
        bits_are = front_all bits (row s 4) r.4 (bits-long ∙ sym vars ∙ sym (l 4 (omega arith)).0);
        switches_are = switches_are;
        switches_in = λ v b. (let low = each_at (Fits switch) (row s 5) v 0 (l 5 (omega arith)).1 (omega (arith, ap length switches_are)) in
            omega (arith, low, ap (λ (l : List ℕ). get_or l v 0) switches_are));
        inc_is = step.0;
        decay_is = step.1;
      }

  -- and a state that passes its test fits
  pub passing_fits : ClausesSaid s → state_test heap_reader s ≡ true → fitting n t.count t.greatest h.count h.greatest ≡ true
  passing_fits clauses e =
      let g = (tests_right s well mode (omega (arith, vars)) clauses).0 e in
      let codes : Each (λ c. index c < s.opening.vars) s.codes = subst (Each (λ c. index c < s.opening.vars)) (codes_back s well g.trail) (each_code g.trail (λ c. index c < s.opening.vars) (λ c b. b)) in
      let members : Each (λ v. v < s.opening.vars) (row s 3) = subst (Each (λ v. v < s.opening.vars)) (ap (λ (l : List (List ℕ)). get_or l 0 []) (heap_back s well mode g.heap)) (each_member g.heap (λ v. v < s.opening.vars) (λ v b. b)) in
      let few : length s.codes ≤ s.opening.vars = g.trail.len_in in
      let few_members : length (row s 3) ≤ s.opening.vars = g.heap.inverse.room.fits in
      rw (told.codes, told.high_code, told.members, told.high_member, ← vars) ((fitting_says s.opening.vars s.codes (row s 3)).1 (record { few = few; few_members = few_members; codes_in = below_codes s.opening.vars s.codes codes; members_in = members }))

  -- So what was read is loaded: not at all where the clauses are bad, or where codes or members do not fit, which fails the test; and else as restored and checked.
  good_is : clauses_good n c.count c.literals c.greatest ≡ clauses_ok s.opening.vars (lits_said s) (ends_said s)
  good_is = rw (told.clauses, told.literals, told.highest, vars) (clauses_judged n s.clauses)

  module _ (at-trail : Trail) (at-heap : Vsids) where
    pub loaded_bad : clauses_good n c.count c.literals c.greatest ≡ false → LoadedIs heap_reader s c.literals c.count false false lits ends at-trail at-heap
    loaded_bad e = record {
      literal_count = told.literals;
      clause_count = told.clauses ∙ sym (ends_length 0 s.clauses);
      good_clauses = sym e ∙ good_is;
      held = told.clauses_held;
      state_passed = λ q. absurd (false≢true q);
      trail_said_lem = λ q. absurd (false≢true q);
      chooser_said = λ q. absurd (false≢true q);
    }

    module _ (good : clauses_good n c.count c.literals c.greatest ≡ true) where
      pub loaded_unfit : fitting n t.count t.greatest h.count h.greatest ≡ false → LoadedIs heap_reader s c.literals c.count true false lits ends at-trail at-heap
      loaded_unfit e = record {
        literal_count = told.literals;
        clause_count = told.clauses ∙ sym (ends_length 0 s.clauses);
        good_clauses = sym good ∙ good_is;
        held = told.clauses_held;
        state_passed = λ q. sym (not_true (state_test heap_reader s) (λ p. false≢true (sym e ∙ passing_fits ((clauses_facts _ _ _).0 (sym good_is ∙ good)) p)));
        trail_said_lem = λ q. absurd (false≢true q);
        chooser_said = λ q. absurd (false≢true q);
      }

      pub loaded_all : fitting n t.count t.greatest h.count h.greatest ≡ true → at-trail ≡ trail_said s → at-heap ≡ heap_said s → {passed : Bool} → passed ≡ state_ok c.count at-trail at-heap
          → LoadedIs heap_reader s c.literals c.count true passed lits ends at-trail at-heap
      loaded_all fit trail_is heap_is passes =
          let test : fitting n (length s.codes) (greatest s.codes) (length (row s 3)) (greatest (row s 3)) ≡ true = rw (← told.codes, ← told.high_code, ← told.members, ← told.high_member) fit in
          let f = (fitting_says n s.codes (row s 3)).0 test in
          let few = le-leb (length s.codes) s.opening.vars (omega (arith, f.few, vars)) in
          let few_members = le-leb (length (row s 3)) s.opening.vars (omega (arith, f.few_members, vars)) in
          let count : c.count ≡ length (ends_said s) = told.clauses ∙ sym (ends_length 0 s.clauses) in
          record {
            literal_count = told.literals;
            clause_count = count;
            good_clauses = sym good ∙ good_is;
            held = told.clauses_held;
            state_passed = λ q. passes ∙ (λ i. state_ok (count i) (trail_is i) (heap_is i)) ∙ rw (few, few_members);
            trail_said_lem = λ q. trail_is;
            chooser_said = λ q. heap_is;
          }

-- what the reader of a text says of its bytes
pub told_of : {text : List ℕ} {at n : ℕ} → OpensWith text at (opened n false) → (c : Clauses) (t : TrailRows) (h : HeapRows) (lits ends trail levels reasons heap bits switches : List ℕ)
    → HeapTold (read_text text) (Some (record { clauses = c; trail = t; heap = h })) lits ends trail levels reasons heap bits switches
    → (s : Saved) × (read_text text ≡ some s) × WellFormed s × (s.opening.mode ≡ vsids) × (s.opening.vars ≡ n)
    × Told s c t h.count h.greatest lits ends trail (levels ∷ reasons ∷ (t.curr ∷ []) ∷ heap ∷ bits ∷ switches ∷ (h.inc ∷ h.decay ∷ []) ∷ [])
told_of {text} {at} {n} w c t h lits ends trail levels reasons heap bits switches = go (read_text text) refl
  where
    go : (o : Option Saved) → read_text text ≡ o → HeapTold o (Some (record { clauses = c; trail = t; heap = h })) lits ends trail levels reasons heap bits switches
        → (s : Saved) × (o ≡ some s) × WellFormed s × (s.opening.mode ≡ vsids) × (s.opening.vars ≡ n)
        × Told s c t h.count h.greatest lits ends trail (levels ∷ reasons ∷ (t.curr ∷ []) ∷ heap ∷ bits ∷ switches ∷ (h.inc ∷ h.decay ∷ []) ∷ [])
    go none e k = let z : ◌≡◌ {A = ℕ} 0 1 = cc in absurd (omega arith)
    go (some s) e (c', t', h', same, told) =
        let x = opens_said w s e in
        let those : ◌≡◌ {A = HeapText} (record { clauses = c'; trail = t'; heap = h' }) (record { clauses = c; trail = t; heap = h }) = cc in
        let cs : c' ≡ c = ap (λ (x : HeapText). x.clauses) those in
        let ts : t' ≡ t = ap (λ (x : HeapText). x.trail) those in
        let hs : h' ≡ h = ap (λ (x : HeapText). x.heap) those in (
          s,
          refl,
          x.0,
          ap (λ (o : Opening). o.mode) x.1,
          ap (λ (o : Opening). o.vars) x.1,
          subst (λ (d : Clauses). Told s d t h.count h.greatest lits ends trail (levels ∷ reasons ∷ (t.curr ∷ []) ∷ heap ∷ bits ∷ switches ∷ (h.inc ∷ h.decay ∷ []) ∷ [])) cs
              (subst (λ (u : TrailRows). Told s c' u h.count h.greatest lits ends trail (levels ∷ reasons ∷ (u.curr ∷ []) ∷ heap ∷ bits ∷ switches ∷ (h.inc ∷ h.decay ∷ []) ∷ [])) ts
              (subst (λ (k : HeapRows). Told s c' t' k.count k.greatest lits ends trail (levels ∷ reasons ∷ (t'.curr ∷ []) ∷ heap ∷ bits ∷ switches ∷ (k.inc ∷ k.decay ∷ []) ∷ [])) hs told)),
        )

-- the small states, where they were restored
abbrev pub state_in : Result HeapState Unfit → HeapState
state_in (Ok s) = s
state_in (Err e) = blank

-- What was loaded of what bytes say, as code has it.
abbrev pub Loads : Option Saved → code.Option (Loaded HeapState) → (lits ends values levels reasons trail opened : List ℕ) (activity : List Float) (heap indices decision : List ℕ) → Type 0
Loads none r lits ends values levels reasons trail opened activity heap indices decision = r ≡ None
Loads (some s) r lits ends values levels reasons trail opened activity heap indices decision = (l : Loaded HeapState) × (r ≡ Some l)
    × LoadedIs heap_reader s l.literals l.clauses (clauses_fit l.state) (is_ok l.state) lits ends (trail_of values levels reasons trail opened (state_in l.state).trail) (vsids_of activity heap indices decision (state_in l.state).vsids)

-- lists of n places in front of others
pub loads_front : (o : Option Saved) (r : code.Option (Loaded HeapState)) (n : ℕ) (lits ends values levels reasons trail opened : List ℕ) (activity : List Float) (heap indices decision : List ℕ)
    → Lengths n values levels reasons trail opened → (length activity ≡ n) × (length heap ≡ n) × (length indices ≡ n) × (length decision ≡ n)
    → (values' levels' reasons' trail' opened' : List ℕ) (activity' : List Float) (heap' indices' decision' : List ℕ) → Loads o r lits ends values levels reasons trail opened activity heap indices decision
    → Loads o r lits ends (take n (values ++ values')) (take n (levels ++ levels')) (take n (reasons ++ reasons')) (take n (trail ++ trail')) (take n (opened ++ opened'))
    (take n (activity ++ activity')) (take n (heap ++ heap')) (take n (indices ++ indices')) (take n (decision ++ decision'))
loads_front o r n lits ends values levels reasons trail opened activity heap indices decision t (a, h, i, d) values' levels' reasons' trail' opened' activity' heap' indices' decision' k =
    rw (
      take_at values values' n t.values_long,
      take_at levels levels' n t.levels_long,
      take_at reasons reasons' n t.reasons_long,
      take_at trail trail' n t.trail_long,
      take_at opened opened' n t.opened_long,
      take_at activity activity' n a,
      take_at heap heap' n h,
      take_at indices indices' n i,
      take_at decision decision' n d,
    ) k

pub loads_none : (o : Option Saved) (lits ends trail levels reasons heap bits switches : List ℕ) → HeapTold o None lits ends trail levels reasons heap bits switches → o ≡ none
loads_none none lits ends trail levels reasons heap bits switches k = refl
loads_none (some s) lits ends trail levels reasons heap bits switches (c, t, h, same, told) = let z : ◌≡◌ {A = ℕ} 0 1 = cc in absurd (omega arith)

abbrev pub loaded_with : Clauses → Result HeapState Unfit → Loaded HeapState
loaded_with c state = record { clauses = c.count; literals = c.literals; state = state }

-- what is not passed leaves its memory open
unpassed : {C : Type 0} {R : Reader C} {s : Saved} {l c : ℕ} {good : Bool} {lits ends : List ℕ} {t t' : Trail} {x x' : C} → LoadedIs R s l c good false lits ends t x → LoadedIs R s l c good false lits ends t' x'
unpassed i = record {
  literal_count = i.literal_count;
  clause_count = i.clause_count;
  good_clauses = i.good_clauses;
  held = i.held;
  state_passed = i.state_passed;
  trail_said_lem = λ q. absurd (false≢true q);
  chooser_said = λ q. absurd (false≢true q);
}

module _ {text : List ℕ} {at n : ℕ} (w : OpensWith text at (opened n false)) (small : n ≤ max_vars) (c : Clauses) (t : TrailRows) (h : HeapRows) (lits ends trail levels reasons heap bits switches : List ℕ)
    (k : HeapTold (read_text text) (Some (record { clauses = c; trail = t; heap = h })) lits ends trail levels reasons heap bits switches) where
  -- what restoring needs
  pub loads_ready : fitting n t.count t.greatest h.count h.greatest ≡ true → length trail ≡ n → length levels ≡ n → length reasons ≡ n → length heap ≡ n → length bits ≡ n → length switches ≡ n
      → {m : ℕ} → m ≡ n → (s : Saved) × Ready s m t h trail levels reasons heap bits switches
  loads_ready fit a b d e f g same =
      let x = told_of w c t h lits ends trail levels reasons heap bits switches k in
      (x.0, ready_for (sym same) (ready h x.2 x.3 x.4 small x.5 fit a b d e f g))

  module _ (values' levels' reasons' trail' opened' : List ℕ) (activity' : List Float) (heap' indices' decision' : List ℕ) where
    abbrev These : Result HeapState Unfit → Type 0
    These state = Loads (read_text text) (Some (loaded_with c state)) lits ends values' levels' reasons' trail' opened' activity' heap' indices' decision'

    pub loads_bad : clauses_good n c.count c.literals c.greatest ≡ false → These (Err a-reason.Clauses)
    loads_bad e =
        let x = told_of w c t h lits ends trail levels reasons heap bits switches k in
        rw x.1 (loaded_with c (Err a-reason.Clauses), refl, loaded_bad h x.2 x.3 x.4 small x.5 _ _ e)

    module _ (good : clauses_good n c.count c.literals c.greatest ≡ true) where
      pub loads_unfit : fitting n t.count t.greatest h.count h.greatest ≡ false → These (Err a-reason.State)
      loads_unfit e =
          let x = told_of w c t h lits ends trail levels reasons heap bits switches k in
          rw x.1 (loaded_with c (Err a-reason.State), refl, loaded_unfit h x.2 x.3 x.4 small x.5 _ _ good e)

      module _ (fit : fitting n t.count t.greatest h.count h.greatest ≡ true) (a : length trail ≡ n) (b : length levels ≡ n) (d : length reasons ≡ n) (e : length heap ≡ n) (f : length bits ≡ n) (g : length switches ≡ n)
          {m : ℕ} (same : m ≡ n) {state : HeapState}
          (restored : (s : Saved) → Ready s m t h trail levels reasons heap bits switches → (trail_of values' levels' reasons' trail' opened' state.trail ≡ trail_said s) × (vsids_of activity' heap' indices' decision' state.vsids ≡ heap_said s)) where
        loads_checked : {passed : Bool} → passed ≡ state_ok c.count (trail_of values' levels' reasons' trail' opened' state.trail) (vsids_of activity' heap' indices' decision' state.vsids)
            → (s : Saved) × (read_text text ≡ some s) × LoadedIs heap_reader s c.literals c.count true passed lits ends (trail_of values' levels' reasons' trail' opened' state.trail) (vsids_of activity' heap' indices' decision' state.vsids)
        loads_checked passes =
            let x = told_of w c t h lits ends trail levels reasons heap bits switches k in
            let is = restored x.0 (ready_for (sym same) (ready h x.2 x.3 x.4 small x.5 fit a b d e f g)) in
            (x.0, x.1, loaded_all h x.2 x.3 x.4 small x.5 _ _ good fit is.0 is.1 passes)

        pub loads_all : true ≡ state_ok c.count (trail_of values' levels' reasons' trail' opened' state.trail) (vsids_of activity' heap' indices' decision' state.vsids) → These (Ok state)
        loads_all passes = let x = loads_checked passes in rw x.1 (loaded_with c (Ok state), refl, x.2)

        pub loads_failed : false ≡ state_ok c.count (trail_of values' levels' reasons' trail' opened' state.trail) (vsids_of activity' heap' indices' decision' state.vsids) → These (Err a-reason.State)
        loads_failed fails = let x = loads_checked fails in rw x.1 (loaded_with c (Err a-reason.State), refl, unpassed x.2)
