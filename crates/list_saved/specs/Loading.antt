-- Reading a saved session in list mode: the rows from which trail and list are restored, and what was read where they have no room. Assumes nothing.
use Rattle.std.specs.Prelude.{ℕ, ◌*◌, ◌<◌, ◌≤◌, ◌≡◌, refl, Bool, true, false, List, [], ◌∷◌, ◌++◌, length, get_or, take, Some, None, Result, Ok, Err, is_ok}
use Rattle.std.specs.Prelude as code
use Rattle.std.proofs.Common.{sym, ap, subst, ◌∙◌, arith, le-leb, take_at}
use Rattle.std.proofs.lemmas.Bool.{false≢true}
use Rattle.std.proofs.Math.Option.{Option, none, some}
use Rattle.laws.specs.Each.{Each}
use Rattle.laws.specs.Tests.{not_true}
use Rattle.lit.specs.Numbers.{max_vars}
use Rattle.lit.specs.Lits.{index}
use Rattle.formula.specs.Clauses.{clauses_ok}
use Rattle.trail.specs.Trail.{Trail}
use Rattle.trail.specs.Memory.{Lengths, trail_of}
use Rattle.vmtf.specs.Vmtf.{Vmtf, vmtf_of, Vars}
use Rattle.vmtf.specs.Good.{order_is}
use Rattle.list_session.specs.declared.ListState.{ListState}
use Rattle.list_session.specs.Check.{state_ok}
use Rattle.list_entry.specs.Entry.{blank}
use Rattle.forms.specs.Forms.{vmtf, Opening}
use Rattle.saved_text.specs.declared.form.Clauses.{Clauses}
use Rattle.saved_text.specs.declared.form.TrailRows.{TrailRows}
use Rattle.saved_text.specs.declared.form.ListText.{ListText}
use Rattle.saved_text.specs.declared.form.ListRows.{ListRows}
use Rattle.saved_text.specs.Saved.{Saved, WellFormed}
use Rattle.saved_text.specs.Greatest.{greatest}
use Rattle.saved_text.specs.Reading.{read_text}
use Rattle.saved_text.specs.Form.{Told, ListTold, OpensWith, opened}
use Rattle.saved_text.specs.FormLaws.{opens_said}
use Rattle.saved_state.specs.Said.{row, number, lits_said, ends_said, trail_said, list_said}
use Rattle.saved_state.specs.Rows.{line}
use Rattle.saved_state.specs.Eachs.{each_at}
use Rattle.saved_state.specs.Loops.{Codes}
use Rattle.saved_state.specs.OfTrail.{each_code, codes_back}
use Rattle.saved_state.specs.OfList.{each_var, list_back}
use Rattle.saved_state.specs.Sound.{state_test}
use Rattle.saved_state.specs.Entry.{Reader}
use Rattle.saved_state.specs.Judging.{clauses_fit, clauses_good, fitting, LoadedIs, ends_length, clauses_judged, fronts_apart, front_all, front_part, front_one, codes_below, below_codes, fitting_says}
use Rattle.saved_state.specs.declared.judging.Loaded.{Loaded}
use Rattle.saved_state.specs.declared.judging.Unfit.{Unfit}
use Rattle.saved_state.specs.declared.judging.Unfit.TheVariants as a-reason
use Rattle.list_saved.specs.Reader.{list_reader}
use Rattle.list_saved.specs.Sound.{tests_right}

-- The rows of s stand where trail and list over n variables are restored from: the codes in front of their slice, levels, reasons, order and stamps in theirs.
pub record Ready (s : Saved) (n : ℕ) (t : TrailRows) (h : ListRows) (trail levels reasons order stamps : List ℕ) : Type 0 where
  pub vars : s.opening.vars ≡ n
  pub small : n ≤ max_vars
  pub few : t.count ≤ n
  pub codes_are : take t.count trail ≡ s.codes
  pub codes_in : Codes n s.codes
  pub levels_are : take t.count levels ≡ row s 0
  pub reasons_are : take t.count reasons ≡ row s 1
  pub curr_is : t.curr ≡ number s 2
  pub order_is : order ≡ row s 3
  pub order_in : Vars n (row s 3)
  pub stamps_are : stamps ≡ row s 4
  pub timestamp_is : h.timestamp ≡ number s 5
  pub search_is : h.search ≡ number s 6

pub ready_for : {s : Saved} {n m : ℕ} {t : TrailRows} {h : ListRows} {trail levels reasons order stamps : List ℕ} → n ≡ m → Ready s n t h trail levels reasons order stamps → Ready s m t h trail levels reasons order stamps
ready_for {s} {n} {m} {t} {h} {trail} {levels} {reasons} {order} {stamps} e r = subst (λ (k : ℕ). Ready s k t h trail levels reasons order stamps) e r

module _ {s : Saved} {n : ℕ} {c : Clauses} {t : TrailRows} (h : ListRows) {lits ends trail levels reasons order stamps : List ℕ}
    (well : WellFormed s) (mode : s.opening.mode ≡ vmtf) (vars : s.opening.vars ≡ n) (small : n ≤ max_vars)
    (told : Told s c t n h.greatest lits ends trail (levels ∷ reasons ∷ (t.curr ∷ []) ∷ order ∷ stamps ∷ (h.timestamp ∷ []) ∷ (h.search ∷ []) ∷ [])) where
  -- where codes and order fit, all is there
  pub ready : fitting n t.count t.greatest n h.greatest ≡ true → length trail ≡ n → length levels ≡ n → length reasons ≡ n → length order ≡ n → length stamps ≡ n
      → Ready s n t h trail levels reasons order stamps
  ready fit trail_long levels_long reasons_long order_long stamps_long =
      let test : fitting n (length s.codes) (greatest s.codes) (length (row s 3)) (greatest (row s 3)) ≡ true = subst (λ (k : ℕ). fitting n (length s.codes) (greatest s.codes) k (greatest (row s 3)) ≡ true) told.members (rw (← told.codes, ← told.high_code, ← told.high_member) fit) in
      let f = (fitting_says n s.codes (row s 3)).0 test in
      let r = fronts_apart s well _ _ _ _ _ _ _ told.rows in
      let l = line s well vmtf mode in
      let k : t.count ≤ n = omega (arith, told.codes, f.few) in
      record {
        vars = vars;
        small = small;
        few = k;
        codes_are = front_part trail s.codes t.count told.codes_held told.codes (omega arith);
        codes_in = codes_below n s.codes f.codes_in;
        levels_are = front_part levels (row s 0) t.count r.0 (told.codes ∙ sym (l 0 (omega arith)).0) (omega arith);
        reasons_are = front_part reasons (row s 1) t.count r.1 (told.codes ∙ sym (l 1 (omega arith)).0) (omega arith);
        curr_is = front_one t.curr (row s 2) r.2 (l 2 (omega arith)).0;
        order_is = front_all order (row s 3) r.3 (order_long ∙ told.members);
        order_in = λ i b. each_at (λ v. v < n) (row s 3) i 0 f.members_in b;
        stamps_are = front_all stamps (row s 4) r.4 (stamps_long ∙ sym vars ∙ sym (l 4 (omega arith)).0);
        timestamp_is = front_one h.timestamp (row s 5) r.5 (l 5 (omega arith)).0;
        search_is = front_one h.search (row s 6) r.6 (l 6 (omega arith)).0;
      }

  -- and a state that passes its test fits
  pub passing_fits : state_test list_reader s ≡ true → fitting n t.count t.greatest n h.greatest ≡ true
  passing_fits e =
      let g = (tests_right s well mode (omega (arith, vars))).0 e in
      let codes : Each (λ c. index c < s.opening.vars) s.codes = subst (Each (λ c. index c < s.opening.vars)) (codes_back s well g.trail) (each_code g.trail (λ c. index c < s.opening.vars) (λ c b. b)) in
      let order : Each (λ v. v < s.opening.vars) (row s 3) = subst (Each (λ v. v < s.opening.vars)) (sym (order_is g.list.1.linked) ∙ ap (λ (l : List (List ℕ)). get_or l 0 []) (list_back s well mode g.list.1)) (each_var g.list.1 (λ v. v < s.opening.vars) (λ v b. b)) in
      let few : length s.codes ≤ s.opening.vars = g.trail.len_in in
      let f = (fitting_says n s.codes (row s 3)).1 (record { few = omega (arith, few, vars); few_members = omega (arith, told.members); codes_in = subst (λ (k : ℕ). Each (λ c. c < k * 2) s.codes) vars (below_codes s.opening.vars s.codes codes); members_in = subst (λ (k : ℕ). Each (λ v. v < k) (row s 3)) vars order }) in
      rw (told.codes, told.high_code, told.high_member) (subst (λ (k : ℕ). fitting n (length s.codes) (greatest s.codes) k (greatest (row s 3)) ≡ true) (sym told.members) f)

  -- So what was read is loaded: not at all where the clauses are bad, or where codes or order do not fit, which fails the test; and else as restored and checked.
  good_is : clauses_good n c.count c.literals c.greatest ≡ clauses_ok s.opening.vars (lits_said s) (ends_said s)
  good_is = rw (told.clauses, told.literals, told.highest, vars) (clauses_judged n s.clauses)

  module _ (at-trail : Trail) (at_list : Vmtf) where
    pub loaded_bad : clauses_good n c.count c.literals c.greatest ≡ false → LoadedIs list_reader s c.literals c.count false false lits ends at-trail at_list
    loaded_bad e = record {
      literal_count = told.literals;
      clause_count = told.clauses ∙ sym (ends_length 0 s.clauses);
      good_clauses = sym e ∙ good_is;
      held = told.clauses_held;
      state_passed = λ q. absurd (false≢true q);
      trail_said_lem = λ q. absurd (false≢true q);
      chooser_said = λ q. absurd (false≢true q);
    }

    module _ (good : clauses_good n c.count c.literals c.greatest ≡ true) where
      pub loaded_unfit : fitting n t.count t.greatest n h.greatest ≡ false → LoadedIs list_reader s c.literals c.count true false lits ends at-trail at_list
      loaded_unfit e = record {
        literal_count = told.literals;
        clause_count = told.clauses ∙ sym (ends_length 0 s.clauses);
        good_clauses = sym good ∙ good_is;
        held = told.clauses_held;
        state_passed = λ q. sym (not_true (state_test list_reader s) (λ p. false≢true (sym e ∙ passing_fits p)));
        trail_said_lem = λ q. absurd (false≢true q);
        chooser_said = λ q. absurd (false≢true q);
      }

      pub loaded_all : fitting n t.count t.greatest n h.greatest ≡ true → at-trail ≡ trail_said s → at_list ≡ list_said s → {passed : Bool} → passed ≡ state_ok c.count at-trail at_list
          → LoadedIs list_reader s c.literals c.count true passed lits ends at-trail at_list
      loaded_all fit trail_is list-is passes =
          let test : fitting n (length s.codes) (greatest s.codes) (length (row s 3)) (greatest (row s 3)) ≡ true = subst (λ (k : ℕ). fitting n (length s.codes) (greatest s.codes) k (greatest (row s 3)) ≡ true) told.members (rw (← told.codes, ← told.high_code, ← told.high_member) fit) in
          let f = (fitting_says n s.codes (row s 3)).0 test in
          let few = le-leb (length s.codes) s.opening.vars (omega (arith, f.few, vars)) in
          let few_members = le-leb (length (row s 3)) s.opening.vars (omega (arith, f.few_members, vars)) in
          let count : c.count ≡ length (ends_said s) = told.clauses ∙ sym (ends_length 0 s.clauses) in
          record {
            literal_count = told.literals;
            clause_count = count;
            good_clauses = sym good ∙ good_is;
            held = told.clauses_held;
            state_passed = λ q. passes ∙ (λ i. state_ok (count i) (trail_is i) (list-is i)) ∙ rw (few, few_members);
            trail_said_lem = λ q. trail_is;
            chooser_said = λ q. list-is;
          }

-- what the reader of a text says of its bytes
pub told_of : {text : List ℕ} {at n : ℕ} → OpensWith text at (opened n true) → (c : Clauses) (t : TrailRows) (h : ListRows) (lits ends trail levels reasons order stamps : List ℕ)
    → ListTold n (read_text text) (Some (record { clauses = c; trail = t; list = h })) lits ends trail levels reasons order stamps
    → (s : Saved) × (read_text text ≡ some s) × WellFormed s × (s.opening.mode ≡ vmtf) × (s.opening.vars ≡ n)
    × Told s c t n h.greatest lits ends trail (levels ∷ reasons ∷ (t.curr ∷ []) ∷ order ∷ stamps ∷ (h.timestamp ∷ []) ∷ (h.search ∷ []) ∷ [])
told_of {text} {at} {n} w c t h lits ends trail levels reasons order stamps = go (read_text text) refl
  where
    go : (o : Option Saved) → read_text text ≡ o → ListTold n o (Some (record { clauses = c; trail = t; list = h })) lits ends trail levels reasons order stamps
        → (s : Saved) × (o ≡ some s) × WellFormed s × (s.opening.mode ≡ vmtf) × (s.opening.vars ≡ n)
        × Told s c t n h.greatest lits ends trail (levels ∷ reasons ∷ (t.curr ∷ []) ∷ order ∷ stamps ∷ (h.timestamp ∷ []) ∷ (h.search ∷ []) ∷ [])
    go none e k = let z : ◌≡◌ {A = ℕ} 0 1 = cc in absurd (omega arith)
    go (some s) e (c', t', h', same, told) =
        let x = opens_said w s e in
        let those : ◌≡◌ {A = ListText} (record { clauses = c'; trail = t'; list = h' }) (record { clauses = c; trail = t; list = h }) = cc in
        let cs : c' ≡ c = ap (λ (x : ListText). x.clauses) those in
        let ts : t' ≡ t = ap (λ (x : ListText). x.trail) those in
        let hs : h' ≡ h = ap (λ (x : ListText). x.list) those in (
          s,
          refl,
          x.0,
          ap (λ (o : Opening). o.mode) x.1,
          ap (λ (o : Opening). o.vars) x.1,
          subst (λ (d : Clauses). Told s d t n h.greatest lits ends trail (levels ∷ reasons ∷ (t.curr ∷ []) ∷ order ∷ stamps ∷ (h.timestamp ∷ []) ∷ (h.search ∷ []) ∷ [])) cs
              (subst (λ (u : TrailRows). Told s c' u n h.greatest lits ends trail (levels ∷ reasons ∷ (u.curr ∷ []) ∷ order ∷ stamps ∷ (h.timestamp ∷ []) ∷ (h.search ∷ []) ∷ [])) ts
              (subst (λ (k : ListRows). Told s c' t' n k.greatest lits ends trail (levels ∷ reasons ∷ (t'.curr ∷ []) ∷ order ∷ stamps ∷ (k.timestamp ∷ []) ∷ (k.search ∷ []) ∷ [])) hs told)),
        )

-- the small states, where they were restored
abbrev pub state_in : Result ListState Unfit → ListState
state_in (Ok s) = s
state_in (Err e) = blank

-- What was loaded of what bytes say, as code has it.
abbrev pub Loads : Option Saved → code.Option (Loaded ListState) → (lits ends values levels reasons trail opened next prev ts : List ℕ) → Type 0
Loads none r lits ends values levels reasons trail opened next prev ts = r ≡ None
Loads (some s) r lits ends values levels reasons trail opened next prev ts = (l : Loaded ListState) × (r ≡ Some l)
    × LoadedIs list_reader s l.literals l.clauses (clauses_fit l.state) (is_ok l.state) lits ends (trail_of values levels reasons trail opened (state_in l.state).trail) (vmtf_of next prev ts (state_in l.state).vmtf)

-- lists of n places in front of others
pub loads_front : (o : Option Saved) (r : code.Option (Loaded ListState)) (n : ℕ) (lits ends values levels reasons trail opened next prev ts : List ℕ)
    → Lengths n values levels reasons trail opened → (length next ≡ n) × (length prev ≡ n) × (length ts ≡ n)
    → (values' levels' reasons' trail' opened' next' prev' ts' : List ℕ) → Loads o r lits ends values levels reasons trail opened next prev ts
    → Loads o r lits ends (take n (values ++ values')) (take n (levels ++ levels')) (take n (reasons ++ reasons')) (take n (trail ++ trail')) (take n (opened ++ opened'))
    (take n (next ++ next')) (take n (prev ++ prev')) (take n (ts ++ ts'))
loads_front o r n lits ends values levels reasons trail opened next prev ts t (a, b, d) values' levels' reasons' trail' opened' next' prev' ts' k =
    rw (
      take_at values values' n t.values_long,
      take_at levels levels' n t.levels_long,
      take_at reasons reasons' n t.reasons_long,
      take_at trail trail' n t.trail_long,
      take_at opened opened' n t.opened_long,
      take_at next next' n a,
      take_at prev prev' n b,
      take_at ts ts' n d,
    ) k

pub loads_none : (n : ℕ) (o : Option Saved) (lits ends trail levels reasons order stamps : List ℕ) → ListTold n o None lits ends trail levels reasons order stamps → o ≡ none
loads_none n none lits ends trail levels reasons order stamps k = refl
loads_none n (some s) lits ends trail levels reasons order stamps (c, t, h, same, told) = let z : ◌≡◌ {A = ℕ} 0 1 = cc in absurd (omega arith)

abbrev pub loaded_with : Clauses → Result ListState Unfit → Loaded ListState
loaded_with c state = record { clauses = c.count; literals = c.literals; state = state }

-- what is not passed leaves its memory open
unpassed : {C : Type 0} {R : Reader C} {s : Saved} {l c : ℕ} {good : Bool} {lits ends : List ℕ} {t t' : Trail} {x x' : C} → LoadedIs R s l c good false lits ends t x → LoadedIs R s l c good false lits ends t' x'
unpassed i = record {
  literal_count = i.literal_count;
  clause_count = i.clause_count;
  good_clauses = i.good_clauses;
  held = i.held;
  state_passed = i.state_passed;
  trail_said_lem = λ q. absurd (false≢true q);
  chooser_said = λ q. absurd (false≢true q);
}

module _ {text : List ℕ} {at n : ℕ} (w : OpensWith text at (opened n true)) (small : n ≤ max_vars) (c : Clauses) (t : TrailRows) (h : ListRows) (lits ends trail levels reasons order stamps : List ℕ)
    (k : ListTold n (read_text text) (Some (record { clauses = c; trail = t; list = h })) lits ends trail levels reasons order stamps) where
  -- what restoring needs
  pub loads_ready : fitting n t.count t.greatest n h.greatest ≡ true → length trail ≡ n → length levels ≡ n → length reasons ≡ n → length order ≡ n → length stamps ≡ n
      → {m : ℕ} → m ≡ n → (s : Saved) × Ready s m t h trail levels reasons order stamps
  loads_ready fit a b d e f same =
      let x = told_of w c t h lits ends trail levels reasons order stamps k in
      (x.0, ready_for (sym same) (ready h x.2 x.3 x.4 small x.5 fit a b d e f))

  module _ (values' levels' reasons' trail' opened' next' prev' ts' : List ℕ) where
    abbrev These : Result ListState Unfit → Type 0
    These state = Loads (read_text text) (Some (loaded_with c state)) lits ends values' levels' reasons' trail' opened' next' prev' ts'

    pub loads_bad : clauses_good n c.count c.literals c.greatest ≡ false → These (Err a-reason.Clauses)
    loads_bad e =
        let x = told_of w c t h lits ends trail levels reasons order stamps k in
        rw x.1 (loaded_with c (Err a-reason.Clauses), refl, loaded_bad h x.2 x.3 x.4 small x.5 _ _ e)

    module _ (good : clauses_good n c.count c.literals c.greatest ≡ true) where
      pub loads_unfit : fitting n t.count t.greatest n h.greatest ≡ false → These (Err a-reason.State)
      loads_unfit e =
          let x = told_of w c t h lits ends trail levels reasons order stamps k in
          rw x.1 (loaded_with c (Err a-reason.State), refl, loaded_unfit h x.2 x.3 x.4 small x.5 _ _ good e)

      module _ (fit : fitting n t.count t.greatest n h.greatest ≡ true) (a : length trail ≡ n) (b : length levels ≡ n) (d : length reasons ≡ n) (e : length order ≡ n) (f : length stamps ≡ n)
          {m : ℕ} (same : m ≡ n) {state : ListState}
          (restored : (s : Saved) → Ready s m t h trail levels reasons order stamps → (trail_of values' levels' reasons' trail' opened' state.trail ≡ trail_said s) × (vmtf_of next' prev' ts' state.vmtf ≡ list_said s)) where
        loads_checked : {passed : Bool} → passed ≡ state_ok c.count (trail_of values' levels' reasons' trail' opened' state.trail) (vmtf_of next' prev' ts' state.vmtf)
            → (s : Saved) × (read_text text ≡ some s) × LoadedIs list_reader s c.literals c.count true passed lits ends (trail_of values' levels' reasons' trail' opened' state.trail) (vmtf_of next' prev' ts' state.vmtf)
        loads_checked passes =
            let x = told_of w c t h lits ends trail levels reasons order stamps k in
            let is = restored x.0 (ready_for (sym same) (ready h x.2 x.3 x.4 small x.5 fit a b d e f)) in
            (x.0, x.1, loaded_all h x.2 x.3 x.4 small x.5 _ _ good fit is.0 is.1 passes)

        pub loads_all : true ≡ state_ok c.count (trail_of values' levels' reasons' trail' opened' state.trail) (vmtf_of next' prev' ts' state.vmtf) → These (Ok state)
        loads_all passes = let x = loads_checked passes in rw x.1 (loaded_with c (Ok state), refl, x.2)

        pub loads_failed : false ≡ state_ok c.count (trail_of values' levels' reasons' trail' opened' state.trail) (vmtf_of next' prev' ts' state.vmtf) → These (Err a-reason.State)
        loads_failed fails = let x = loads_checked fails in rw x.1 (loaded_with c (Err a-reason.State), refl, unpassed x.2)
