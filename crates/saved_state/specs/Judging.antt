-- What was read of a saved text, judged by its counts and its greatest numbers: its clauses, and whether a trail and the variables of a line have room. Assumes nothing.
use Rattle.std.specs.Prelude.{ℕ, zero, suc, ◌+◌, ◌-◌, ◌*◌, ◌<◌, ◌≤◌, ◌≡◌, refl, ◌↔◌, Bool, true, false, ◌&&◌, ◌||◌, leb, ltb, eqb, length, get_or, take, Some, None, Result, Ok, Err}
use Rattle.std.proofs.Common.{sym, ap, subst, ◌∙◌, arith, leb-true, le-leb, eq-eqb, ne_eqb, ltb-true, lt-ltb, length-append, take_all}
use Rattle.std.proofs.Math.Option.{Option, none, some}
use mathlib.Core.List.{List, [], ◌∷◌, flatten}
use Rattle.laws.specs.Each.{Each}
use Rattle.laws.specs.Every.{every_all}
use Rattle.laws.specs.Tests.{and_left, and_right, and_both, same_test}
use Rattle.lit.specs.Numbers.{max_vars, max_clauses, max_literals, bad_clauses, bad_state, bad_saved}
use Rattle.lit.specs.Lits.{index}
use Rattle.formula.specs.Clauses.{start, no_fall_at, ends_ok, list_ok, clauses_ok}
use Rattle.formula.specs.Good.{list_facts, clauses_facts}
use Rattle.trail.specs.Trail.{Trail}
use Rattle.book.specs.Session.{need}
use Rattle.session.specs.Entry.{sizes_checked, checked}
use Rattle.session.specs.Checks.{state_refusal}
use Rattle.saved_text.specs.Saved.{Saved, WellFormed}
use Rattle.saved_text.specs.Greatest.{greatest, greatest_within, within_greatest}
use Rattle.saved_text.specs.declared.form.Counts.{Counts}
use Rattle.saved_text.specs.Form.{ends_from, ClausesHeld, Front, Fronts, formed_of}
use Rattle.saved_state.specs.declared.judging.Unfit as unfit
use Rattle.saved_state.specs.declared.judging.Unfit.TheVariants as a-reason
use Rattle.saved_state.specs.Said.{lits_said, ends_said, row, trail_said}
use Rattle.saved_state.specs.Entry.{Reader}
use Rattle.saved_state.specs.Sound.{state_test}
use Rattle.saved_state.specs.Eachs.{each_of, each_at}
use Rattle.saved_state.specs.Rows.{rows_are}
use Rattle.saved_state.specs.Loops.{Codes}

-- the tests
abbrev pub below : ℕ → ℕ → ℕ → Bool
below count top limit = eqb count 0 || ltb top limit

abbrev pub clauses_good : ℕ → ℕ → ℕ → ℕ → Bool
clauses_good n count literals top = leb count max_clauses && (leb literals max_literals && below literals top (n * 2))

abbrev pub fitting : ℕ → ℕ → ℕ → ℕ → ℕ → Bool
fitting n codes code members member = leb codes n && (leb members n && (below codes code (n * 2) && below members member n))

-- why what was read is no session: the number of its refusal; and whether the clauses are not why
abbrev pub unfit_number : unfit.Unfit → ℕ
unfit_number a-reason.Clauses = bad_clauses
unfit_number a-reason.State = bad_state

abbrev pub clauses_fit : {S : Type 0} → Result S unfit.Unfit → Bool
clauses_fit (Ok s) = true
clauses_fit (Err a-reason.Clauses) = false
clauses_fit (Err a-reason.State) = true

pub unfit_refused : (S : Type 0) (u : unfit.Unfit) (n : ℕ) → n ≤ max_vars → unfit_number u ≡ state_refusal n true (clauses_fit {S = S} (Err u)) false
unfolding checked sizes_checked need
unfit_refused S a-reason.Clauses n h = rw (le-leb n max_vars h)
unfit_refused S a-reason.State n h = rw (le-leb n max_vars h)

abbrev pub form_or : Option Saved → ℕ → ℕ
form_or none k = bad_saved
form_or (some s) k = k

pub form_some : (o : Option Saved) {c : Counts} (k : ℕ) → Some c ≡ formed_of o → k ≡ form_or o k
form_some none k e = let z : ◌≡◌ {A = ℕ} 0 1 = cc in absurd (omega arith)
form_some (some s) k e = refl

pub form_none : (o : Option Saved) (k : ℕ) → None ≡ formed_of o → bad_saved ≡ form_or o k
form_none none k e = refl
form_none (some s) k e = let z : ◌≡◌ {A = ℕ} 0 1 = cc in absurd (omega arith)

-- numbers are below a limit where there are none, or the greatest is
pub below_each : (vs : List ℕ) (limit : ℕ) → (below (length vs) (greatest vs) limit ≡ true) ↔ Each (λ v. v < limit) vs
unfolding greatest
below_each [] limit = (λ e. tt, λ h. refl)
below_each (v ∷ vs) limit = let some : eqb (suc (length vs)) 0 ≡ false = ne_eqb (suc (length vs)) 0 (λ z. omega (arith, z)) in (
  λ e. (let less = ltb-true (greatest (v ∷ vs)) limit (rw some at e) in
      lower (v ∷ vs) (greatest_within (limit - 1) (v ∷ vs) (omega (arith, less))) (omega (arith, less))),
  λ h. rw some (lt-ltb (greatest (v ∷ vs)) limit (omega (arith, within_greatest (limit - 1) (v ∷ vs) (upper (v ∷ vs) h), h.0))),
)
  where
    lower : (l : List ℕ) → Each (λ v. v ≤ limit - 1) l → 0 < limit → Each (λ v. v < limit) l
    lower [] h p = tt
    lower (w ∷ l) h p = (omega (arith, h.0), lower l h.1 p)

    upper : (l : List ℕ) → Each (λ v. v < limit) l → Each (λ v. v ≤ limit - 1) l
    upper [] h = tt
    upper (w ∷ l) h = (omega (arith, h.0), upper l h.1)

-- the ends of clauses
pub ends_length : (at : ℕ) (cs : List (List ℕ)) → length (ends_from at cs) ≡ length cs
unfolding ends_from
ends_length at [] = refl
ends_length at (c ∷ cs) = ap suc (ends_length (at + length c) cs)

ends_rise : (at : ℕ) (cs : List (List ℕ)) (i : ℕ) → i < length (ends_from at cs) → get_or (at ∷ ends_from at cs) i 0 ≤ get_or (ends_from at cs) i 0
unfolding ends_from
ends_rise at [] i h = absurd (omega arith)
ends_rise at (c ∷ cs) zero h = omega arith
ends_rise at (c ∷ cs) (suc i) h = ends_rise (at + length c) cs i (omega arith)

ends_last : (at : ℕ) (cs : List (List ℕ)) → get_or (at ∷ ends_from at cs) (length (ends_from at cs)) 0 ≡ at + length (flatten cs)
unfolding ends_from flatten
ends_last at [] = omega arith
ends_last at (c ∷ cs) = omega (arith, ends_last (at + length c) cs, length-append c (flatten cs))

ends_ok_lem : (cs : List (List ℕ)) → ends_ok (ends_from 0 cs) (length (flatten cs)) ≡ true
unfolding ends_ok no_fall_at
ends_ok_lem cs =
    let last : start (ends_from 0 cs) (length (ends_from 0 cs)) ≡ length (flatten cs) = omega (arith, ends_last 0 cs) in
    and_both (every_all (no_fall_at (ends_from 0 cs)) (length (ends_from 0 cs)) (λ i h. le-leb _ _ (ends_rise 0 cs i h))) (eq-eqb _ _ last)

index_below : (n c : ℕ) → (c < n * 2) ↔ (index c < n)
index_below n c = (λ h. omega arith, λ h. omega arith)

-- So counts and the greatest code tell a good clause list.
pub clauses_judged : (n : ℕ) (cs : List (List ℕ)) → clauses_good n (length cs) (length (flatten cs)) (greatest (flatten cs)) ≡ clauses_ok n (flatten cs) (ends_from 0 cs)
unfolding list_ok
clauses_judged n cs = same_test _ _ forth back
  where
    codes : List ℕ
    codes = flatten cs

    ends : List ℕ
    ends = ends_from 0 cs

    forth : clauses_good n (length cs) (length codes) (greatest codes) ≡ true → clauses_ok n codes ends ≡ true
    forth e =
        let few : length cs ≤ max_clauses = leb-true _ _ (and_left (leb (length cs) max_clauses) _ e) in
        let rest = and_right (leb (length cs) max_clauses) _ e in
        let lits = and_left (leb (length codes) max_literals) _ rest in
        let all = (below_each codes (n * 2)).0 (and_right (leb (length codes) max_literals) _ rest) in
        let list : list_ok codes ends ≡ true = and_both (and_both (le-leb (length ends) max_clauses (omega (arith, few, ends_length 0 cs))) lits) (ends_ok_lem cs) in
        (clauses_facts n codes ends).1 (record { list = (list_facts codes ends).0 list; below = λ i h. (index_below n (get_or codes i 0)).0 (each_at (λ v. v < n * 2) codes i 0 all h) })

    back : clauses_ok n codes ends ≡ true → clauses_good n (length cs) (length codes) (greatest codes) ≡ true
    back e =
        let g = (clauses_facts n codes ends).0 e in
        and_both (le-leb (length cs) max_clauses (omega (arith, g.list.few_clauses, ends_length 0 cs))) (and_both (le-leb _ _ g.list.few_literals_lem) ((below_each codes (n * 2)).1 (each_of (λ v. v < n * 2) codes 0 (λ i h. (index_below n (get_or codes i 0)).1 (g.below i h)))))

-- What reading a text into memory comes to, where that has n places for each slice of variables: its counts, whether its clauses are good, and whether the state is; and what
-- then stands in memory.
pub record LoadedIs {C : Type 0} (R : Reader C) (s : Saved) (literals clauses : ℕ) (good passed : Bool) (lits ends : List ℕ) (t : Trail) (c : C) : Type 0 where
  pub literal_count : literals ≡ length (lits_said s)
  pub clause_count : clauses ≡ length (ends_said s)
  pub good_clauses : good ≡ clauses_ok s.opening.vars (lits_said s) (ends_said s)
  pub held : ClausesHeld s.clauses lits ends
  pub state_passed : good ≡ true → passed ≡ state_test R s
  pub trail_said_lem : passed ≡ true → t ≡ trail_said s
  pub chooser_said : passed ≡ true → c ≡ R.said s

-- the rows of a text, in their slices
pub fronts_apart : (s : Saved) → WellFormed s → (a b c d e f g : List ℕ) → Fronts (a ∷ b ∷ c ∷ d ∷ e ∷ f ∷ g ∷ []) s.rows
    → Front a (row s 0) × Front b (row s 1) × Front c (row s 2) × Front d (row s 3) × Front e (row s 4) × Front f (row s 5) × Front g (row s 6)
unfolding Fronts
fronts_apart s w a b c d e f g h =
    let r : Fronts (a ∷ b ∷ c ∷ d ∷ e ∷ f ∷ g ∷ []) (row s 0 ∷ row s 1 ∷ row s 2 ∷ row s 3 ∷ row s 4 ∷ row s 5 ∷ row s 6 ∷ []) = subst (Fronts (a ∷ b ∷ c ∷ d ∷ e ∷ f ∷ g ∷ [])) (rows_are s w) h in
    (r.0, r.1.0, r.1.1.0, r.1.1.1.0, r.1.1.1.1.0, r.1.1.1.1.1.0, r.1.1.1.1.1.1.0)

-- a slice of the row's length is the row; one number, or two, by value
pub front_all : (out vs : List ℕ) → Front out vs → length out ≡ length vs → out ≡ vs
front_all out vs f e = sym (take_all (length vs) out (omega arith)) ∙ f (omega arith)

pub front_part : (out vs : List ℕ) (k : ℕ) → Front out vs → k ≡ length vs → k ≤ length out → take k out ≡ vs
front_part out vs k f e h = rw e (f (omega (arith, e)))

pub front_one : (v : ℕ) (vs : List ℕ) → Front (v ∷ []) vs → length vs ≡ 1 → v ≡ get_or vs 0 0
front_one v vs f e = ap (λ (l : List ℕ). get_or l 0 0) (front_all (v ∷ []) vs f (sym e))

pub front_two : (v w : ℕ) (vs : List ℕ) → Front (v ∷ w ∷ []) vs → length vs ≡ 2 → (v ≡ get_or vs 0 0) × (w ≡ get_or vs 1 0)
front_two v w vs f e = let same = front_all (v ∷ w ∷ []) vs f (sym e) in (ap (λ (l : List ℕ). get_or l 0 0) same, ap (λ (l : List ℕ). get_or l 1 0) same)

-- codes below 2 n are of variables below n; variables of a line
pub codes_below : (n : ℕ) (codes : List ℕ) → Each (λ c. c < n * 2) codes → Codes n codes
codes_below n codes all i h = (index_below n (get_or codes i 0)).0 (each_at (λ c. c < n * 2) codes i 0 all h)

pub below_codes : (n : ℕ) (codes : List ℕ) → Each (λ c. index c < n) codes → Each (λ c. c < n * 2) codes
below_codes n codes all = each_of (λ c. c < n * 2) codes 0 (λ i h. (index_below n (get_or codes i 0)).1 (each_at (λ c. index c < n) codes i 0 all h))

-- What the fitting test says of codes and variables.
pub record Fitting (n : ℕ) (codes members : List ℕ) : Type 0 where
  pub few : length codes ≤ n
  pub few_members : length members ≤ n
  pub codes_in : Each (λ c. c < n * 2) codes
  pub members_in : Each (λ v. v < n) members

pub fitting_says : (n : ℕ) (codes members : List ℕ) → (fitting n (length codes) (greatest codes) (length members) (greatest members) ≡ true) ↔ Fitting n codes members
fitting_says n codes members = (
  λ e. (let a = and_right (leb (length codes) n) _ e in
      let b = and_right (leb (length members) n) _ a in
      record {
        few = leb-true _ _ (and_left (leb (length codes) n) _ e);
        few_members = leb-true _ _ (and_left (leb (length members) n) _ a);
        codes_in = (below_each codes (n * 2)).0 (and_left (below (length codes) (greatest codes) (n * 2)) _ b);
        members_in = (below_each members n).0 (and_right (below (length codes) (greatest codes) (n * 2)) _ b);
      }),
  λ f. and_both (le-leb _ _ f.few) (and_both (le-leb _ _ f.few_members) (and_both ((below_each codes (n * 2)).1 f.codes_in) ((below_each members n).1 f.members_in))),
)
