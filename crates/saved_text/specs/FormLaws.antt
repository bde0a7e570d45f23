-- Lines of a saved text one behind another, as code goes: rows behind rows, clause behind clause, and the whole. Assumes nothing.
use Rattle.std.specs.Prelude.{ℕ, suc, ◌+◌, ◌-◌, ◌<◌, ◌≤◌, ◌≡◌, Bool, true, false, cond, eqb, leb, min, max, set, Some, None}
use Rattle.std.specs.Prelude as code
use Rattle.std.proofs.Math.Path.{refl, sym, ap}
use Rattle.std.proofs.Common.{subst, ◌∙◌, arith, add-one, eqb-true, le-leb, length-take, length-set, drop_of_length-le, take-suc-set, length-take-le}
use Rattle.std.proofs.Math.Option.{Option, none, some}
use mathlib.Core.List.{List, [], ◌∷◌, ◌++◌, flatten, map, append-nil, append_assoc}
use Rattle.std.proofs.Math.ListN.{length, get_or, take, drop, length-append, length-drop}
use Rattle.std.proofs.Math.Seq.{append_snoc, drop-length, take-append_seam, take-append-add, drop-append_seam}
use Rattle.laws.specs.Each.{Each}
use Rattle.laws.specs.Tests.{true_or_false}
use Rattle.laws.specs.Parts.{second_at}
use Rattle.forms.specs.Letters.{clause_letter}
use Rattle.forms.specs.Text.{newline, occurs, find}
use Rattle.forms.specs.Forms.{Mode, vsids, vmtf, Opening, first_in}
use Rattle.forms.specs.Read.{mode_of, first_of}
use Rattle.forms.specs.declared.Opening as code-opening
use Rattle.forms.specs.declared.Mode as code-mode
use Rattle.forms.specs.declared.Mode.TheVariants as the-modes
use Rattle.forms.specs.Spelling.{Without, Whole, ended, first_line}
use Rattle.forms.specs.Words.{never, same_some}
use Rattle.saved_text.specs.declared.cursor.Numbers as numbers
use Rattle.saved_text.specs.declared.form.Clauses.{Clauses}
use Rattle.saved_text.specs.declared.form.TrailRows.{TrailRows}
use Rattle.saved_text.specs.declared.form.Counts.{Counts}
use Rattle.saved_text.specs.Saved as saved
use Rattle.saved_text.specs.Saved.{whole, Form, chooser_forms, clause_form, trail_form, Saved, Row, Rows, WellFormed, forms_of, row_line, row_lines, text_of}
use Rattle.saved_text.specs.Reading.{read_text}
use Rattle.saved_text.specs.Fields as fields
use Rattle.saved_text.specs.Read.{read_said}
use Rattle.saved_text.specs.Writing.{ended_append}
use Rattle.saved_text.specs.Greatest.{greatest, greatest_append}
use Rattle.saved_text.specs.Puts.{row_text}
use Rattle.saved_text.specs.Cursor.{numbers_of, RowIs, RowRead}
use Rattle.saved_text.specs.CursorLaws.{behind_it, place_within, next, first, row_long}
use Rattle.saved_text.specs.Form.{rows_text, Stand, Front, Fronts, PastRows, HeadRead, trail_rest, the_mode, opens, behind_trail, state_forms, StateRead, clauses_text, clauses_of, ends_from, ClausesHeld, Clauseless, SectionRead, OpensWith, Told, counts_with, counts_from, behind_text, BehindRead, formed_of, Placed}

-- ---- rows behind rows

-- a line, and what stands behind it
line_on : (l more rest : List ℕ) → (l ++ newline ∷ more) ++ rest ≡ (l ++ newline ∷ []) ++ (more ++ rest)
line_on l more rest = append_assoc l (newline ∷ more) rest ∙ sym (append_snoc l newline (more ++ rest))

same_end : (l : List ℕ) {m n : List ℕ} → l ++ m ≡ l ++ n → m ≡ n
same_end l {m} {n} e = sym (drop-append_seam l m) ∙ ap (drop (length l)) e ∙ drop-append_seam l n

module _ (gs : List Form) where
  rows_text_lem : (fs : List Form) (rs ss : List (List ℕ)) → Rows fs rs → rows_text (fs ++ gs) (rs ++ ss) ≡ rows_text fs rs ++ rows_text gs ss
  unfolding Rows row_lines ended
  rows_text_lem [] [] ss h = refl
  rows_text_lem [] (vs ∷ rs) ss h = absurd h
  rows_text_lem (f ∷ fs) [] ss h = absurd h
  rows_text_lem (f ∷ fs) (vs ∷ rs) ss h = rw (rows_text_lem fs rs ss h.1) (sym (append_assoc (row_line f vs) (newline ∷ rows_text fs rs) (rows_text gs ss)))

  rows_both : (fs : List Form) (rs ss : List (List ℕ)) → Rows fs rs → Rows gs ss → Rows (fs ++ gs) (rs ++ ss)
  unfolding Rows
  rows_both [] [] ss h k = k
  rows_both [] (vs ∷ rs) ss h k = absurd h
  rows_both (f ∷ fs) [] ss h k = absurd h
  rows_both (f ∷ fs) (vs ∷ rs) ss h k = (h.0, rows_both fs rs ss h.1 k)

  -- rows of both, taken apart
  record Parts (fs : List Form) (rows : List (List ℕ)) : Type 0 where
    front : List (List ℕ)
    back : List (List ℕ)
    is : rows ≡ front ++ back
    fronts : Rows fs front
    backs : Rows gs back
    text_is : rows_text (fs ++ gs) rows ≡ rows_text fs front ++ rows_text gs back

  rows_parts : (fs : List Form) (rows : List (List ℕ)) → Rows (fs ++ gs) rows → Parts fs rows
  unfolding Rows row_lines ended
  rows_parts [] rows h = record { front = []; back = rows; is = refl; fronts = tt; backs = h; text_is = refl }
  rows_parts (f ∷ fs) [] h = absurd h
  rows_parts (f ∷ fs) (vs ∷ rows) h =
      let p = rows_parts fs rows h.1 in
      record { front = vs ∷ p.front; back = p.back; is = ap (λ (l : List (List ℕ)). vs ∷ l) p.is; fronts = (h.0, p.fronts); backs = p.backs; text_is = rw p.text_is (sym (append_assoc (row_line f vs) (newline ∷ rows_text fs p.front) (rows_text gs p.back))) }

  parts_at : {fs : List Form} {rows : List (List ℕ)} (s : Parts fs rows) (text : List ℕ) (at : ℕ) (rest : List ℕ) → drop at text ≡ rows_text (fs ++ gs) rows ++ rest → drop at text ≡ rows_text fs s.front ++ (rows_text gs s.back ++ rest)
  parts_at {fs} s text at rest e = e ∙ ap (λ (l : List ℕ). l ++ rest) s.text_is ∙ append_assoc (rows_text fs s.front) (rows_text gs s.back) rest

rows_length_lem : (fs : List Form) (rows : List (List ℕ)) → Rows fs rows → length rows ≡ length fs
unfolding Rows
rows_length_lem [] [] r = refl
rows_length_lem [] (vs ∷ rows) r = absurd r
rows_length_lem (f ∷ fs) [] r = absurd r
rows_length_lem (f ∷ fs) (vs ∷ rows) r = ap suc (rows_length_lem fs rows r.1)

both_rows : (s : Saved) → WellFormed s → Rows (state_forms s.opening s.codes) (s.codes ∷ s.rows)
unfolding Rows
both_rows s w = (w.codes, w.rows)

fronts_both : (fs : List Form) (os ps rs ss : List (List ℕ)) → length os ≡ length fs → Rows fs rs → Fronts os rs → Fronts ps ss → Fronts (os ++ ps) (rs ++ ss)
unfolding Rows Fronts
fronts_both [] [] ps [] ss e h a b = b
fronts_both [] [] ps (vs ∷ rs) ss e h a b = absurd h
fronts_both [] (o ∷ os) ps rs ss e h a b = absurd (omega (arith, e))
fronts_both (f ∷ fs) [] ps rs ss e h a b = absurd (omega (arith, e))
fronts_both (f ∷ fs) (o ∷ os) ps [] ss e h a b = absurd h
fronts_both (f ∷ fs) (o ∷ os) ps (vs ∷ rs) ss e h a b = (a.0, fronts_both fs os ps rs ss (omega arith) h.1 a.1 b)

module _ {fs gs : List Form} {text : List ℕ} {at p : ℕ} where
  pub stand_then : {q : ℕ} {rs ss : List (List ℕ)} → Stand fs text at p rs → Stand gs text p q ss → Stand (fs ++ gs) text at q (rs ++ ss)
  stand_then {q} {rs} {ss} a b = record {
    are = rows_both gs fs rs ss a.are b.are;
    within = b.within;
    text_is = a.text_is ∙ ap (λ (l : List ℕ). rows_text fs rs ++ l) b.text_is ∙ rw (rows_text_lem gs fs rs ss a.are) (sym (append_assoc (rows_text fs rs) (rows_text gs ss) (drop q text)));
    only = λ others rest h e.
        let s = rows_parts gs fs others h in
        let behind = rows_text gs s.back ++ rest in
        let here = parts_at gs s text at rest e in
        let front = a.only s.front behind s.fronts here in
        let back = b.only s.back rest s.backs (same_end (rows_text fs rs) (sym a.text_is ∙ here ∙ ap (λ (l : List (List ℕ)). rows_text fs l ++ behind) front)) in
        s.is ∙ rw (front, back);
  }

  pub past_then : {r : code.Option ℕ} {os ps : List (List ℕ)} → length os ≡ length fs → PastRows fs text at (Some p) os → PastRows gs text p r ps → PastRows (fs ++ gs) text at r (os ++ ps)
  past_then {r} {os} {ps} long f g = record {
    sound = λ q e. (let a = f.sound p refl in let b = g.sound q e in (a.0 ++ b.0, stand_then a.1 b.1));
    complete = λ rows rest h e.
        let s = rows_parts gs fs rows h in
        let behind = rows_text gs s.back ++ rest in
        let here = parts_at gs s text at rest e in
        let first = f.complete s.front behind s.fronts here in
        let same = first.0 in
        let place : p ≡ at + length (rows_text fs s.front) = cc in
        let end : p + length (rows_text gs s.back) ≡ at + length (rows_text (fs ++ gs) rows) = omega (arith, ap length s.text_is, length-append (rows_text fs s.front) (rows_text gs s.back)) in
        let more = g.complete s.back rest s.backs (ap (λ (k : ℕ). drop k text) place ∙ behind_it text at (rows_text fs s.front) behind here) in
        (more.0 ∙ ap Some end, subst (Fronts (os ++ ps)) (sym s.is) (fronts_both fs os ps s.front s.back long s.fronts first.1 more.1));
  }

-- where none stand
no_rows : (fs : List Form) (text : List ℕ) (at : ℕ) (outs : List (List ℕ)) → ((rows : List (List ℕ)) (rest : List ℕ) → Rows fs rows → drop at text ≡ rows_text fs rows ++ rest → ⊥) → PastRows fs text at None outs
no_rows fs text at outs n = record { sound = λ q e. absurd (let z : ◌≡◌ {A = ℕ} 0 1 = cc in omega arith); complete = λ rows rest h e. absurd (n rows rest h e) }

pub past_bad : {fs : List Form} (gs : List Form) {text : List ℕ} {at : ℕ} {os : List (List ℕ)} (outs : List (List ℕ)) → PastRows fs text at None os → PastRows (fs ++ gs) text at None outs
past_bad {fs} gs {text} {at} outs f = no_rows (fs ++ gs) text at outs (λ rows rest h e.
    let s = rows_parts gs fs rows h in
    let first = (f.complete s.front (rows_text gs s.back ++ rest) s.fronts (parts_at gs s text at rest e)).0 in
    let z : ◌≡◌ {A = ℕ} 0 1 = cc in
    omega arith)

-- ---- a row, from its line

module _ (f : Form) where
  one_row : {C : Type 0} (text : List ℕ) (at : ℕ) (rows : List (List ℕ)) (rest : List ℕ) → Rows (f ∷ []) rows → drop at text ≡ rows_text (f ∷ []) rows ++ rest
      → ((vs : List ℕ) → rows ≡ vs ∷ [] → Row f vs → drop at text ≡ row_text f.letter f.kind vs ++ rest → C) → C
  unfolding Rows row_lines ended
  one_row text at [] rest h e so = absurd h
  one_row text at (vs ∷ []) rest h e so = so vs refl h.0 e
  one_row text at (vs ∷ (ws ∷ rows)) rest h e so = absurd h.1

  one_text : (vs : List ℕ) → row_text f.letter f.kind vs ≡ rows_text (f ∷ []) (vs ∷ [])
  unfolding row_lines ended
  one_text vs = refl

  module _ {text : List ℕ} {at : ℕ} {out : List ℕ} where
    pub row_stands : {n : numbers.Numbers} (i : RowIs f.letter f.kind text at out n) → saved.Counts f.count n.count → Stand (f ∷ []) text at n.behind (i.numbers ∷ [])
    unfolding Rows row_lines ended
    row_stands {n} i counts =
        let same : n.count ≡ length i.numbers = ap (λ (m : numbers.Numbers). m.count) i.are in
        record { are = ((rw same at counts, i.fits), tt); within = i.within; text_is = i.text_is; only = λ others rest h e. one_row text at others rest h e (λ vs is fits there. is ∙ ap (λ (l : List ℕ). l ∷ []) (i.only vs rest fits.1 there)) }

    pub row_bad : RowRead f.letter f.kind text at None out → PastRows (f ∷ []) text at None (out ∷ [])
    row_bad r = no_rows (f ∷ []) text at (out ∷ []) (λ rows rest h e. one_row text at rows rest h e (λ vs is fits there.
        let same = r.complete vs rest fits.1 there in
        let z : ◌≡◌ {A = ℕ} 0 1 = cc in
        omega arith))

    module _ {n : numbers.Numbers} (r : RowRead f.letter f.kind text at (Some n) out) where
      -- the line that stands there is the one that was read
      row_same : (vs rest : List ℕ) → Row f vs → drop at text ≡ row_text f.letter f.kind vs ++ rest → (n ≡ numbers_of f.letter at f.kind vs) × Front out vs
      row_same vs rest fits there =
          let i = r.sound n refl in
          let same : vs ≡ i.numbers = i.only vs rest fits.1 there in
          let read = r.complete vs rest fits.1 there in
          (cc, rw same i.held)

      -- with another count of numbers
      pub row_miscounted : (saved.Counts f.count n.count → ⊥) → PastRows (f ∷ []) text at None (out ∷ [])
      row_miscounted other = no_rows (f ∷ []) text at (out ∷ []) (λ rows rest h e. one_row text at rows rest h e (λ vs is fits there.
          let same : n.count ≡ length vs = ap (λ (m : numbers.Numbers). m.count) (row_same vs rest fits there).0 in
          other (rw same fits.0)))

      pub row_past : saved.Counts f.count n.count → PastRows (f ∷ []) text at (Some n.behind) (out ∷ [])
      unfolding Fronts
      row_past counts = record {
        sound = λ p e. (let i = r.sound n refl in let place : p ≡ n.behind = cc in (i.numbers ∷ [], rw place (row_stands i counts)));
        complete = λ rows rest h e. one_row text at rows rest h e (λ vs is fits there.
            let read = row_same vs rest fits there in
            let same : n.behind ≡ at + length (row_text f.letter f.kind vs) = ap (λ (m : numbers.Numbers). m.behind) read.0 in
            rw (is, same) (ap (λ (l : List ℕ). Some (at + length l)) (one_text vs), (read.1, tt)));
      }

-- ---- a line whose count says which rows stand behind it

head_text : (f : Form) (gs : List Form) (vs : List ℕ) (rows : List (List ℕ)) → rows_text (f ∷ gs) (vs ∷ rows) ≡ row_text f.letter f.kind vs ++ rows_text gs rows
unfolding row_lines ended
head_text f gs vs rows = sym (append_snoc (row_line f vs) newline (rows_text gs rows))

head_on : (f : Form) (gs : List Form) (vs : List ℕ) (rows : List (List ℕ)) (rest : List ℕ) → rows_text (f ∷ gs) (vs ∷ rows) ++ rest ≡ row_text f.letter f.kind vs ++ (rows_text gs rows ++ rest)
head_on f gs vs rows rest = ap (λ (l : List ℕ). l ++ rest) (head_text f gs vs rows) ∙ append_assoc (row_text f.letter f.kind vs) (rows_text gs rows) rest

module _ (f : Form) (more : ℕ → List Form) {text : List ℕ} {at : ℕ} {out : List ℕ} where
  head_none : {count top : ℕ} {outs : List (List ℕ)}
      → ((vs : List ℕ) (rows : List (List ℕ)) (rest : List ℕ) → Row f vs → Rows (more (length vs)) rows → drop at text ≡ row_text f.letter f.kind vs ++ (rows_text (more (length vs)) rows ++ rest) → ⊥)
      → HeadRead f more text at None count top out outs
  head_none n = record { sound = λ q e. absurd (let z : ◌≡◌ {A = ℕ} 0 1 = cc in omega arith); complete = λ vs rows rest h k e. absurd (n vs rows rest h k e) }

  pub head_bad : RowRead f.letter f.kind text at None out → HeadRead f more text at None 0 0 out []
  head_bad r = head_none (λ vs rows rest h k e.
      let same = r.complete vs (rows_text (more (length vs)) rows ++ rest) h.1 e in
      let z : ◌≡◌ {A = ℕ} 0 1 = cc in
      omega arith)

  module _ {n : numbers.Numbers} (r : RowRead f.letter f.kind text at (Some n) out) where
    pub head_miscounted : (saved.Counts f.count n.count → ⊥) → HeadRead f more text at None 0 0 out []
    head_miscounted other = head_none (λ vs rows rest h k e.
        let same : n.count ≡ length vs = ap (λ (m : numbers.Numbers). m.count) (row_same f r vs (rows_text (more (length vs)) rows ++ rest) h e).0 in
        other (rw same h.0))

    -- what stands behind the line
    module _ {p : code.Option ℕ} {outs : List (List ℕ)} (g : PastRows (more n.count) text n.behind p outs) where
      behind_line : (vs : List ℕ) (rows : List (List ℕ)) (rest : List ℕ) → Row f vs → Rows (more (length vs)) rows → drop at text ≡ row_text f.letter f.kind vs ++ (rows_text (more (length vs)) rows ++ rest)
          → (p ≡ Some (at + length (row_text f.letter f.kind vs) + length (rows_text (more (length vs)) rows))) × Fronts outs rows
      behind_line vs rows rest h k e =
          let line = row_text f.letter f.kind vs in
          let is = (row_same f r vs (rows_text (more (length vs)) rows ++ rest) h e).0 in
          let count : n.count ≡ length vs = ap (λ (m : numbers.Numbers). m.count) is in
          let place : n.behind ≡ at + length line = ap (λ (m : numbers.Numbers). m.behind) is in
          let same : PastRows (more (length vs)) text (at + length line) p outs = subst (λ (k : ℕ). PastRows (more k) text (at + length line) p outs) count (subst (λ (q : ℕ). PastRows (more n.count) text q p outs) place g) in
          same.complete rows rest k (behind_it text at line (rows_text (more (length vs)) rows ++ rest) e)

    pub head_stopped : {outs : List (List ℕ)} → PastRows (more n.count) text n.behind None outs → HeadRead f more text at None 0 0 out []
    head_stopped g = head_none (λ vs rows rest h k e.
        let same = (behind_line g vs rows rest h k e).0 in
        let z : ◌≡◌ {A = ℕ} 0 1 = cc in
        omega arith)

    pub head_read : saved.Counts f.count n.count → {k p : ℕ} {outs : List (List ℕ)} → k ≡ n.count → PastRows (more n.count) text n.behind (Some p) outs → HeadRead f more text at (Some p) k n.greatest out outs
    head_read counts {k} {p} {outs} many g = record {
      sound = λ q e. (let i = r.sound n refl in
          let same : n.count ≡ length i.numbers = ap (λ (m : numbers.Numbers). m.count) i.are in
          let b = (subst (λ (k : ℕ). PastRows (more k) text n.behind (Some p) outs) same g).sound q e in
          (i.numbers, b.0, n.behind, row_stands f i counts, b.1));
      complete = λ vs rows rest h k e.
          let is = row_same f r vs (rows_text (more (length vs)) rows ++ rest) h e in
          let b = behind_line g vs rows rest h k e in
          (b.0, many ∙ ap (λ (m : numbers.Numbers). m.count) is.0, ap (λ (m : numbers.Numbers). m.greatest) is.0, is.1, b.1);
    }

-- numbers of which code has one or two by value
pub alone : (l : List ℕ) → length l ≡ 1 → l ≡ get_or l 0 0 ∷ []
alone [] e = absurd (omega arith)
alone (v ∷ []) e = refl
alone (v ∷ (w ∷ l)) e = absurd (omega arith)

pub two : (l : List ℕ) → length l ≡ 2 → l ≡ get_or l 0 0 ∷ get_or l 1 0 ∷ []
two [] e = absurd (omega arith)
two (v ∷ []) e = absurd (omega arith)
two (v ∷ (w ∷ [])) e = refl
two (v ∷ (w ∷ (u ∷ l))) e = absurd (omega arith)

-- where the count says nothing, these are rows
pub head_past : {f : Form} {gs : List Form} {text : List ℕ} {at : ℕ} {r : code.Option ℕ} {count top : ℕ} {out : List ℕ} {outs : List (List ℕ)} → HeadRead f (λ k. gs) text at r count top out outs → PastRows (f ∷ gs) text at r []
unfolding Rows Fronts
head_past {f} {gs} {text} {at} {r} h = record {
  sound = λ p e. (let a = h.sound p e in (a.0 ∷ a.1, stand_then a.3 a.4));
  complete = go;
}
  where
    go : (rows : List (List ℕ)) (rest : List ℕ) → Rows (f ∷ gs) rows → drop at text ≡ rows_text (f ∷ gs) rows ++ rest → (r ≡ Some (at + length (rows_text (f ∷ gs) rows))) × Fronts [] rows
    go [] rest k e = absurd k
    go (vs ∷ rows) rest k e =
        let line = row_text f.letter f.kind vs in
        let done = h.complete vs rows rest k.0 k.1 (e ∙ head_on f gs vs rows rest) in
        let end : at + length line + length (rows_text gs rows) ≡ at + length (rows_text (f ∷ gs) (vs ∷ rows)) = omega (arith, ap length (head_text f gs vs rows), length-append line (rows_text gs rows)) in
        (done.0 ∙ ap Some end, tt)

-- ---- the state: the trail's lines, and then the chooser's

abbrev choosers_of : Opening → List Form
choosers_of o = chooser_forms o.mode o.vars

module _ (o : Opening) {text : List ℕ} {at : ℕ} {count top : ℕ} {out : List ℕ} {outs : List (List ℕ)} where
  -- the trail's lines, with what stands behind them
  module _ {p : code.Option ℕ} (t : HeadRead trail_form trail_rest text at p count top out outs) where
    state_parts : (codes : List ℕ) (rows : List (List ℕ)) (rest : List ℕ) → Rows (state_forms o codes) (codes ∷ rows) → drop at text ≡ rows_text (state_forms o codes) (codes ∷ rows) ++ rest
        → (front : List (List ℕ)) × (back : List (List ℕ)) × (q : ℕ) × (rows ≡ front ++ back) × Rows (choosers_of o) back × (p ≡ Some q) × (count ≡ length codes) × (top ≡ greatest codes) × Front out codes × Fronts outs front
        × (drop q text ≡ rows_text (choosers_of o) back ++ rest) × (q + length (rows_text (choosers_of o) back) ≡ at + length (rows_text (state_forms o codes) (codes ∷ rows))) × Rows (trail_rest (length codes)) front
    unfolding Rows
    state_parts codes rows rest h e =
        let k = length codes in
        let line = row_text trail_form.letter trail_form.kind codes in
        let s = rows_parts (choosers_of o) (trail_rest k) rows h.1 in
        let behind = rows_text (choosers_of o) s.back ++ rest in
        let there : drop at text ≡ line ++ (rows_text (trail_rest k) s.front ++ behind) = e ∙ head_on trail_form (behind_trail o k) codes rows rest ∙ ap (λ (l : List ℕ). line ++ l) (ap (λ (l : List ℕ). l ++ rest) s.text_is ∙ append_assoc (rows_text (trail_rest k) s.front) (rows_text (choosers_of o) s.back) rest) in
        let done = t.complete codes s.front behind h.0 s.fronts there in
        let on = behind_it text at line (rows_text (trail_rest k) s.front ++ behind) there in (
          s.front,
          s.back,
          at + length line + length (rows_text (trail_rest k) s.front),
          s.is,
          s.backs,
          done.0,
          done.1,
          done.2,
          done.3,
          done.4,
          behind_it text (at + length line) (rows_text (trail_rest k) s.front) behind on,
          omega (arith, ap length (head_text trail_form (behind_trail o k) codes rows), length-append line (rows_text (behind_trail o k) rows), ap length s.text_is, length-append (rows_text (trail_rest k) s.front) (rows_text (choosers_of o) s.back)),
          s.fronts,
        )

  pub state_bad : HeadRead trail_form trail_rest text at None count top out outs → StateRead o text at None
  state_bad t = record {
    sound = λ q e. absurd (let z : ◌≡◌ {A = ℕ} 0 1 = cc in omega arith);
    complete = λ codes rows rest h e. absurd (
        let same = (state_parts t codes rows rest h e).5 in
        let z : ◌≡◌ {A = ℕ} 0 1 = cc in
        omega arith);
  }

  pub state_past : {p : ℕ} → HeadRead trail_form trail_rest text at (Some p) count top out outs → {r : code.Option ℕ} {more : List (List ℕ)} → PastRows (choosers_of o) text p r more → StateRead o text at r
  state_past {p} t {r} {more} f = record {
    sound = λ q e. (let a = t.sound p refl in let b = f.sound q e in (a.0, a.1 ++ b.0, stand_then a.3 (stand_then a.4 b.1)));
    complete = λ codes rows rest h e.
        let s = state_parts t codes rows rest h e in
        let same = s.5 in
        let place : p ≡ s.2 = cc in
        (f.complete s.1 rest s.4 (ap (λ (k : ℕ). drop k text) place ∙ s.10)).0 ∙ ap Some (ap (λ (k : ℕ). k + length (rows_text (choosers_of o) s.1)) place ∙ s.11);
  }

-- ---- the clauses

-- Clauses were read up to a place, and clauses that stand there go on behind them.
pub record Clausing (text : List ℕ) (from : ℕ) (lits ends : List ℕ) (count literals top at : ℕ) : Type 0 where
  pub done : List (List ℕ)
  pub rows : Each (Row clause_form) done
  pub within : at ≤ length text
  pub few : count + literals ≤ at
  pub counts : length done ≡ count
  pub codes : length (flatten done) ≡ literals
  pub highest : greatest (flatten done) ≡ top
  pub held : literals ≤ length lits → take literals lits ≡ flatten done
  pub ended : literals ≤ length lits → count ≤ length ends → take count ends ≡ ends_from 0 done
  pub place : at ≡ from + length (clauses_text done)
  pub text_is : drop from text ≡ clauses_text done ++ drop at text
  pub goes : (cs : List (List ℕ)) (rest : List ℕ) → Each (Row clause_form) cs → Clauseless rest → drop from text ≡ clauses_text cs ++ rest
      → (more : List (List ℕ)) × (cs ≡ done ++ more) × Each (Row clause_form) more × (drop at text ≡ clauses_text more ++ rest)

clauses_text_more : (done : List (List ℕ)) (c : List ℕ) → clauses_text (done ++ (c ∷ [])) ≡ clauses_text done ++ row_text clause_letter whole c
unfolding ended
clauses_text_more [] c = refl
clauses_text_more (d ∷ done) c = rw (clauses_text_more done c) (sym (append_assoc (row_line clause_form d) (newline ∷ clauses_text done) (row_text clause_letter whole c)))

flatten_more : (done : List (List ℕ)) (c : List ℕ) → flatten (done ++ (c ∷ [])) ≡ flatten done ++ c
unfolding flatten
flatten_more [] c = append-nil c
flatten_more (d ∷ done) c = rw (flatten_more done c) (sym (append_assoc d (flatten done) c))

ends_more : (at : ℕ) (done : List (List ℕ)) (c : List ℕ) → ends_from at (done ++ (c ∷ [])) ≡ ends_from at done ++ ((at + length (flatten done) + length c) ∷ [])
unfolding ends_from flatten
ends_more at [] c = let same : at + length c ≡ at + 0 + length c = omega arith in rw same
ends_more at (d ∷ done) c =
    let same : at + length d + length (flatten done) + length c ≡ at + length (d ++ flatten done) + length c = omega (arith, length-append d (flatten done)) in
    ap (λ (l : List ℕ). (at + length d) ∷ l) (ends_more (at + length d) done c ∙ rw same)

each_more : (P : List ℕ → Type 0) (cs : List (List ℕ)) (c : List ℕ) → Each P cs → P c → Each P (cs ++ (c ∷ []))
each_more P [] c h p = (p, tt)
each_more P (d ∷ cs) c h p = (h.0, each_more P cs c h.1 p)

-- what is left of a list from a place on, put back
pub put_back : (l r : List ℕ) (n : ℕ) → n ≤ length l → length r ≡ length (take (length l - n) (drop n l))
    → (take n l ++ (r ++ drop (length l - n) (drop n l)) ≡ take n l ++ r) × (length (take n l ++ (r ++ drop (length l - n) (drop n l))) ≡ length l)
put_back l r n h e =
    let short : length (drop n l) ≤ length l - n = omega (arith, length-drop n l) in
    let none : drop (length l - n) (drop n l) ≡ [] = drop_of_length-le (drop n l) short in
    let same : take n l ++ (r ++ drop (length l - n) (drop n l)) ≡ take n l ++ r = rw none (ap (λ (m : List ℕ). take n l ++ m) (append-nil r)) in
    (same, ap length same ∙ simp (length-append, length-take) (omega (arith, e, length-take (length l - n) (drop n l), length-drop n l)))

begins_none : (l bs : List ℕ) → Clauseless l → l ≡ clause_letter ∷ bs → ⊥
begins_none [] bs h e = omega (arith, ap length e)
begins_none (b ∷ l) bs h e = h cc

clauseless : (l : List ℕ) → ((bs : List ℕ) → l ≡ clause_letter ∷ bs → ⊥) → Clauseless l
clauseless [] n = tt
clauseless (b ∷ l) n = λ e. n l (rw e)

module _ (text : List ℕ) (from : ℕ) where
  pub no_clauses : from ≤ length text → (lits ends : List ℕ) → Clausing text from lits ends 0 0 0 from
  unfolding ended flatten greatest ends_from
  no_clauses h lits ends = record { done = []; rows = tt; within = h; few = omega arith; counts = refl; codes = refl; highest = refl; held = λ l. refl; ended = λ l m. refl; place = omega arith; text_is = refl; goes = λ cs rest rows last e. (cs, refl, rows, e) }

  module _ (lits ends : List ℕ) (count literals top at : ℕ) (s : Clausing text from lits ends count literals top at) where
    -- where a line begins as theirs do
    module _ (h : at < length text) (b : get_or text at 0 ≡ clause_letter) where
      record Next (more : List (List ℕ)) (rest : List ℕ) : Type 0 where
        clause : List ℕ
        others : List (List ℕ)
        is : more ≡ clause ∷ others
        row : Row clause_form clause
        rows : Each (Row clause_form) others
        there : drop at text ≡ row_text clause_letter whole clause ++ (clauses_text others ++ rest)

      a_next : (more : List (List ℕ)) (rest : List ℕ) → Each (Row clause_form) more → Clauseless rest → drop at text ≡ clauses_text more ++ rest → Next more rest
      unfolding ended
      a_next [] rest rows last e = absurd (begins_none rest (drop (at + 1) text) last (sym e ∙ next text at clause_letter h b))
      a_next (c ∷ more) rest rows last e = record { clause = c; others = more; is = refl; row = rows.0; rows = rows.1; there = e ∙ line_on (row_line clause_form c) (clauses_text more) rest }

      pub section_bad : {out : List ℕ} → RowRead clause_letter whole text at None out → (lits' ends' : List ℕ) → SectionRead text from None lits' ends'
      section_bad r lits' ends' = record {
        sound = λ c e. absurd (let z : ◌≡◌ {A = ℕ} 0 1 = cc in omega arith);
        complete = λ cs rest rows last e. absurd (
            let g = s.goes cs rest rows last e in
            let a = a_next g.0 rest g.2 last g.3 in
            let read = r.complete a.clause (clauses_text a.others ++ rest) a.row.1 a.there in
            let z : ◌≡◌ {A = ℕ} 0 1 = cc in
            omega arith);
      }

      -- a clause that was read into what is left of the codes
      pub section_next : {out : List ℕ} {n : numbers.Numbers} → RowRead clause_letter whole text at (Some n) out → {g : ℕ} → g ≡ max n.greatest top → {lits' ends' : List ℕ}
          → length lits' ≡ length lits → (literals ≤ length lits → lits' ≡ take literals lits ++ out) → ends' ≡ cond (leb (literals + n.count) (length lits')) (set ends count (literals + n.count)) ends
          → Clausing text from lits' ends' (count + 1) (literals + n.count) g n.behind
      section_next {out} {n} r {g} new {lits'} {ends'} same_room read-in stored =
          let i = r.sound n refl in
          let all = s.done ++ (i.numbers ∷ []) in
          let many : n.count ≡ length i.numbers = ap (λ (m : numbers.Numbers). m.count) i.are in
          let most : n.greatest ≡ greatest i.numbers = ap (λ (m : numbers.Numbers). m.greatest) i.are in
          let long : n.behind ≡ at + length (row_text clause_letter whole i.numbers) = ap (λ (m : numbers.Numbers). m.behind) i.are in
          record {
            done = all;
            rows = each_more (Row clause_form) s.done i.numbers s.rows (tt, i.fits);
            within = i.within;
            few = omega (arith, s.few, row_long i);
            counts = simp length-append (omega (arith, s.counts));
            codes = ap length (flatten_more s.done i.numbers) ∙ simp length-append (omega (arith, s.codes));
            highest = ap greatest (flatten_more s.done i.numbers) ∙ greatest_append (flatten s.done) i.numbers ∙ omega (arith, s.highest, most, new);
            held = λ l. (let room : literals ≤ length lits = omega (arith, same_room) in
                let front : length (take literals lits) ≡ literals = length-take-le literals lits room in
                let left : length i.numbers ≤ length out = omega (arith, ap length (read-in room), length-append (take literals lits) out, front) in
                let parts : take (literals + n.count) (take literals lits ++ out) ≡ take literals lits ++ take n.count out = rw front at (take-append-add (take literals lits) out n.count) in
                let taken : take n.count out ≡ i.numbers = ap (λ (k : ℕ). take k out) many ∙ i.held left in
                ap (take (literals + n.count)) (read-in room) ∙ parts ∙ rw (s.held room) (ap (λ (l : List ℕ). flatten s.done ++ l) taken) ∙ sym (flatten_more s.done i.numbers));
            ended = λ l m. (let stores : ends' ≡ set ends count (literals + n.count) = stored ∙ rw (le-leb (literals + n.count) (length lits') l) in
                let more : count < length ends = omega (arith, ap length stores, length-set ends count (literals + n.count)) in
                let last : 0 + length (flatten s.done) + length i.numbers ≡ literals + n.count = omega (arith, s.codes) in
                let taken : take (count + 1) (set ends count (literals + n.count)) ≡ take count ends ++ ((literals + n.count) ∷ []) = rw add-one (take-suc-set ends count (literals + n.count) more) in
                ap (take (count + 1)) stores ∙ taken ∙ ap (λ (l : List ℕ). l ++ ((literals + n.count) ∷ [])) (s.ended (omega (arith, same_room)) (omega arith)) ∙ sym (ends_more 0 s.done i.numbers ∙ ap (λ (k : ℕ). ends_from 0 s.done ++ (k ∷ [])) last));
            place = omega (arith, s.place, ap length (clauses_text_more s.done i.numbers), length-append (clauses_text s.done) (row_text clause_letter whole i.numbers));
            text_is = s.text_is ∙ ap (λ (l : List ℕ). clauses_text s.done ++ l) i.text_is ∙ rw (clauses_text_more s.done i.numbers) (sym (append_assoc (clauses_text s.done) (row_text clause_letter whole i.numbers) (drop n.behind text)));
            goes = λ cs rest rows last e.
                let g = s.goes cs rest rows last e in
                let a = a_next g.0 rest g.2 last g.3 in
                let same : a.clause ≡ i.numbers = i.only a.clause (clauses_text a.others ++ rest) a.row.1 a.there in
                let behind : n.behind ≡ at + length (row_text clause_letter whole a.clause) = long ∙ rw same in (
                  a.others,
                  g.1 ∙ ap (λ (l : List (List ℕ)). s.done ++ l) (a.is ∙ ap (λ (c : List ℕ). c ∷ a.others) same) ∙ sym (append_snoc s.done i.numbers a.others),
                  a.rows,
                  ap (λ (k : ℕ). drop k text) behind ∙ behind_it text at (row_text clause_letter whole a.clause) (clauses_text a.others ++ rest) a.there,
                );
          }

    -- and where none does
    module _ (b : at < length text → get_or text at 0 ≡ clause_letter → ⊥) where
      nothing_more : (more : List (List ℕ)) (rest : List ℕ) → drop at text ≡ clauses_text more ++ rest → more ≡ []
      unfolding ended
      nothing_more [] rest e = refl
      nothing_more (c ∷ more) rest e = let f = first text at clause_letter _ e in absurd (b f.0 f.1)

      all_done : (cs : List (List ℕ)) (rest : List ℕ) → Each (Row clause_form) cs → Clauseless rest → drop from text ≡ clauses_text cs ++ rest → cs ≡ s.done
      all_done cs rest rows last e = let g = s.goes cs rest rows last e in g.1 ∙ rw (nothing_more g.0 rest g.3) (append-nil s.done)

      pub section_ends : SectionRead text from (Some (record { count = count; literals = literals; greatest = top; behind = at })) lits ends
      section_ends =
          let those : record { count = count; literals = literals; greatest = top; behind = at } ≡ clauses_of from s.done = rw (s.counts, s.codes, s.highest, ← s.place) in
          record {
            sound = λ c e. (let same : c ≡ record { count = count; literals = literals; greatest = top; behind = at } = cc in
                rw same (record {
                  clauses = s.done;
                  are = those;
                  rows = s.rows;
                  within = s.within;
                  text_is = s.text_is;
                  last = clauseless (drop at text) (λ bs e. let f = first text at clause_letter bs e in b f.0 f.1);
                  only = all_done;
                }));
            complete = λ cs rest rows last e. rw (all_done cs rest rows last e) (ap Some those, record { codes_held = rw s.codes s.held; ends_held = rw (s.codes, s.counts) s.ended });
          }

-- ---- behind the first line: the clauses, and the state up to the end

-- the trail's line begins with another letter
trail_clauseless : (o : Opening) (codes : List ℕ) (rows : List (List ℕ)) (rest : List ℕ) → Clauseless (rows_text (state_forms o codes) (codes ∷ rows) ++ rest)
unfolding row_lines ended
trail_clauseless o codes rows rest = λ e. omega arith

module _ (text : List ℕ) (at : ℕ) (h : at ≤ length text) where
  no_form : (o : Opening) → ((s : Saved) → WellFormed s → s.opening ≡ o → drop at text ≡ behind_text s → ⊥) → BehindRead o text at None
  no_form o n = record { sound = λ c e. absurd (let z : ◌≡◌ {A = ℕ} 0 1 = cc in omega arith); complete = λ s w q e. absurd (n s w q e) }

  -- the clauses of a text that stands there
  section_of : {r : code.Option Clauses} {lits ends : List ℕ} → SectionRead text at r lits ends → (s : Saved) → WellFormed s → drop at text ≡ behind_text s → (r ≡ Some (clauses_of at s.clauses)) × ClausesHeld s.clauses lits ends
  section_of f s w e = f.complete s.clauses (rows_text (state_forms s.opening s.codes) (s.codes ∷ s.rows)) w.clauses (rw append-nil at (trail_clauseless s.opening s.codes s.rows [])) e

  -- and its state
  state_of : {c : Clauses} {r : code.Option ℕ} {lits ends : List ℕ} → SectionRead text at (Some c) lits ends → (s : Saved) → StateRead s.opening text c.behind r → WellFormed s → drop at text ≡ behind_text s → r ≡ Some (length text)
  unfolding Rows
  state_of {c} {r} f s g w e =
      let clauses = (section_of f s w e).0 in
      let state = rows_text (state_forms s.opening s.codes) (s.codes ∷ s.rows) in
      let place : c.behind ≡ at + length (clauses_text s.clauses) = cc in
      let there : drop c.behind text ≡ state ++ [] = ap (λ (k : ℕ). drop k text) place ∙ behind_it text at (clauses_text s.clauses) state e ∙ sym (append-nil state) in
      let end : c.behind + length state ≡ length text = omega (arith, length-drop at text, ap length e, length-append (clauses_text s.clauses) state) in
      g.complete s.codes s.rows [] (w.codes, w.rows) there ∙ ap Some end

  module _ (o : Opening) where
    pub behind_none : {lits ends : List ℕ} → SectionRead text at None lits ends → BehindRead o text at None
    behind_none f = no_form o (λ s w q e. let r = (section_of f s w e).0 in let z : ◌≡◌ {A = ℕ} 0 1 = cc in omega arith)

    module _ {c : Clauses} {lits ends : List ℕ} (f : SectionRead text at (Some c) lits ends) where
      here : {r : code.Option ℕ} → StateRead o text c.behind r → (s : Saved) → WellFormed s → s.opening ≡ o → drop at text ≡ behind_text s → r ≡ Some (length text)
      here {r} g s w q e = state_of f s (subst (λ (o : Opening). StateRead o text c.behind r) (sym q) g) w e

      pub behind_bad : StateRead o text c.behind None → BehindRead o text at None
      behind_bad g = no_form o (λ s w q e. let r = here g s w q e in let z : ◌≡◌ {A = ℕ} 0 1 = cc in omega arith)

      module _ {end : ℕ} (g : StateRead o text c.behind (Some end)) where
        pub behind_more : (end ≡ length text → ⊥) → BehindRead o text at None
        behind_more n = no_form o (λ s w q e. let r = here g s w q e in n cc)

        pub behind_is : end ≡ length text → Whole o.vars → BehindRead o text at (Some (counts_with o at c))
        unfolding Rows
        behind_is e v = record {
          sound = λ k d. (let a = f.sound c refl in
              let b = g.sound end refl in
              let nothing : drop end text ≡ [] = rw e (drop-length text) in
              let state = rows_text (state_forms o b.0) (b.0 ∷ b.1) in
              let s : Saved = record { opening = o; clauses = a.clauses; codes = b.0; rows = b.1 } in
              let same : k ≡ counts_with o at c = cc in (
                s,
                record { vars = v; clauses = a.rows; codes = b.2.are.0; rows = b.2.are.1 },
                refl,
                same ∙ ap (counts_with o at) a.are,
                a.text_is ∙ ap (λ (l : List ℕ). clauses_text a.clauses ++ l) (b.2.text_is ∙ rw nothing (append-nil state)),
              ));
          complete = λ s w q d. (let r = (section_of f s w d).0 in
              let same : c ≡ clauses_of at s.clauses = cc in
              ap (λ (o : Opening). Some (counts_with o at c)) (sym q) ∙ ap (λ (c : Clauses). Some (counts_with s.opening at c)) same);
        }

pub behind_opened : (text : List ℕ) (at : ℕ) → at ≤ length text → (n : ℕ) (mode : code-mode.Mode) {c : Clauses} {lits ends : List ℕ} → SectionRead text at (Some c) lits ends → {end : ℕ} → StateRead (opens n (the_mode mode)) text c.behind (Some end) → end ≡ length text → Whole n
    → BehindRead (opens n (the_mode mode)) text at (Some (record { mode = mode; n = n; first = at; clauses = c }))
behind_opened text at h n the-modes.Heap f g e v = behind_is text at h (opens n vsids) f g e v
behind_opened text at h n the-modes.List f g e v = behind_is text at h (opens n vmtf) f g e v

-- ---- the first line, and the whole

-- what code has of it says what was read
abbrev pub opened_by : code.Option code-opening.Opening → Option Opening
opened_by None = none
opened_by (Some o) = some (opens o.vars (the_mode o.mode))

same_mode : (m : Mode) → the_mode (mode_of m) ≡ m
same_mode vsids = refl
same_mode vmtf = refl

pub first_told : (o : Option Opening) → o ≡ opened_by (first_of o)
first_told none = refl
first_told (some o) = ap (λ (m : Mode). some (opens o.vars m)) (sym (same_mode o.mode))

text_first : (s : Saved) → text_of s ≡ first_line s.opening ++ newline ∷ behind_text s
unfolding text_of row_lines ended
text_first s = ap (λ (l : List ℕ). first_line s.opening ++ newline ∷ l) (ended_append (map (row_line clause_form) s.clauses) (row_line trail_form s.codes ∷ row_lines (forms_of s) s.rows))

pub placed : (text : List ℕ) (s : Saved) → read_text text ≡ some s → Placed text s
unfolding ended
placed text s e =
    let is = (read_said text s).0 e in
    let l = first_line s.opening in
    let front = l ++ newline ∷ [] in
    let clauses = clauses_text s.clauses in
    let state = rows_text (state_forms s.opening s.codes) (s.codes ∷ s.rows) in
    let all : text ≡ front ++ behind_text s = is.1 ∙ text_first s ∙ sym (append_snoc l newline (behind_text s)) in
    let first : drop (length front) text ≡ clauses ++ state = ap (drop (length front)) all ∙ drop-append_seam front (behind_text s) in
    let within : length front ≤ length text = omega (arith, ap length all, length-append front (behind_text s)) in
    record { well = is.0; first = within; clauses = first; trail = place_within text (length front) clauses state first within; state = behind_it text (length front) clauses state first }

-- where a newline stands in no byte before
line_ends : (l more : List ℕ) → Without newline l → find newline (l ++ newline ∷ more) ≡ length l
unfolding occurs find
line_ends [] more h = refl
line_ends (b ∷ l) more h =
    true_or_false (eqb b newline)
    (λ t. absurd (let m : suc (occurs newline l) ≡ 0 = rw t at h in omega arith))
    (λ f. rw f (ap suc (line_ends l more (rw f at h))))

newline_found : (bs : List ℕ) → find newline bs < length bs → bs ≡ take (find newline bs) bs ++ newline ∷ drop (find newline bs + 1) bs
unfolding find
newline_found [] h = absurd (omega arith)
newline_found (b ∷ bs) h =
    true_or_false (eqb b newline)
    (λ t. rw (t, eqb-true b newline t))
    (λ f. (let m : suc (find newline bs) < suc (length bs) = rw f at h in
    let on : suc (find newline bs) + 1 ≡ suc (find newline bs + 1) = omega arith in
    rw (f, on) (ap (λ (l : List ℕ). b ∷ l) (newline_found bs (omega arith)))))

module _ (text : List ℕ) (end : ℕ) (is_end : end ≡ find newline text) where
  -- the text of s has its opening in front
  record Fronted (s : Saved) : Type 0 where
    found : end < length text
    line : first_in (take end text) ≡ some s.opening
    place : end + 1 ≡ length (ended (first_line s.opening ∷ []))

  front : (s : Saved) → read_text text ≡ some s → Fronted s
  unfolding ended
  front s e =
      let l = first_line s.opening in
      let is = (read_said text s).0 e in
      let parts : text ≡ l ++ newline ∷ behind_text s = is.1 ∙ text_first s in
      let ends : end ≡ length l = is_end ∙ ap (find newline) parts ∙ line_ends l (behind_text s) ((fields.first).clean s.opening is.0.vars) in
      let line : take end text ≡ l = ap (λ (k : ℕ). take k text) ends ∙ ap (take (length l)) parts ∙ take-append_seam l (newline ∷ behind_text s) in
      record {
        found = omega (arith, ends, ap length parts, length-append l (newline ∷ behind_text s));
        line = ap first_in line ∙ (fields.first).back s.opening is.0.vars;
        place = omega (arith, ends, length-append l (newline ∷ []));
      }

pub opening_bad : (text : List ℕ) (end : ℕ) → end ≡ find newline text → ((o : Opening) → end < length text → first_in (take end text) ≡ some o → ⊥) → read_text text ≡ none
opening_bad text end is_end n = go (read_text text) refl
  where
    go : (r : Option Saved) → read_text text ≡ r → r ≡ none
    go none e = refl
    go (some s) e = let f = front text end is_end s e in absurd (n s.opening f.found f.line)

-- behind a first line that was read, the text of s stands just where the whole says s
module _ {text : List ℕ} {at : ℕ} {o : Opening} (w : OpensWith text at o) where
  pub opens_within : at ≤ length text
  opens_within = omega (arith, w.place, w.found)

  pub opens_whole : Whole o.vars
  opens_whole = ((fields.first).said (take w.end text) o w.line).1

  pub opens_said : (s : Saved) → read_text text ≡ some s → WellFormed s × (s.opening ≡ o) × (drop at text ≡ behind_text s)
  opens_said s e =
      let f = front text w.end w.is_end s e in
      let p = placed text s e in
      (p.well, same_some (λ (p : Opening). p ≡ o) (sym w.line ∙ f.line) refl, ap (λ (k : ℕ). drop k text) (w.place ∙ f.place) ∙ p.clauses)

  opens_back : (s : Saved) → WellFormed s → s.opening ≡ o → drop at text ≡ behind_text s → read_text text ≡ some s
  opens_back s well same there =
      let end = w.end in
      let all : text ≡ take end text ++ newline ∷ drop (end + 1) text = rw w.is_end (newline_found text (rw w.is_end at w.found)) in
      let line : take end text ≡ first_line s.opening = ((fields.first).said (take end text) o w.line).0 ∙ ap first_line (sym same) in
      (read_said text s).1 (well, all ∙ rw line (ap (λ (l : List ℕ). first_line s.opening ++ newline ∷ l) (ap (λ (k : ℕ). drop k text) (sym w.place) ∙ there)) ∙ sym (text_first s))

  pub form_read : {r : code.Option Counts} → BehindRead o text at r → r ≡ formed_of (read_text text)
  form_read {r} b = go r (read_text text) refl refl
    where
      go : (q : code.Option Counts) (t : Option Saved) → r ≡ q → read_text text ≡ t → q ≡ formed_of t
      go q (some s) d e =
          let x = opens_said s e in
          let f = front text w.end w.is_end s e in
          sym d ∙ b.complete s x.0 x.1 x.2 ∙ ap (λ (k : ℕ). Some (counts_from k s)) (w.place ∙ f.place)
      go (Some c) none d e = let x = b.sound c d in never (sym e ∙ opens_back x.0 x.1 x.2 x.4)
      go None none d e = refl

  pub nothing_read : BehindRead o text at None → read_text text ≡ none
  nothing_read b = go (read_text text) refl
    where
      go : (t : Option Saved) → read_text text ≡ t → t ≡ none
      go none e = refl
      go (some s) e = let x = opens_said s e in let bad = b.complete s x.0 x.1 x.2 in absurd (let z : ◌≡◌ {A = ℕ} 0 1 = cc in omega arith)

  pub something_read : {c : Counts} → BehindRead o text at (Some c) → (s : Saved) × (read_text text ≡ some s)
  something_read {c} b = let x = b.sound c refl in (x.0, opens_back x.0 x.1 x.2 x.4)

  -- what was read stands in its slices
  module _ {c : Clauses} {lits ends : List ℕ} (f : SectionRead text at (Some c) lits ends)
      {t : TrailRows} {trail : List ℕ} {outs : List (List ℕ)} (three : length outs ≡ 3) (g : HeadRead trail_form trail_rest text c.behind (Some t.behind) t.count t.greatest trail outs)
      {form : Form} {gs : List Form} (is : choosers_of o ≡ form ∷ gs) {q count top : ℕ} {out : List ℕ} {more : List (List ℕ)} (h : HeadRead form (λ k. gs) text t.behind (Some q) count top out more) where
    pub told : (s : Saved) → read_text text ≡ some s → Told s c t count top lits ends trail (outs ++ (out ∷ more))
    unfolding Rows Fronts
    told s e =
        let x = opens_said s e in
        let clauses = section_of text at opens_within f s x.0 x.2 in
        let read = clauses.0 in
        let same : c ≡ clauses_of at s.clauses = cc in
        let state = rows_text (state_forms s.opening s.codes) (s.codes ∷ s.rows) in
        let there : drop c.behind text ≡ state ++ [] = ap (λ (k : ℕ). drop k text) (ap (λ (c : Clauses). c.behind) same) ∙ behind_it text at (clauses_text s.clauses) state x.2 ∙ sym (append-nil state) in
        let p = state_parts s.opening g s.codes s.rows [] (both_rows s x.0) there in
        let place = p.5 in
        let here : t.behind ≡ p.2 = cc in
        let form-is : choosers_of s.opening ≡ form ∷ gs = ap choosers_of x.1 ∙ is in
        let on : drop t.behind text ≡ rows_text (form ∷ gs) p.1 ++ [] = ap (λ (k : ℕ). drop k text) here ∙ p.10 ∙ ap (λ (fs : List Form). rows_text fs p.1 ++ []) form-is in
        chosen s (ap (λ (c : Clauses). c.count) same, ap (λ (c : Clauses). c.literals) same, ap (λ (c : Clauses). c.greatest) same, clauses.1) (p.6, p.7, p.8) p.0 p.1 p.3 p.12 p.9 (subst (λ (fs : List Form). Rows fs p.1) form-is p.4) on
      where
        chosen : (s : Saved) → (c.count ≡ length s.clauses) × (c.literals ≡ length (flatten s.clauses)) × (c.greatest ≡ greatest (flatten s.clauses)) × ClausesHeld s.clauses lits ends
            → (t.count ≡ length s.codes) × (t.greatest ≡ greatest s.codes) × Front trail s.codes
            → (front back : List (List ℕ)) → s.rows ≡ front ++ back → Rows (trail_rest (length s.codes)) front → Fronts outs front → Rows (form ∷ gs) back → drop t.behind text ≡ rows_text (form ∷ gs) back ++ []
            → Told s c t count top lits ends trail (outs ++ (out ∷ more))
        chosen s k codes front [] e r held b d = absurd b
        chosen s k codes front (vs ∷ rows) e r held b d =
            let done = h.complete vs rows [] b.0 b.1 (d ∙ head_on form gs vs rows []) in
            let long : length front ≡ 3 = rows_length_lem (trail_rest (length s.codes)) front r in
            let third : get_or s.rows 3 [] ≡ vs = ap (λ (l : List (List ℕ)). get_or l 3 []) e ∙ second_at front 3 long (vs ∷ rows) 3 [] (omega arith) in
            record {
              clauses = k.0;
              literals = k.1;
              highest = k.2;
              clauses_held = k.3;
              codes = codes.0;
              high_code = codes.1;
              codes_held = codes.2;
              members = done.1 ∙ ap length (sym third);
              high_member = done.2 ∙ ap greatest (sym third);
              rows = rw e (fronts_both (trail_rest (length s.codes)) outs (out ∷ more) front (vs ∷ rows) three r held (done.3, done.4));
            }
