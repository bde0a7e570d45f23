-- The lines of a well-formed text, one by one. Assumes nothing.
use Rattle.std.specs.Prelude.{ℕ, zero, suc, ◌<◌, ◌≡◌, refl, get_or}
use Rattle.std.proofs.Common.{sym, subst, ◌∙◌, arith, ext_get_or}
use Rattle.std.proofs.Math.Path.{ap}
use mathlib.Core.List.{List, [], ◌∷◌, map}
use Rattle.std.proofs.Math.ListN.{length}
use Rattle.std.proofs.lemmas.List.{length-map}
use Rattle.laws.specs.InPlace.{up_to, length_up_to, get_or_up_to}
use Rattle.forms.specs.Forms.{Mode, vsids, vmtf}
use Rattle.saved_text.specs.Saved.{Form, Row, Rows, trail_form, forms, Saved, WellFormed}
use Rattle.saved_state.specs.Said.{row}
use Rattle.saved_state.specs.Eachs.{get_or_mapped}

rows_length_lem : (fs : List Form) (rows : List (List ℕ)) → Rows fs rows → length rows ≡ length fs
unfolding Rows
rows_length_lem [] [] r = refl
rows_length_lem [] (vs ∷ rows) r = absurd r
rows_length_lem (f ∷ fs) [] r = absurd r
rows_length_lem (f ∷ fs) (vs ∷ rows) r = ap suc (rows_length_lem fs rows r.1)

rows_at : (fs : List Form) (rows : List (List ℕ)) (i : ℕ) → Rows fs rows → i < length fs → Row (get_or fs i trail_form) (get_or rows i [])
unfolding Rows
rows_at [] rows i r h = absurd (omega arith)
rows_at (f ∷ fs) [] i r h = absurd r
rows_at (f ∷ fs) (vs ∷ rows) zero r h = r.0
rows_at (f ∷ fs) (vs ∷ rows) (suc i) r h = rows_at fs rows i r.1 (omega arith)

-- behind the trail's there are seven lines, in either mode
forms_length : (mode : Mode) (n k : ℕ) → length (forms mode n k) ≡ 7
forms_length vsids n k = refl
forms_length vmtf n k = refl

listed : {A : Type 0} (l : List A) (d : A) → l ≡ map (λ i. get_or l i d) (up_to (length l))
listed {A} l d =
    let f : ℕ → A = λ i. get_or l i d in
    ext_get_or d l (map f (up_to (length l))) (sym (length-map (up_to (length l)) f ∙ length_up_to (length l))) (λ i h.
    sym (get_or_mapped f (up_to (length l)) i 0 d (omega (arith, length_up_to (length l))) ∙ ap f (get_or_up_to (length l) i h)))

-- the numbers of a line that has so many
pub one_number : (l : List ℕ) → length l ≡ 1 → l ≡ get_or l 0 0 ∷ []
unfolding up_to
one_number l e = rw e at (listed l 0)

pub two_numbers : (l : List ℕ) → length l ≡ 2 → l ≡ get_or l 0 0 ∷ get_or l 1 0 ∷ []
unfolding up_to
two_numbers l e = rw e at (listed l 0)

module _ (s : Saved) (w : WellFormed s) where
  pub line : (mode : Mode) → s.opening.mode ≡ mode → (i : ℕ) → i < 7 → Row (get_or (forms mode s.opening.vars (length s.codes)) i trail_form) (row s i)
  line mode e i h =
      rows_at (forms mode s.opening.vars (length s.codes)) s.rows i
      (subst (λ (m : Mode). Rows (forms m s.opening.vars (length s.codes)) s.rows) e w.rows)
      (omega (arith, forms_length mode s.opening.vars (length s.codes)))

  pub rows_are : s.rows ≡ row s 0 ∷ row s 1 ∷ row s 2 ∷ row s 3 ∷ row s 4 ∷ row s 5 ∷ row s 6 ∷ []
  unfolding up_to
  rows_are =
      let seven : length s.rows ≡ 7 = rows_length_lem _ _ w.rows ∙ forms_length s.opening.mode s.opening.vars (length s.codes) in
      listed s.rows [] ∙ ap (λ (k : ℕ). map (λ i. row s i) (up_to k)) seven
