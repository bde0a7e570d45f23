-- Reading a line of a saved text byte by byte: the numbers so far, and that a line which stands there begins with them. Assumes nothing.
use Rattle.std.specs.Prelude.{ℕ, suc, ◌+◌, ◌-◌, ◌<◌, ◌≤◌, ◌^◌, ◌≡◌, true, false, leb, length, get_or, take, drop, set, max, Some, None}
use Rattle.std.specs.Prelude as code
use Rattle.std.proofs.Math.Path.{refl}
use Rattle.std.proofs.Common.{sym, ap, ◌∙◌, arith, add-one, ne_eqb, length-append, length-drop, length-set, take-append-drop, get_or-drop, take-suc-set, drop-drop, length-take-le}
use Rattle.std.proofs.Math.Logic.{by_cases}
use Rattle.std.proofs.lemmas.Bool.{false≢true, lt-leb}
use Rattle.std.proofs.Math.Option.{Option}
use mathlib.Core.List.{List, [], ◌∷◌, ◌++◌, map, append-nil, append_assoc}
use Rattle.std.proofs.Math.Decide.{ℕ_discrete}
use Rattle.std.proofs.Math.Seq.{take-append_seam, drop-append_seam, append_snoc}
use Rattle.laws.specs.Each.{Each}
use Rattle.laws.specs.Tests.{and_left, and_right}
use Rattle.laws.specs.Parts.{drop_next}
use Rattle.lit.specs.Numbers.{NONE}
use Rattle.forms.specs.Letters.{dash, digit_zero}
use Rattle.forms.specs.Text.{tab, newline, all, is_digit, number_up_to, pattern, digits_by}
use Rattle.forms.specs.TextLaws.{digits_all, digits_some, whole_digits}
use Rattle.forms.specs.TextRead.{field_of}
use Rattle.forms.specs.Told.{field_is}
use Rattle.forms.specs.Reading.{digit_run, run, run_length}
use Rattle.forms.specs.Spelling.{Whole, behind, hex, reason_text}
use Rattle.forms.specs.declared.text.Field.{Field}
use Rattle.saved_text.specs.declared.cursor.Numbers as numbers
use Rattle.saved_text.specs.Saved.{Kind, up_to, bits, reason, Fits, field_text}
use Rattle.saved_text.specs.Reading.{field_in}
use Rattle.saved_text.specs.Fields.{Sound, a_field}
use Rattle.saved_text.specs.Greatest.{greatest, greatest_more}
use Rattle.saved_text.specs.Writing.{texts_more}
use Rattle.saved_text.specs.Length.{bits_length}
use Rattle.saved_text.specs.Cursor.{Ends, FieldRead, Small, numbers_of, RowIs, RowRead}
use Rattle.saved_text.specs.Puts.{row_text}

-- ---- bytes at a place of a text

module _ (text : List ℕ) (at b : ℕ) where
  pub next : at < length text → get_or text at 0 ≡ b → drop at text ≡ b ∷ drop (at + 1) text
  next h e = drop_next text at h ∙ rw e

  pub first : (l : List ℕ) → drop at text ≡ b ∷ l → (at < length text) × (get_or text at 0 ≡ b)
  first l e =
      let same : at + 0 ≡ at = omega arith in
      (omega (arith, length-drop at text, ap length e), rw same at (sym (get_or-drop at text 0 0) ∙ ap (λ (l : List ℕ). get_or l 0 0) e))

pub same_tail : {b c : ℕ} {l m : List ℕ} → b ∷ l ≡ c ∷ m → l ≡ m
same_tail e = cc

-- two bytes that differ do not stand at one place
differ : {C : Type 0} (b c : ℕ) {l m : List ℕ} → (b ≡ c → ⊥) → b ∷ l ≡ c ∷ m → C
differ b c n e = absurd (n cc)

module _ (text : List ℕ) (at : ℕ) (s rest : List ℕ) (e : drop at text ≡ s ++ rest) where
  pub behind_it : drop (at + length s) text ≡ rest
  behind_it = sym (drop-drop (length s) at text) ∙ ap (drop (length s)) e ∙ drop-append_seam s rest

  pub place_within : at ≤ length text → at + length s ≤ length text
  place_within h = omega (arith, length-drop at text, ap length e, length-append s rest)

-- ---- a field: of its kind where the bytes up to a place are, if any field that stands there ends at that place

none_text : (v : ℕ) → v ≡ NONE → reason_text v ≡ dash ∷ []
unfolding reason_text
none_text v e = rw e

some_text : (v : ℕ) → v ≤ NONE - 1 → reason_text v ≡ digits_by 20 v
unfolding reason_text
some_text v h = rw (ne_eqb v NONE (λ e. omega arith)) (sym (whole_digits v (omega arith)))

-- a reason is none, or a number below
by_reason : {C : Type 0} (v : ℕ) → Whole v → (v ≡ NONE → C) → (v ≤ NONE - 1 → C) → C
by_reason v h is below = by_cases (ℕ_discrete v NONE) is (λ n. below (omega arith))

field_some : (k : Kind) (v : ℕ) → Fits k v → 0 < length (field_text k v)
field_some (up_to top) v h = digits_some 19 v
field_some bits v h = omega (arith, bits_length 16 v)
field_some reason v h = by_reason v h (λ e. omega (arith, ap length (none_text v e))) (λ l. omega (arith, ap length (some_text v l), digits_some 19 v))

module _ (k : Kind) (known : Sound k) (text : List ℕ) (at n : ℕ) (h : n ≤ length (drop at text))
    (ends : (v : ℕ) (rest : List ℕ) → Fits k v → Ends rest → drop at text ≡ field_text k v ++ rest → length (field_text k v) ≡ n) where
  field_read : FieldRead k text at (field_of (at + n) (field_in k (take n (drop at text))))
  field_read = record {
    sound = λ r e.
        let v = r.value in
        let f = field_is (field_in k (take n (drop at text))) (at + n) e in
        let s = (a_field k known).said (take n (drop at text)) v f.0 in
        let long : length (field_text k v) ≡ n = sym (ap length s.0) ∙ length-take-le n (drop at text) h in
        let parts : drop at text ≡ take n (drop at text) ++ drop (at + n) text = rw (← drop-drop n at text) (sym (take-append-drop n (drop at text))) in
        (s.1, omega (arith, f.1, length-drop at text, field_some k v s.1), omega (arith, f.1, field_some k v s.1), rw (f.1, ← s.0) parts);
    complete = λ v rest fits end e.
        let long = ends v rest fits end e in
        let is : take n (drop at text) ≡ field_text k v = rw (e, ← long) (take-append_seam (field_text k v) rest) in
        rw (is, (a_field k known).back v fits, long);
  }

-- digits, and what cannot go on with them
run_of : (ds rest : List ℕ) → all is_digit ds ≡ true → Ends rest → digit_run (ds ++ rest) ≡ length ds
unfolding digit_run all
run_of [] [] h e = refl
run_of [] (b ∷ rest) h e = let low : leb digit_zero b ≡ false = lt-leb digit_zero b (omega arith) in rw low
run_of (d ∷ ds) rest h e = rw (and_left (is_digit d) (all is_digit ds) h) (ap suc (run_of ds rest (and_right (is_digit d) (all is_digit ds) h) e))

undashed : (ds rest : List ℕ) → all is_digit ds ≡ true → 0 < length ds → {l : List ℕ} → dash ∷ l ≡ ds ++ rest → ⊥
unfolding all
undashed [] rest h m e = absurd (omega arith)
undashed (d ∷ ds) rest h m e = let same : d ≡ dash = cc in false≢true (rw same at (and_left (is_digit d) (all is_digit ds) h))

module _ (text : List ℕ) (at : ℕ) where
  abbrev here : List ℕ
  here = drop at text

  pub digits_field : (top : ℕ) → top < 10 ^ 20 → FieldRead (up_to top) text at (field_of (at + digit_run here) (number_up_to top (run here)))
  digits_field top room = field_read (up_to top) room text at (digit_run here) (run_length here) (λ v rest fits ends e. sym (ap digit_run e ∙ run_of (digits_by 20 v) rest (digits_all 20 v) ends))

  -- sixteen digits, if there are so many bytes
  pub bits_field : 16 ≤ length text - at → (o : Option ℕ) → pattern (take (at + 16 - at) here) ≡ o → FieldRead bits text at (field_of (at + 16) o)
  bits_field h o e =
      let sixteen : at + 16 - at ≡ 16 = omega arith in
      rw (← e, sixteen) (field_read bits tt text at 16 (omega (arith, length-drop at text)) (λ v rest fits ends e. bits_length 16 v))

  pub bits_short : length text - at < 16 → FieldRead bits text at None
  bits_short h = record {
    sound = λ f e. absurd (let z : ◌≡◌ {A = ℕ} 0 1 = cc in omega arith);
    complete = λ v rest fits ends e. absurd (omega (arith, bits_length 16 v, ap length e, length-append (hex 16 v) rest, length-drop at text));
  }

  -- the dash, or digits
  pub dash_field : at < length text → get_or text at 0 ≡ dash → FieldRead reason text at (Some (record { value = NONE; end = at + 1 }))
  dash_field h d = record {
    sound = λ f e. (let same : f ≡ record { value = NONE; end = at + 1 } = cc in
        rw same (omega arith, omega arith, omega arith, rw (none_text NONE refl) (next text at dash h d)));
    complete = λ v rest fits ends e. by_reason v fits (λ z. rw (none_text v z, z)) (λ l. absurd (undashed (digits_by 20 v) rest (digits_all 20 v) (digits_some 19 v) (sym (next text at dash h d) ∙ e ∙ rw (some_text v l))));
  }

  pub reason_field : {r : code.Option Field} → (at < length text → get_or text at 0 ≡ dash → ⊥) → FieldRead (up_to (NONE - 1)) text at r → FieldRead reason text at r
  reason_field n f = record {
    sound = λ r e. (let s = f.sound r e in (omega (arith, s.0), s.1, s.2, rw (some_text r.value s.0) s.3));
    complete = λ v rest fits ends e. by_reason v fits (λ z. let d = first text at dash rest (e ∙ rw (none_text v z)) in absurd (n d.0 d.1)) (λ l. rw (some_text v l) (f.complete v rest l ends (rw (some_text v l) at e)));
  }

pub read_small : {k : Kind} {text : List ℕ} {at : ℕ} {r : code.Option Field} → ((v : ℕ) → Fits k v → Whole v) → FieldRead k text at r → FieldRead k text at r × Small r
read_small h f = (f, λ r e. h r.value (f.sound r e).0)

each_snoc : (P : ℕ → Type 0) (vs : List ℕ) (v : ℕ) → Each P vs → P v → Each P (vs ++ (v ∷ []))
each_snoc P [] v h p = (p, tt)
each_snoc P (w ∷ vs) v h p = (h.0, each_snoc P vs v h.1 p)

-- ---- a line: its letter, and then tab and field by turns

abbrev texts : Kind → List ℕ → List ℕ
texts k vs = behind tab (map (field_text k) vs)

-- The line was read up to place i: n numbers, whose greatest is top, stand in out as far as it has room; and a line that stands there goes on behind them.
pub record SoFar (letter : ℕ) (k : Kind) (text : List ℕ) (at : ℕ) (out : List ℕ) (n top i : ℕ) : Type 0 where
  pub done : List ℕ
  pub fits : Each (Fits k) done
  pub within : i ≤ length text
  pub few : n < i
  pub count : length done ≡ n
  pub highest : greatest done ≡ top
  pub held : n ≤ length out → take n out ≡ done
  pub place : i ≡ at + length (letter ∷ texts k done)
  pub text_is : drop at text ≡ (letter ∷ texts k done) ++ drop i text
  pub goes : (vs rest : List ℕ) → Each (Fits k) vs → drop at text ≡ row_text letter k vs ++ rest → (more : List ℕ) × (vs ≡ done ++ more) × Each (Fits k) more × (drop i text ≡ texts k more ++ newline ∷ rest)

on_ends : (k : Kind) (vs rest : List ℕ) → Ends (texts k vs ++ newline ∷ rest)
unfolding behind
on_ends k [] rest = omega arith
on_ends k (v ∷ vs) rest = omega arith

no_field : {k : Kind} {text : List ℕ} {at : ℕ} → FieldRead k text at None → (v : ℕ) (rest : List ℕ) → Fits k v → Ends rest → drop at text ≡ field_text k v ++ rest → ⊥
no_field f v rest h e d = let bad = f.complete v rest h e d in let z : ◌≡◌ {A = ℕ} 0 1 = cc in omega arith

module _ (letter : ℕ) (k : Kind) (text : List ℕ) (at : ℕ) (out : List ℕ) where
  no_row : ((vs rest : List ℕ) → Each (Fits k) vs → drop at text ≡ row_text letter k vs ++ rest → ⊥) → RowRead letter k text at None out
  no_row never = record { sound = λ n e. absurd (let z : ◌≡◌ {A = ℕ} 0 1 = cc in omega arith); complete = λ vs rest h e. absurd (never vs rest h e) }

  row_on : (vs rest : List ℕ) → row_text letter k vs ++ rest ≡ letter ∷ (texts k vs ++ newline ∷ rest)
  row_on vs rest = ap (λ (l : List ℕ). letter ∷ l) (append_snoc (texts k vs) newline rest)

  -- another letter
  pub row_other : (at < length text → get_or text at 0 ≡ letter → ⊥) → RowRead letter k text at None out
  row_other n = no_row (λ vs rest h e. let f = first text at letter _ (e ∙ row_on vs rest) in n f.0 f.1)

  pub so_far_none : at < length text → get_or text at 0 ≡ letter → SoFar letter k text at out 0 0 (at + 1)
  unfolding behind greatest
  so_far_none h e = record {
    done = [];
    fits = tt;
    within = omega arith;
    few = omega arith;
    count = refl;
    highest = refl;
    held = λ l. refl;
    place = refl;
    text_is = next text at letter h e;
    goes = λ vs rest fits d. (vs, refl, fits, same_tail (sym (next text at letter h e) ∙ d ∙ row_on vs rest));
  }

  module _ (n top i : ℕ) (s : SoFar letter k text at out n top i) where
    -- it goes on with a tab or a newline
    module _ (t : i < length text → get_or text i 0 ≡ tab → ⊥) (l : i < length text → get_or text i 0 ≡ newline → ⊥) where
      stuck : (more rest : List ℕ) → drop i text ≡ texts k more ++ newline ∷ rest → ⊥
      unfolding behind
      stuck [] rest e = let f = first text i newline _ e in l f.0 f.1
      stuck (v ∷ more) rest e = let f = first text i tab _ e in t f.0 f.1

      pub row_stuck : RowRead letter k text at None out
      row_stuck = no_row (λ vs rest h e. let g = s.goes vs rest h e in stuck g.0 rest g.3)

    -- with a newline it ends
    module _ (h : i < length text) (e : get_or text i 0 ≡ newline) where
      nothing_more : (more rest : List ℕ) → drop i text ≡ texts k more ++ newline ∷ rest → more ≡ []
      unfolding behind
      nothing_more [] rest d = refl
      nothing_more (v ∷ more) rest d = differ newline tab (λ z. omega arith) (sym (next text i newline h e) ∙ d)

      all_done : (vs rest : List ℕ) → Each (Fits k) vs → drop at text ≡ row_text letter k vs ++ rest → vs ≡ s.done
      all_done vs rest fits d = let g = s.goes vs rest fits d in g.1 ∙ rw (nothing_more g.0 rest g.3) (append-nil s.done)

      last : record { count = n; greatest = top; behind = i + 1 } ≡ numbers_of letter at k s.done
      last =
          let behind : i + 1 ≡ at + length (row_text letter k s.done) = omega (arith, s.place, length-append (texts k s.done) (newline ∷ [])) in
          rw (s.count, s.highest, behind)

      pub row_ends : RowRead letter k text at (Some (record { count = n; greatest = top; behind = i + 1 })) out
      row_ends = record {
        sound = λ m d. (let same : m ≡ record { count = n; greatest = top; behind = i + 1 } = cc in
            rw same (record {
              numbers = s.done;
              are = last;
              fits = s.fits;
              within = omega arith;
              text_is = s.text_is ∙ ap (λ (l : List ℕ). (letter ∷ texts k s.done) ++ l) (next text i newline h e) ∙ sym (row_on s.done (drop (i + 1) text));
              only = all_done;
              held = rw s.count s.held;
            }));
        complete = λ vs rest fits d. rw (all_done vs rest fits d) (ap Some last);
      }

    -- and with a tab a field comes
    module _ (h : i < length text) (t : get_or text i 0 ≡ tab) where
      record Next (more rest : List ℕ) : Type 0 where
        v : ℕ
        others : List ℕ
        is : more ≡ v ∷ others
        fits : Fits k v
        fit : Each (Fits k) others
        there : drop (i + 1) text ≡ field_text k v ++ (texts k others ++ newline ∷ rest)

      a_next : (more rest : List ℕ) → Each (Fits k) more → drop i text ≡ texts k more ++ newline ∷ rest → Next more rest
      unfolding behind
      a_next [] rest f e = differ tab newline (λ z. omega arith) (sym (next text i tab h t) ∙ e)
      a_next (v ∷ more) rest f e = record { v = v; others = more; is = refl; fits = f.0; fit = f.1; there = same_tail (sym (next text i tab h t) ∙ e) ∙ append_assoc (field_text k v) (texts k more) (newline ∷ rest) }

      pub row_unread : FieldRead k text (i + 1) None → RowRead letter k text at None out
      row_unread f = no_row (λ vs rest fits e.
          let g = s.goes vs rest fits e in
          let a = a_next g.0 rest g.2 g.3 in
          no_field f a.v (texts k a.others ++ newline ∷ rest) a.fits (on_ends k a.others rest) a.there)

      module _ (v end : ℕ) (f : FieldRead k text (i + 1) (Some (record { value = v; end = end }))) where
        pub so_far_next : SoFar letter k text at (set out n v) (n + 1) (max v top) end
        so_far_next =
            let was = f.sound _ refl in
            let all = s.done ++ (v ∷ []) in
            let text_is : drop at text ≡ (letter ∷ texts k all) ++ drop end text = s.text_is ∙ ap (λ (l : List ℕ). letter ∷ l) (rw (next text i tab h t, was.3, texts_more k s.done v) (sym (append_assoc (texts k s.done) (tab ∷ field_text k v) (drop end text)))) in
            record {
              done = all;
              fits = each_snoc (Fits k) s.done v s.fits was.0;
              within = was.1;
              few = omega (arith, s.few, was.2);
              count = simp length-append (omega (arith, s.count));
              highest = greatest_more s.done v ∙ rw s.highest;
              held = λ l. (let room : n < length out = omega (arith, length-set out n v) in rw (add-one, take-suc-set out n v room, s.held (omega arith)));
              place = omega (arith, s.place, ap length text_is, length-append (letter ∷ texts k all) (drop end text), length-drop at text, length-drop end text, was.1, s.within);
              text_is = text_is;
              goes = λ vs rest fits e.
                  let g = s.goes vs rest fits e in
                  let a = a_next g.0 rest g.2 g.3 in
                  let is = f.complete a.v (texts k a.others ++ newline ∷ rest) a.fits (on_ends k a.others rest) a.there in
                  let both : ◌≡◌ {A = Field} (record { value = v; end = end }) (record { value = a.v; end = i + 1 + length (field_text k a.v) }) = cc in
                  let same : a.v ≡ v = ap (λ (f : Field). f.value) (sym both) in
                  let behind : end ≡ i + 1 + length (field_text k a.v) = ap (λ (f : Field). f.end) both in
                  (a.others, g.1 ∙ ap (λ (l : List ℕ). s.done ++ l) (a.is ∙ ap (λ (w : ℕ). w ∷ a.others) same) ∙ sym (append_snoc s.done v a.others), a.fit, rw behind (behind_it text (i + 1) (field_text k a.v) (texts k a.others ++ newline ∷ rest) a.there));
            }

-- a line has more bytes than numbers
texts_long : (k : Kind) (vs : List ℕ) → length vs ≤ length (texts k vs)
unfolding behind
texts_long k [] = omega arith
texts_long k (v ∷ vs) = omega (arith, texts_long k vs, length-append (field_text k v) (texts k vs))

pub row_long : {letter : ℕ} {k : Kind} {text : List ℕ} {at : ℕ} {out : List ℕ} {n : numbers.Numbers} → RowIs letter k text at out n → at + n.count + 2 ≤ n.behind
row_long {letter} {k} {text} {at} {out} {n} i =
    let vs = i.numbers in
    let count : n.count ≡ length vs = ap (λ (m : numbers.Numbers). m.count) i.are in
    let place : n.behind ≡ at + length (row_text letter k vs) = ap (λ (m : numbers.Numbers). m.behind) i.are in
    omega (arith, texts_long k vs, length-append (texts k vs) (newline ∷ []))
