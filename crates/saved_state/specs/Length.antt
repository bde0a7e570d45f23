-- How long the text of a good session is, in either mode. Assumes nothing.
use Rattle.std.specs.Prelude.{ℕ, ◌+◌, ◌*◌, ◌^◌, ◌<◌, ◌≤◌, ◌≡◌, refl, length, get_or, take}
use Rattle.std.proofs.Common.{ap, ◌∙◌, inl, inr, arith, length-append}
use Rattle.std.proofs.Math.Logic.{by_cases}
use mathlib.Core.List.{List, [], ◌∷◌, map, flatten}
use Rattle.std.specs.Float.{binary64}
use Rattle.std.specs.Float.Ieee.{to_bits}
use Rattle.std.proofs.Math.Decide.{ℕ_discrete}
use Rattle.std.proofs.lemmas.List.{length-map}
use Rattle.lit.specs.Numbers.{NONE, max_vars, max_clauses}
use Rattle.formula.specs.Clauses.{clauses}
use Rattle.formula.specs.Good.{GoodClauses}
use Rattle.formula.specs.Reading.{length_clauses, join_clauses}
use Rattle.trail.specs.Trail.{Trail}
use Rattle.trail.specs.Good.{GoodTrail, IsReason}
use Rattle.vsids.specs.Vsids.{Vsids}
use Rattle.vsids.specs.Good.{GoodHeap}
use Rattle.vmtf.specs.Vmtf.{Vmtf}
use Rattle.vmtf.specs.Good.{GoodList, order_length, order_is}
use Rattle.forms.specs.TextLaws.{digits_short}
use Rattle.forms.specs.Text.{digits_by}
use Rattle.forms.specs.Forms.{Mode, vsids, vmtf}
use Rattle.forms.specs.Spelling.{hex, reason_text}
use Rattle.saved_text.specs.Saved.{form, any_of, whole, long, switch, bits, reason, trail_form, chooser_forms, text_of}
use Rattle.saved_text.specs.Length.{bits_length, reason_length, row_room, first_room, total, clauses_room, rows_length, text_length}
use Rattle.saved_state.specs.Written.{codes_of, along, heap_rows, list_rows, saved_of}
use Rattle.saved_state.specs.Judged.{LongStamp}
use Rattle.saved_state.specs.Eachs.{each_of}
use Rattle.saved_state.specs.OfClauses.{each_clause}
use Rattle.saved_state.specs.OfTrail.{codes_length, level_in, each_code, each_along, along_length, each_reason}
use Rattle.saved_state.specs.OfHeap.{members_length, each_member}
use Rattle.saved_state.specs.OfList.{each_var, each_stamp}

-- a number of at most four digits
abbrev Short : ℕ → Type 0
Short v = v < 10 ^ 4

few_digits : (v : ℕ) → Short v → length (digits_by 20 v) ≤ 4
few_digits v h = digits_short 3 20 v h

short_reason : (m r : ℕ) → m ≤ max_clauses → IsReason m r → length (reason_text r) ≤ 4
short_reason m r few (inl h) = reason_length 3 r (λ d. omega arith)
short_reason m r few (inr e) = reason_length 3 r (λ d. absurd (d e))

total_flat : (cs : List (List ℕ)) → total cs ≡ length (flatten cs)
unfolding total flatten
total_flat [] = refl
total_flat (c ∷ cs) = omega (arith, total_flat cs, length-append c (flatten cs))

-- what a text takes but for the chooser's lines
pub text_room : {n : ℕ} {lits ends : List ℕ} {t : Trail} → n ≤ max_vars → GoodClauses n lits ends → GoodTrail n (length ends) t → (mode : Mode) (rows : List (List ℕ))
    → length (text_of (saved_of mode n lits ends t rows)) ≤ 26 + 15 * n + 2 * length ends + 5 * length lits + rows_length (chooser_forms mode n) rows
unfolding saved_of
text_room {n} {lits} {ends} {t} small c g mode rows =
    let codes = codes_of t in
    let s = saved_of mode n lits ends t rows in
    let k = length codes in
    let first = first_room 3 (record { vars = n; mode = mode }) (omega arith) in
    let cs = clauses_room 3 (clauses lits ends) (each_clause c Short (λ v h. omega arith)) in
    let literals : total (clauses lits ends) ≡ length lits = total_flat (clauses lits ends) ∙ ap length (join_clauses c.list) in
    let trail = row_room trail_form 4 Short few_digits codes (each_code g Short (λ v h. omega arith)) in
    let levels = row_room (form 108 whole k) 4 Short few_digits (along codes t.levels) (each_along g Short t.levels (λ i b. omega (arith, level_in g i b))) in
    let reasons = row_room (form 114 reason k) 4 (IsReason (length ends)) (λ r h. short_reason (length ends) r c.list.few_clauses h) (along codes t.reasons) (each_reason g) in
    let curr = row_room (form 113 whole 1) 4 Short few_digits (t.curr ∷ []) (omega (arith, g.curr_in, g.len_in), tt) in
    omega (arith, text_length s, first, cs, literals, length_clauses 0 lits ends, trail, levels, reasons, curr, along_length g t.levels, along_length g t.reasons, codes_length g, g.len_in)

-- and what these take
pub heap_room : {n : ℕ} {values : List ℕ} {h : Vsids} → GoodHeap n values h → rows_length (chooser_forms vsids n) (heap_rows h) ≤ 42 + 24 * n
heap_room {n} {values} {h} g =
    let any : ℕ → Type 0 = λ v. Unit in
    let sixteen : (v : ℕ) → any v → length (hex 16 v) ≤ 16 = λ v _. omega (arith, bits_length 16 v) in
    let patterns = map (to_bits binary64) h.activity in
    let step = to_bits binary64 h.step.inc ∷ to_bits binary64 h.step.decay ∷ [] in
    let members = row_room (any_of 104 whole) 4 Short few_digits (take h.len h.heap) (each_member g Short (λ v b. omega (arith, g.inverse.room.small))) in
    let activity = row_room (form 97 bits n) 16 any sixteen patterns (each_of any patterns 0 (λ i b. tt)) in
    let switches = row_room (form 111 switch n) 1 (λ v. v < 10) (λ v b. digits_short 0 20 v b) h.decision (each_of (λ v. v < 10) h.decision 0 (λ v b. omega (arith, g.on_or_off v (omega (arith, g.switches))))) in
    let pair = row_room (form 119 bits 2) 16 any sixteen step (tt, (tt, tt)) in
    omega (arith, members, activity, switches, pair, members_length g, g.inverse.room.fits, length-map h.activity (to_bits binary64), g.scores.long, g.switches)

pub list_room : {n : ℕ} {order : List ℕ} {l : Vmtf} → GoodList n order l → n ≤ max_vars → LongStamp l → rows_length (chooser_forms vmtf n) (list_rows l) ≤ 34 + 26 * n
list_room {n} {order} {l} g small wide =
    let k = g.linked in
    let stamp : ℕ → ℕ = λ v. get_or l.ts v 0 in
    let twenty : (v : ℕ) → v < 10 ^ 20 → length (digits_by 20 v) ≤ 20 = λ v b. digits_short 19 20 v b in
    let vars = row_room (form 118 whole n) 4 Short few_digits order (each_var g Short (λ v b. omega arith)) in
    let stamps = row_room (form 115 long n) 20 (λ v. v < 10 ^ 20) twenty (map stamp order) (each_stamp g (λ v. v < 10 ^ 20) (λ v b. omega arith)) in
    let timestamp = row_room (form 107 long 1) 20 (λ v. v < 10 ^ 20) twenty (l.timestamp ∷ []) (omega arith, tt) in
    let place : IsReason n l.search = by_cases (ℕ_discrete l.search NONE) (λ e. inr e) (λ d. inl (g.search_in d)) in
    let search = row_room (form 102 reason 1) 4 (IsReason n) (λ r h. short_reason n r small h) (l.search ∷ []) (place, tt) in
    rw (order_is k) (omega (arith, vars, stamps, timestamp, search, length-map order stamp, order_length k))
