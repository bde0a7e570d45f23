-- `saved_text::writing::put_first` meets its contract: letter, N and word are written one behind the other.
use Prim.Native.Nat.{◌+◌, ◌≤◌}
use mathlib.Core.Path.{◌≡◌, refl, ap}
use mathlib.Core.List.{[], ◌∷◌, ◌++◌}
use native.Mathlib.Omega.{arith}
use lib.ListN.{length, set, length-set, length-append}
use Rattle.forms.specs.Letters.{first_letter}
use Rattle.forms.specs.Text.{tab, newline, digits, digits_by, written}
use Rattle.forms.specs.Written.{Wrote, put_more, put_one, same_room}
use Rattle.saved_text.specs.Writing.{whole_text}
use Rattle.saved_text.specs.Written.{first_parts, first_length}
use Rattle.saved_text.proofs.writing.put_first.Goals as goal
use Rattle.saved_text.proofs.writing.put_first.Goals.{After-put_bytes-end, After-put_number-end, Start}

-- N has the digits of 32 bits
same_digits : (c : Start) → digits_by 20 c.args.n ≡ digits c.args.n
same_digits c = whole_text c.args.n (omega arith)

-- there is room for the bytes, which are so many
room : (c : Start) → let a = c.args in a.at + (4 + length (digits_by 20 a.n) + length a.word.now) ≤ length a.out.now
room c =
    let a = c.args in
    omega (arith, c.requires, first_length a.n a.word.now, ap length (whole_text a.n (omega arith)))

-- what was written once N is
numbered : (c : After-put_number-end) → let a = c.args in Wrote a.at ((first_letter ∷ tab ∷ []) ++ digits_by 20 a.n) a.out.now c.put_number-end.new.out c.put_number-end.result
unfolding written
numbered c = put_more {a = first_letter ∷ tab ∷ []} (record { buffer = refl; place = refl }) c.put_number-end.ensures

-- and once the word is
worded : (c : After-put_bytes-end) → let a = c.args in
    Wrote a.at ((((first_letter ∷ tab ∷ []) ++ digits_by 20 a.n) ++ (tab ∷ [])) ++ a.word.now) a.out.now c.put_bytes-end.new.out c.put_bytes-end.result
unfolding written
worded c =
    let front = put_more {a = first_letter ∷ tab ∷ []} (record { buffer = refl; place = refl }) c.put_number-end.ensures in
    put_more (put_one tab front) c.put_bytes-end.ensures

ended : (c : After-put_bytes-end) → let a = c.args in c.put_bytes-end.result + 1 ≤ length a.out.now
ended c =
    let a = c.args in
    let same : digits_by 20 a.n ≡ digits a.n = whole_text a.n (omega arith) in
    let room : a.at + (4 + length (digits_by 20 a.n) + length a.word.now) ≤ length a.out.now =
    omega (arith, c.requires, first_length a.n a.word.now, ap length same) in
    let front = (first_letter ∷ tab ∷ []) ++ digits_by 20 a.n in
    omega (arith, (worded c).place, room, length-append (first_letter ∷ tab ∷ []) (digits_by 20 a.n), length-append front (tab ∷ []), length-append (front ++ (tab ∷ [])) a.word.now)

pub put_number-end-requires : goal.put_number-end-requires
put_number-end-requires c = let a = c.args in omega (arith, room (goal.at.put_number-end-requires c).Start, length-set a.out.now a.at first_letter, length-set (set a.out.now a.at first_letter) (a.at + 1) tab)

pub bounds-out-end : goal.bounds-out-end
bounds-out-end c =
    let a = c.args in
    omega (arith, (numbered (goal.at.bounds-out-end c).After-put_number-end).place, same_room (numbered (goal.at.bounds-out-end c).After-put_number-end), room (goal.at.bounds-out-end c).Start, length-append (first_letter ∷ tab ∷ []) (digits_by 20 a.n))

pub overflow_add-end : goal.overflow_add-end
overflow_add-end c =
    omega (arith, (numbered (goal.at.overflow_add-end c).After-put_number-end).place, room (goal.at.overflow_add-end c).Start, length-append (first_letter ∷ tab ∷ []) (digits_by 20 c.args.n), c.well_formed)

pub put_bytes-end-requires : goal.put_bytes-end-requires
put_bytes-end-requires c =
    let a = c.args in
    omega (arith, (numbered (goal.at.put_bytes-end-requires c).After-put_number-end).place, same_room (numbered (goal.at.put_bytes-end-requires c).After-put_number-end), room (goal.at.put_bytes-end-requires c).Start, length-append (first_letter ∷ tab ∷ []) (digits_by 20 a.n), length-set c.put_number-end.new.out c.put_number-end.result tab)

pub bounds-out-end-2 : goal.bounds-out-end-2
bounds-out-end-2 c = omega (arith, ended (goal.at.bounds-out-end-2 c).After-put_bytes-end, same_room (worded (goal.at.bounds-out-end-2 c).After-put_bytes-end))

pub overflow_add-result : goal.overflow_add-result
overflow_add-result c = omega (arith, ended (goal.at.overflow_add-result c).After-put_bytes-end, c.well_formed)

pub returns : goal.returns
returns c =
    let a = c.args in
    rw (same_digits (goal.at.returns c).Start, ← first_parts a.n a.word.now) at (put_one newline (worded (goal.at.returns c).After-put_bytes-end))
