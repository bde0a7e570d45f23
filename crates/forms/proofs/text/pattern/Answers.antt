-- `forms::text::pattern` meets its contract: while no byte was bad, the digits left still decide, read behind the bits that the others gave.
use Rattle.std.proofs.Common.{◌≡◌, ℕ, ◌+◌, ◌*◌, ◌%◌, ◌<◌, ◌≤◌, max, List, length, get_or, drop, sym, ap, ◌∙◌, arith}
use mathlib.Core.Logic.{by_cases}
use mathlib.Core.Option.{none}
use native.Mathlib.Decide.{ℕ_discrete, dec_lt}
use Rattle.laws.specs.Options.{as_code}
use Rattle.forms.specs.Text.{pattern}
use Rattle.forms.specs.Reading.{hex_value, pattern_from, pattern_next, pattern_digit, pattern_bad, pattern_end, pattern_starts, pattern_other, hex_room, room_left}
use Rattle.forms.proofs.text.pattern.Goals as goal

pub returns-then-field-ne16 : goal.returns-then-field-ne16
returns-then-field-ne16 c = sym (ap as_code (pattern_other c.args.field.now c.if-field-ne16.true))

pub loop-b-init : goal.loop-b-init
loop-b-init c = (omega arith, (λ h. pattern_starts c.args.field.now c.if-field-ne16.false), (λ h. absurd (omega (arith, h))))

pub overflow_mul-v : goal.overflow_mul-v
overflow_mul-v c = let at = c.loop-b in omega (arith, room_left at.v at.b-index at.invariant.0 (omega arith))

pub overflow_add-v : goal.overflow_add-v
overflow_add-v c = let at = c.loop-b in omega (arith, room_left at.v at.b-index at.invariant.0 (omega arith))

one_more : (l : List ℕ) (v worst i d w : ℕ) → w ≡ max worst d → i < 16 → length l ≡ 16 → d ≡ hex_value (get_or l i 0) → (worst < 16 → pattern l ≡ pattern_from v (drop i l)) → (16 ≤ worst → pattern l ≡ none)
    → (w < 16 → pattern l ≡ pattern_from (v * 16 + d % 16) (drop (i + 1) l)) × (16 ≤ w → pattern l ≡ none)
one_more l v worst i d w m h n is good bad =
    let in_range : i < length l = omega (arith, h, n) in (
      (λ s. let same : d % 16 ≡ d = omega (arith, m, s) in rw same (good (omega (arith, m, s)) ∙ pattern_next v l i d in_range is (λ e. omega (arith, m, s, e)))),
      (λ s. by_cases (dec_lt worst 16)
          (λ a. by_cases (ℕ_discrete d 16) (λ e. good a ∙ pattern_bad v l i d in_range is e) (λ ne. absurd (omega (arith, m, s, a, pattern_digit v l i d in_range is ne))))
          (λ na. bad (omega (arith, na)))),
    )

pub loop-b-preserved : goal.loop-b-preserved
loop-b-preserved c =
    let at = c.loop-b in
    let d = c.hex_digit-d.result in
    let more = one_more c.args.field.now at.v at.worst at.b-index d c.max-worst.result c.max-worst.ensures (omega arith) c.if-field-ne16.false c.hex_digit-d.ensures at.invariant.1 at.invariant.2 in
    (hex_room at.v at.b-index (d % 16) at.invariant.0 (omega arith), more.0, more.1)

pub returns : goal.returns
returns c =
    let at = c.loop-b in
    sym (ap as_code (at.invariant.1 c.if-worst-ge16.false ∙ pattern_end at.v c.args.field.now at.b-index (omega arith)))
