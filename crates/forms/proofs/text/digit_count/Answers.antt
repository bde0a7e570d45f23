-- `forms::text::digit_count` meets its contract: what is left has as many digits less as were counted.
use Rattle.std.proofs.Common.{◌≡◌, ℕ, ◌+◌, ◌/◌, ◌≤◌, length, ap, arith}
use Rattle.forms.specs.TextLaws.{decimals, decimals_one, decimals_length, decimals_count, digits_room}
use Rattle.forms.proofs.text.digit_count.Goals as goal

-- four digits at a time
four : (n : ℕ) → 10000 ≤ n → n ≤ 18446744073709551615 → length (decimals 18 n) ≡ 4 + length (decimals 18 (n / 10000))
four n h u =
    let a = n / 10 in
    let b = a / 10 in
    let c = b / 10 in
    let same : c / 10 ≡ n / 10000 = omega arith in
    rw (← same) (omega (arith, decimals_length 18 n (omega arith) (omega arith), decimals_length 18 a (omega arith) (omega arith), decimals_length 18 b (omega arith) (omega arith), decimals_length 18 c (omega arith) (omega arith)))

pub overflow_add-k : goal.overflow_add-k
overflow_add-k c = omega (arith, c.loop-left.invariant.1, digits_room 20 c.args.v)

pub loop-left-preserved : goal.loop-left-preserved
loop-left-preserved c = (omega (arith, c.loop-left.invariant.0), omega (arith, c.loop-left.invariant.1, four c.loop-left.left (omega arith) (omega arith)))

pub overflow_add-result : goal.overflow_add-result
overflow_add-result c = omega (arith, c.loop-left.invariant.1, digits_room 20 c.args.v)

pub returns-then-left-lt10 : goal.returns-then-left-lt10
returns-then-left-lt10 c = let l = c.loop-left in omega (arith, l.invariant.1, ap length (decimals_one 18 l.left (omega arith)))

pub overflow_add-result-then-left-lt100 : goal.overflow_add-result-then-left-lt100
overflow_add-result-then-left-lt100 c = omega (arith, c.loop-left.invariant.1, digits_room 20 c.args.v)

pub returns-then-left-lt100 : goal.returns-then-left-lt100
returns-then-left-lt100 c = let l = c.loop-left in omega (arith, l.invariant.1, decimals_count 18 0 l.left (omega arith) (omega arith) (omega arith))

pub overflow_add-result-then-left-lt1000 : goal.overflow_add-result-then-left-lt1000
overflow_add-result-then-left-lt1000 c = omega (arith, c.loop-left.invariant.1, digits_room 20 c.args.v)

pub returns-then-left-lt1000 : goal.returns-then-left-lt1000
returns-then-left-lt1000 c = let l = c.loop-left in omega (arith, l.invariant.1, decimals_count 18 1 l.left (omega arith) (omega arith) (omega arith))

pub overflow_add-result-2 : goal.overflow_add-result-2
overflow_add-result-2 c = omega (arith, c.loop-left.invariant.1, digits_room 20 c.args.v)

pub returns : goal.returns
returns c = let l = c.loop-left in omega (arith, l.invariant.1, decimals_count 18 2 l.left (omega arith) (omega arith) (omega arith))
