-- `forms::text::put_number` meets its contract: a number of up to three digits is its digits one behind the other.
use Rattle.std.proofs.Common.{◌≡◌, ℕ, ◌+◌, ◌/◌, ◌%◌, ◌<◌, ◌≤◌, List, [], ◌∷◌, ◌++◌, length, ap, ◌∙◌, arith}
use Rattle.forms.specs.Letters.{digit_zero}
use Rattle.forms.specs.TextLaws.{decimals, decimals_one, decimals_step}
use Rattle.forms.specs.Written.{put_more, same_room}
use Rattle.forms.proofs.text.put_number.Goals as goal

one : (v : ℕ) → v < 10 → decimals 18 v ≡ (digit_zero + v) ∷ []
one v h = decimals_one 18 v h

two : (v : ℕ) → 10 ≤ v → v < 100 → decimals 18 v ≡ (digit_zero + v / 10) ∷ ((digit_zero + v % 10) ∷ [])
two v l h = decimals_step 18 v l (omega (arith, h)) ∙ ap (λ (d : List ℕ). d ++ ((digit_zero + v % 10) ∷ [])) (one (v / 10) (omega (arith, h)))

three : (v : ℕ) → 100 ≤ v → v < 1000 → decimals 18 v ≡ (digit_zero + v / 10 / 10) ∷ ((digit_zero + v / 10 % 10) ∷ ((digit_zero + v % 10) ∷ []))
three v l h = decimals_step 18 v (omega (arith, l)) (omega (arith, h)) ∙ ap (λ (d : List ℕ). d ++ ((digit_zero + v % 10) ∷ [])) (two (v / 10) (omega (arith, l)) (omega (arith, h)))

pub put_digit-requires : goal.put_digit-requires
put_digit-requires c = (c.if-v-lt10.true, omega (arith, c.requires, ap length (one c.args.v c.if-v-lt10.true)))

pub returns-then-v-lt10 : goal.returns-then-v-lt10
returns-then-v-lt10 c = rw (one c.args.v c.if-v-lt10.true) c.put_digit.ensures

pub put_digit-ones-requires : goal.put_digit-ones-requires
put_digit-ones-requires c = (omega (arith, c.if-v-lt100.true), omega (arith, c.requires, ap length (two c.args.v c.if-v-lt10.false c.if-v-lt100.true)))

pub put_digit-requires-then-v-lt100 : goal.put_digit-requires-then-v-lt100
put_digit-requires-then-v-lt100 c =
    let w = c.put_digit-ones.ensures in
    (omega arith, omega (arith, w.place, same_room w, c.requires, ap length (two c.args.v c.if-v-lt10.false c.if-v-lt100.true)))

pub returns-then-v-lt100 : goal.returns-then-v-lt100
returns-then-v-lt100 c = rw (two c.args.v c.if-v-lt10.false c.if-v-lt100.true) (put_more c.put_digit-ones.ensures c.put_digit-then-v-lt100.ensures)

pub put_digit-tens-requires : goal.put_digit-tens-requires
put_digit-tens-requires c = (omega (arith, c.if-v-lt1000.true), omega (arith, c.requires, ap length (three c.args.v c.if-v-lt100.false c.if-v-lt1000.true)))

pub put_digit-ones-requires-then-v-lt1000 : goal.put_digit-ones-requires-then-v-lt1000
put_digit-ones-requires-then-v-lt1000 c =
    let w = c.put_digit-tens.ensures in
    (omega arith, omega (arith, w.place, same_room w, c.requires, ap length (three c.args.v c.if-v-lt100.false c.if-v-lt1000.true)))

pub put_digit-requires-then-v-lt1000 : goal.put_digit-requires-then-v-lt1000
put_digit-requires-then-v-lt1000 c =
    let w = put_more c.put_digit-tens.ensures c.put_digit-ones-then-v-lt1000.ensures in
    (omega arith, omega (arith, w.place, same_room w, c.requires, ap length (three c.args.v c.if-v-lt100.false c.if-v-lt1000.true)))

pub returns-then-v-lt1000 : goal.returns-then-v-lt1000
returns-then-v-lt1000 c = rw (three c.args.v c.if-v-lt100.false c.if-v-lt1000.true) (put_more (put_more c.put_digit-tens.ensures c.put_digit-ones-then-v-lt1000.ensures) c.put_digit-then-v-lt1000.ensures)
