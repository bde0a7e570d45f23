-- The doubles of document 01, each named once by its bit pattern, and shown to be its decimal rounded. `src/lib.rt` has them for code.
use Rattle.std.specs.Prelude.{◌≡◌, refl, false, ◌^◌, Float}
use Rattle.std.specs.Float.Ieee.{of_bits, round}
use Rattle.std.specs.Float.{binary64}

-- the activity of a fresh variable
abbrev pub zero_activity : Float
zero_activity = of_bits binary64 0

-- the fresh step, and the fresh decay
abbrev pub fresh_inc : Float
fresh_inc = of_bits binary64 0x3ff0_0000_0000_0000

abbrev pub fresh_decay : Float
fresh_decay = of_bits binary64 0x3fee_6666_6666_6666

-- the numerator of a decay's quotient
abbrev pub one : Float
one = of_bits binary64 0x3ff0_0000_0000_0000

-- above `limit` every activity and the step are multiplied by `shrink`
abbrev pub limit : Float
limit = of_bits binary64 0x54b2_49ad_2594_c37d

abbrev pub shrink : Float
shrink = of_bits binary64 0x2b2b_ff2e_e48e_0530

-- the largest activity and the largest step of a good state
abbrev pub max_activity : Float
max_activity = of_bits binary64 0x54e6_dc18_6ef9_f45c

abbrev pub max_inc : Float
max_inc = of_bits binary64 0x6974_e718_d7d7_625a

-- the range of a decay
abbrev pub min_decay : Float
min_decay = of_bits binary64 0x3fe0_0000_0000_0000

abbrev pub max_decay : Float
max_decay = of_bits binary64 0x3ff0_0000_0000_0000

pub zero_activity_is : zero_activity ≡ round binary64 false 0 1
unfolding of_bits round
zero_activity_is = refl

pub fresh_inc_is : fresh_inc ≡ round binary64 false 1 1
unfolding of_bits round
fresh_inc_is = refl

pub fresh_decay_is : fresh_decay ≡ round binary64 false 95 100
unfolding of_bits round
fresh_decay_is = refl

pub one_is : one ≡ round binary64 false 1 1
unfolding of_bits round
one_is = refl

pub limit_is : limit ≡ round binary64 false (10 ^ 100) 1
unfolding of_bits round
limit_is = refl

pub shrink_is : shrink ≡ round binary64 false 1 (10 ^ 100)
unfolding of_bits round
shrink_is = refl

pub max_activity_is : max_activity ≡ round binary64 false (10 ^ 101) 1
unfolding of_bits round
max_activity_is = refl

pub max_inc_is : max_inc ≡ round binary64 false (10 ^ 200) 1
unfolding of_bits round
max_inc_is = refl

pub min_decay_is : min_decay ≡ round binary64 false 1 2
unfolding of_bits round
min_decay_is = refl

pub max_decay_is : max_decay ≡ round binary64 false 1 1
unfolding of_bits round
max_decay_is = refl
