-- The step record (`var_inc` and `var_decay` of `VSIDS`), its operations, each rounded once, and the tests of refusals 12 and 13.
use Rattle.std.specs.Prelude.{Bool, false, ◌&&◌, not, List, map, Float}
use Rattle.std.specs.Float.{nan, inf, fin, binary64}
use Rattle.std.specs.Float.Ieee.{mul, div, lt, le}
use Rattle.activity.specs.Doubles.{fresh_inc, fresh_decay, one, shrink, max_inc, min_decay, max_decay}
use Rattle.activity.specs.declared.Step.{Step}

-- `VSIDS::default`
abbrev pub fresh_step : Step
fresh_step = record { inc = fresh_inc; decay = fresh_decay }

-- `decay_var_inc`: the quotient is rounded before the product
abbrev pub decayed_inc : Step → Float
decayed_inc s = mul binary64 s.inc (div binary64 one s.decay)

abbrev pub decayed : Step → Step
decayed s = record { inc = decayed_inc s; decay = s.decay }

-- `set_var_decay`
abbrev pub with_decay : Step → Float → Step
with_decay s d = record { inc = s.inc; decay = d }

-- the scaling of `bump_variable`, of one double, of the step and of all activities
abbrev pub scale : Float → Float
scale x = mul binary64 x shrink

abbrev pub scaled : Step → Step
scaled s = record { inc = scale s.inc; decay = s.decay }

abbrev pub scale_all : List Float → List Float
scale_all activity = map scale activity

-- a decay from 0.5 to 1. Refusal 12: it is not, which a NaN is not either
abbrev pub good_decay : Float → Bool
good_decay d = le min_decay d && le d max_decay

abbrev pub bad_decay : Float → Bool
bad_decay d = not (good_decay d)

-- refusal 13: the decayed step would be above 1e200
abbrev pub large_step : Step → Bool
large_step s = lt max_inc (decayed_inc s)

-- without sign bit and no NaN: +0, the positive numbers and the positive infinity
unfoldable pub upright : Float → Bool
upright nan = false
upright (inf s) = not s
upright (fin s m e) = not s

-- upright and at most hi
unfoldable pub within : Float → Float → Bool
within hi x = le x hi && upright x

-- a good step: upright and at most 1e200, with a good decay
abbrev pub good_step : Step → Bool
good_step s = within max_inc s.inc && good_decay s.decay
