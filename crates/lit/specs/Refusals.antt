-- A refusal's number, and the status of a call: 0, or the number of its refusal.
use Rattle.std.specs.Prelude.{ℕ, ◌<◌, Result, Ok, Err}
use Rattle.std.proofs.Common.{arith}
use Rattle.lit.specs.Numbers.{long_sheet, short_buffer, bad_line, many_vars, bad_length, bad_clauses, bad_state, no_variable, bad_polarity, bad_reason, assigned, bad_decay, large_step, past_open, bad_saved}
use Rattle.lit.specs.declared.Refusal.{Refusal}
use Rattle.lit.specs.declared.Refusal.TheVariants.{LongSheet, ShortBuffer, BadLine, ManyVars, BadLength, BadClauses, BadState, NoVariable, BadPolarity, BadReason, Assigned, BadDecay, LargeStep, PastOpen, BadSaved}

abbrev pub refusal_number : Refusal → ℕ
refusal_number LongSheet = long_sheet
refusal_number ShortBuffer = short_buffer
refusal_number BadLine = bad_line
refusal_number ManyVars = many_vars
refusal_number BadLength = bad_length
refusal_number BadClauses = bad_clauses
refusal_number BadState = bad_state
refusal_number NoVariable = no_variable
refusal_number BadPolarity = bad_polarity
refusal_number BadReason = bad_reason
refusal_number Assigned = assigned
refusal_number BadDecay = bad_decay
refusal_number LargeStep = large_step
refusal_number PastOpen = past_open
refusal_number BadSaved = bad_saved

abbrev pub status_of : {A : Type 0} → Result A Refusal → ℕ
status_of (Ok a) = 0
status_of (Err e) = refusal_number e

-- no refusal's number is the status of a call that passes
pub refusal_above : (e : Refusal) → 0 < refusal_number e
refusal_above LongSheet = omega arith
refusal_above ShortBuffer = omega arith
refusal_above BadLine = omega arith
refusal_above ManyVars = omega arith
refusal_above BadLength = omega arith
refusal_above BadClauses = omega arith
refusal_above BadState = omega arith
refusal_above NoVariable = omega arith
refusal_above BadPolarity = omega arith
refusal_above BadReason = omega arith
refusal_above Assigned = omega arith
refusal_above BadDecay = omega arith
refusal_above LargeStep = omega arith
refusal_above PastOpen = omega arith
refusal_above BadSaved = omega arith
