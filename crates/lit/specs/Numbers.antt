-- The numbers of document 01, each named once. `src/lib.rt` has the same numbers for code.
use Rattle.std.specs.Prelude.{ℕ}

-- `usize::MAX` of the source (`INVALID`, `UNSET_REASON`, `UNIT`), in 32 bits
abbrev pub NONE : ℕ
NONE = 4294967295

-- a value: unassigned
abbrev pub unassigned : ℕ
unassigned = 2

-- a switch: on, off
abbrev pub switched_on : ℕ
switched_on = 1

abbrev pub switched_off : ℕ
switched_off = 0

-- limits: variables, clauses, literals, variables in a group
abbrev pub max_vars : ℕ
max_vars = 2048

abbrev pub max_clauses : ℕ
max_clauses = 2048

abbrev pub max_literals : ℕ
max_literals = 8192

abbrev pub max_group : ℕ
max_group = 2048

-- limits of a call sheet: its bytes, and the bytes of the answer buffer for each newline
abbrev pub max_sheet : ℕ
max_sheet = 32768

abbrev pub answer_room : ℕ
answer_room = 24

-- the refusals, in checking order
abbrev pub long_sheet : ℕ
long_sheet = 1

abbrev pub short_buffer : ℕ
short_buffer = 2

abbrev pub bad_line : ℕ
bad_line = 3

abbrev pub many_vars : ℕ
many_vars = 4

abbrev pub bad_length : ℕ
bad_length = 5

abbrev pub bad_clauses : ℕ
bad_clauses = 6

abbrev pub bad_state : ℕ
bad_state = 7

abbrev pub no_variable : ℕ
no_variable = 8

abbrev pub bad_polarity : ℕ
bad_polarity = 9

abbrev pub bad_reason : ℕ
bad_reason = 10

abbrev pub assigned : ℕ
assigned = 11

abbrev pub bad_decay : ℕ
bad_decay = 12

abbrev pub large_step : ℕ
large_step = 13

abbrev pub past_open : ℕ
past_open = 14

-- 'a saved line missing, out of place or not of its form, checked after 3'
abbrev pub bad_saved : ℕ
bad_saved = 15
