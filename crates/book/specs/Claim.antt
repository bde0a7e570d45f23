-- Term 3: 'one claim on the whole list, not one per call'. proofs/Term3.antt proves it: `term3`, `settled_accepted`.
use Rattle.std.specs.Prelude.{ℕ, ◌+◌, ◌<◌, ◌≡◌, ◌↔◌, Bool, true, cond, List, [], ◌∷◌, map, length, take, ltb}
use Rattle.std.proofs.Math.Option.{none}
use Rattle.lit.specs.Numbers.{NONE, unassigned}
use Rattle.trail.specs.Trail.{Trail, enq_assignment}
use Rattle.book.specs.Calls.{Call, decide, learn_unit, go_back, Line, accepted}
use Rattle.book.specs.Book.{Book, present_level, book, codes, openings, values_of, reasons_of, levels_of, counts}
use Rattle.book.specs.Chooser.{Settled, Operations}
use Rattle.book.specs.Session.{Result, status, leaves, log_line, Session, fresh, call}

-- a call of a run: its line in the log, and the trail before and after it
pub record Event : Type 0 where
  pub line : Line
  pub before : Trail
  pub after : Trail

-- what a run has behind it, newest first
abbrev pub Past : Type 0
Past = List Event

abbrev pub log : Past → List Line
log past = map (λ (ev : Event). ev.line) past

-- the levels of assigned variables; the others are unread, and NONE here
unfoldable pub assigned_levels : List ℕ → List ℕ → List ℕ
assigned_levels [] ls = []
assigned_levels (x ∷ xs) [] = []
assigned_levels (x ∷ xs) (l ∷ ls) = cond (ltb x unassigned) l NONE ∷ assigned_levels xs ls

-- 'values, reasons, trail, opened levels and the levels of assigned variables', with the two counts
pub record Records : Type 0 where
  pub values : List ℕ
  pub reasons : List ℕ
  pub trail : List ℕ
  pub len : ℕ
  pub opened : List ℕ
  pub level : ℕ
  pub levels : List ℕ

-- those of the memory t, and those in the book b
unfoldable pub records_of : Trail → Records
records_of t = record { values = t.values; reasons = t.reasons; trail = take t.len t.trail; len = t.len; opened = take t.level t.opened; level = t.level; levels = assigned_levels t.values t.levels }

unfoldable pub records_in : ℕ → Book → Records
records_in n b = record { values = values_of n b; reasons = reasons_of n b; trail = codes b; len = length b; opened = openings b; level = present_level b; levels = levels_of n b }

-- 'by the book as it then stood, no switched-on variable is unassigned'
abbrev pub SettledBy : ℕ → Bool → List Line → Type 0
SettledBy n switches ls = Settled n (values_of n (book ls)) (counts switches ls)

-- (b) 'Each accepted decide in it answers "none" exactly when' that is so
abbrev pub NoneRight : ℕ → Bool → Event → Past → Type 0
NoneRight n switches ev past =
    (p : ℕ) → ev.line.call ≡ decide p → accepted ev.line ≡ true → ev.line.reply ≡ none ↔ SettledBy n switches (log past)

-- a 'decision that raised the level from L to L+1'
pub record Raises (l : ℕ) (ev : Event) : Type 0 where
  pub polarity : ℕ
  pub decision : ev.line.call ≡ decide polarity
  pub from : ev.before.level ≡ l
  pub to : ev.after.level ≡ l + 1

-- the trail was t 'just before the latest decision that raised the level from L to L+1'
pub data JustBefore (l : ℕ) (t : Trail) : Past → Type 0 where
  here : {ev : Event} {past : Past} → Raises l ev → ev.before ≡ t → JustBefore l t (ev ∷ past)
  earlier : {ev : Event} {past : Past} → ¬ (Raises l ev) → JustBefore l t past → JustBefore l t (ev ∷ past)

-- the records of u are 'as they were' then
abbrev pub AsThen : ℕ → Trail → Past → Type 0
AsThen l u past = (t : Trail) × JustBefore l t past × (records_of u ≡ records_of t)

-- (c) 'each accepted going back to a level L below the present one .. leaves those records as they were'
abbrev pub BackRight : Event → Past → Type 0
BackRight ev past = (l : ℕ) → ev.line.call ≡ go_back l → accepted ev.line ≡ true → l < ev.before.level → AsThen l ev.after past

-- '(learn-unit's too, judged before it enqueues)'
abbrev pub UnitRight : Event → Past → Type 0
UnitRight ev past =
    (code : ℕ) → ev.line.call ≡ learn_unit code → accepted ev.line ≡ true → 0 < ev.before.level
    → (u : Trail) × AsThen 0 u past × (ev.after ≡ enq_assignment code NONE u)

-- of each event, and the past that it had
unfoldable pub EachEvent : (Event → Past → Type 0) → Past → Type 0
EachEvent P [] = Unit {0}
EachEvent P (ev ∷ past) = P ev past × EachEvent P past

module _ (n m : ℕ) (O : Operations) where
  pub record Run : Type 0 where
    pub now : Session n m O
    pub past : Past

  -- a run that starts with the session s
  abbrev pub starting_with : Session n m O → Run
  starting_with s = record { now = s; past = [] }

  -- 'from any fresh session'
  unfoldable pub begin : Run
  begin = starting_with (fresh n m O)

  -- the run with one more call, and what it came to: 'each call getting the state the last one left and nobody else writing it'
  abbrev pub extended : Run → Call → Result (Session n m O) → Run
  extended r c x = let next = leaves r.now x in record {
    now = next;
    past = record { line = log_line c x; before = r.now.trail; after = next.trail } ∷ r.past;
  }

  unfoldable pub step : Run → Call → Run
  step r c = extended r c (call n m O r.now c)

  unfoldable pub run : Run → List Call → Run
  run r [] = r
  run r (c ∷ cs) = run (step r c) cs

  -- (a), 'after the list, values, reasons, .. are those in 01's book'; (b) and (c) of each call in it
  pub record Claim (r : Run) : Type 0 where
    pub told : records_of r.now.trail ≡ records_in n (book (log r.past))
    pub none_right : EachEvent (NoneRight n O.switches) r.past
    pub back_right : EachEvent BackRight r.past
    pub unit_right : EachEvent UnitRight r.past

  -- 'For every list of a session's calls .., refused ones included'
  abbrev pub Term3 : Type 0
  Term3 = (calls : List Call) → Claim (run begin calls)

  -- and the other half of (b): once all is settled by the book, a decide with a good polarity is accepted, so it answers "none"
  abbrev pub SettledAccepted : Type 0
  SettledAccepted = (calls : List Call) (p : ℕ) → let r = run begin calls in
      SettledBy n O.switches (log r.past) → p < 2 → status (call n m O r.now (decide p)) ≡ 0
