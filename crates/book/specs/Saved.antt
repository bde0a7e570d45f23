-- A session that was saved and read back. proofs/Saved.antt proves what is said of it: `read_level`, `read_rest`, `records_read`.
use Rattle.std.specs.Prelude.{ℕ, ◌<◌, ◌≡◌, cond, length, get_or}
use Rattle.lit.specs.Numbers.{NONE}
use Rattle.lit.specs.Lits.{is_assigned}
use Rattle.trail.specs.Trail.{Trail, with_vars}
use Rattle.book.specs.Chooser.{Operations}
use Rattle.book.specs.Session.{Session}
use Rattle.book.specs.Claim.{assigned_levels, records_of, Run}

-- 'Levels of unassigned variables are not written and read back as NONE.' All else is as it was
unfoldable pub forgot : Trail → Trail
forgot t = with_vars t.values (assigned_levels t.values t.levels) t.reasons t

abbrev pub forgotten : {n m : ℕ} {O : Operations} → Session n m O → Session n m O
forgotten s = record { trail = forgot s.trail; chooser = s.chooser }

-- a run goes on with the session that was read back: 'the back-going rule counts from the history before the save'
abbrev pub read_back : {n m : ℕ} {O : Operations} → Run n m O → Run n m O
read_back r = record { now = forgotten r.now; past = r.past }

-- by the letter: the level of an unassigned variable is NONE, that of an assigned one as it was
abbrev pub ReadLevel : Type 0
ReadLevel = (t : Trail) (v : ℕ) → length t.values ≡ length t.levels → v < length t.values
    → get_or (forgot t).levels v 0 ≡ cond (is_assigned t.values v) (get_or t.levels v 0) NONE

-- with the levels as they were it is the trail that was written
abbrev pub ReadRest : Type 0
ReadRest = (t : Trail) → with_vars (forgot t).values t.levels (forgot t).reasons (forgot t) ≡ t

-- the records of the claim are as they were
abbrev pub RecordsRead : Type 0
RecordsRead = (t : Trail) → records_of (forgot t) ≡ records_of t
