-- Term 3 on the entry points' own definition, in either mode: runs as in `book`, of calls that are checked first, whatever each is lent with, and of saves between
-- them. What is accepted finds the memory good for what it is lent with, so that what every run keeps goes on over that.
use Rattle.std.specs.Prelude.{ℕ, ◌≡◌, Bool}
use Rattle.std.proofs.Math.Bool.{true}
use mathlib.Core.List.{List, [], ◌∷◌, ◌++◌, map}
use Rattle.book.specs.Calls.{Call}
use Rattle.trail.specs.Trail.{with_levels}
use Rattle.book.specs.Chooser.{Operations, Chooser}
use Rattle.book.specs.Session.{Result, done, refuse, mapped, Session}
use Rattle.book.specs.Claim.{Run, extended}
use Rattle.book.specs.Saved.{read_back}
use Rattle.session.specs.Asked.{Asked, asked, Lending}
use Rattle.session.specs.Mode.{Mode, entered, entered_list}
use Rattle.session.specs.Entered.{Sound, Founded}

-- the clause list that is lent is good, as its counts say
abbrev pub FoundedBy : Lending → Type 0
FoundedBy g = Founded g.n g.m g.lits g.ends

-- A turn at a session: a call; a list of calls, and whether answers and words fit; a save, behind which the session is read back. Each has what it is lent with.
-- Between them the solver propagates: its host sets `curr_i`
pub data Turn : Type 0 where
  single : Lending → Asked → Turn
  listed : Lending → Bool → List Call → Turn
  saved : Lending → Turn
  propagated : ℕ → Turn

-- the run with `curr_i` as the host has set it
abbrev pub with_curr : {n m : ℕ} {O : Operations} → ℕ → Run n m O → Run n m O
with_curr curr r =
    let t = r.now.trail in
    record { now = record { trail = with_levels t.opened t.level curr t; chooser = r.now.chooser }; past = r.past }

-- calls that are each lent with g
abbrev pub all_lent : Lending → List Asked → List Turn
all_lent g asks = map (single g) asks

-- M g is the mode over what g lends, and `into g h c` the memory c of its chooser as memory of the one over h.
module _ (M : Lending → Mode) (into : (g h : Lending) → (M g).ops.State → (M h).ops.State) where
  -- a session over what g lends, and its memory as a session over h
  abbrev pub SessionOver : Lending → Type 0
  SessionOver g = Session g.n g.m (M g).ops

  abbrev pub moved : (g h : Lending) → SessionOver g → SessionOver h
  moved g h s = record { trail = s.trail; chooser = into g h s.chooser }

  -- a call that is lent with h, on the memory of a session over g: its result over h, and over g
  abbrev pub entered_over : (g h : Lending) → Asked → SessionOver g → Result (SessionOver h)
  entered_over g h a s = entered h.n h.m (M h) h.lits h.literals h.ends a (moved g h s)

  abbrev pub entered_with : (g h : Lending) → Asked → SessionOver g → Result (SessionOver g)
  entered_with g h a s = mapped (moved h g) (entered_over g h a s)

  -- a list of calls that is lent with h, on the memory of a session over g
  abbrev pub list_with : (g h : Lending) → Bool → List Call → SessionOver g → Result (Run h.n h.m (M h).ops)
  list_with g h fit cs s = entered_list h.n h.m (M h) h.lits h.literals h.ends fit cs (moved g h s)

  -- a run over g, gone on by what such a list came to; a refused one puts nothing in the log
  abbrev pub gone_on : (g h : Lending) → Run g.n g.m (M g).ops → Result (Run h.n h.m (M h).ops) → Run g.n g.m (M g).ops
  gone_on g h r (done k u) = record { now = moved h g u.now; past = u.past ++ r.past }
  gone_on g h r (refuse k) = r

  -- a turn of a run. A save is checked as a list without calls is, and where it is accepted the run goes on with the session that was read back
  unfoldable pub turn : (g : Lending) → Run g.n g.m (M g).ops → Turn → Run g.n g.m (M g).ops
  turn g r (single h a) = extended g.n g.m (M g).ops r (asked a) (entered_with g h a r.now)
  turn g r (listed h fit cs) = gone_on g h r (list_with g h fit cs r.now)
  turn g r (saved h) = gone_on g h r (mapped read_back (list_with g h true [] r.now))
  turn g r (propagated curr) = with_curr curr r

  -- any number of them in a row
  unfoldable pub run_turns : (g : Lending) → Run g.n g.m (M g).ops → List Turn → Run g.n g.m (M g).ops
  run_turns g r [] = r
  run_turns g r (t ∷ turns) = run_turns g (turn g r t) turns

  -- What the modes owe: the memory is the same over each, and each is sound and has a chooser, which the memory suits over each N alike
  pub record Family : Type 1 where
    pub self : (g : Lending) (c : (M g).ops.State) → into g g c ≡ c
    pub through : (g h k : Lending) (c : (M g).ops.State) → into h k (into g h c) ≡ into g k c
    pub switches : (g h : Lending) → (M h).ops.switches ≡ (M g).ops.switches
    pub sound : (g : Lending) → Sound g.n g.m (M g) g.lits g.ends
    pub chooser : (g : Lending) → FoundedBy g → Chooser g.n g.m (M g).ops
    pub typed : (g h : Lending) (f : FoundedBy g) (values : List ℕ) (on : ℕ → Bool) (c : (M g).ops.State) → (chooser g f).ok values on c → (sound h).Typed (into g h c)
    pub carry : (g h : Lending) (f : FoundedBy g) (f' : FoundedBy h) → g.n ≡ h.n → (values : List ℕ) (on : ℕ → Bool) (c : (M g).ops.State) → (chooser g f).ok values on c → (chooser h f').ok values on (into g h c)
