-- What holds of the entry points in either mode: on good memory a checked call is the call, from any other it is refused, and where it is
-- accepted it leaves a good session; and what an accepted creation makes.
use Rattle.std.specs.Prelude.{ℕ, ◌≡◌, Bool, true, List, length}
use Rattle.std.proofs.Math.Option.{none}
use Rattle.std.proofs.Common.{eq-eqb}
use Rattle.laws.specs.Tests.{true_or_false}
use Rattle.formula.specs.Clauses.{clauses_ok}
use Rattle.formula.specs.Good.{clauses_facts}
use Rattle.book.specs.Session.{done, status, leaves, Session, fresh, call}
use Rattle.session.specs.Calls.{is_group, group_exactly}
use Rattle.session.specs.Asked.{Asked, asked}
use Rattle.session.specs.Checks.{state_refusal}
use Rattle.session.proofs.Checks.{size_passed, state_passed, passed_none, size_accepted, accepted, size_zero, checked_zero}
use Rattle.session.specs.Mode.{scratch_ok, Mode, lengths_ok, entered, made}
use Rattle.session.specs.Sizes.{both, Sizes, sizes_right, right_sizes}
use Rattle.session.specs.Entered.{Founded, GoodMemory, RightScratch, Sound}

module _ (n m : ℕ) (M : Mode) (lits : List ℕ) (literals : ℕ) (ends : List ℕ) (scratch : Bool) (s : Session n m M.ops) (accepted : status (made n m M lits literals ends scratch s) ≡ 0) where
  pub made_sizes : Founded n m lits ends
  unfolding made
  made_sizes =
      let p = size_passed n _ _ (size_zero n _ _ (done none (fresh n m M.ops)) accepted) in
      let z = sizes_right n m M lits literals ends s scratch p.lengths_ok_lem in
      record { small = p.small; stated = z.0.ends_long; clauses = (clauses_facts n lits ends).0 p.clauses_ok_lem }

  -- the session that it makes is the fresh one
  pub made_fresh : leaves s (made n m M lits literals ends scratch s) ≡ fresh n m M.ops
  unfolding made
  made_fresh = rw (size_accepted n _ _ (done none (fresh n m M.ops)) (size_zero n _ _ (done none (fresh n m M.ops)) accepted))

module _ (n m : ℕ) (M : Mode) (lits : List ℕ) (literals : ℕ) (ends : List ℕ) (L : Sound n m M lits ends) where
  -- what is lent beside the session fits, or does not
  module _ (fit : Bool) (s : Session n m M.ops) where
    abbrev refusal : ℕ
    refusal = state_refusal n (lengths_ok n m M lits literals ends s fit) (clauses_ok n lits ends) (M.state s.trail s.chooser)

    -- memory without a refusal is good
    pub passed_good : L.Typed s.chooser → 0 ≡ refusal → GoodMemory L.Good lits literals ends s × (fit ≡ true)
    passed_good t e =
        let p = state_passed _ _ _ _ e in
        let z = sizes_right n m M lits literals ends s fit p.0.lengths_ok_lem in
        let g = (clauses_facts n lits ends).0 p.0.clauses_ok_lem in (
          record {
            founded = record { small = p.0.small; stated = z.0.ends_long; clauses = g };
            stated = z.0.lits_long;
            session = (L.right s p.0.small z.0.ends_long g z.0.trail z.0.chooser t).0 p.1;
          },
          z.1,
        )

    -- and good memory has none
    pub good_passed : GoodMemory L.Good lits literals ends s → fit ≡ true → 0 ≡ refusal
    good_passed g e =
        let f = g.founded in
        let z : Sizes n m M lits literals ends s = record { trail = (L.trail s g.session).lengths; chooser = L.chooser_sized s g.session; lits_long = g.stated; ends_long = f.stated } in
        passed_none
        (record {
          small = f.small;
          lengths_ok_lem = right_sizes n m M lits literals ends s fit z e;
          clauses_ok_lem = (clauses_facts n lits ends).1 f.clauses;
        })
        ((L.right s f.small f.stated f.clauses z.trail z.chooser (L.chooser_typed s g.session)).1 g.session)

  module _ (a : Asked) (s : Session n m M.ops) where
    abbrev scratch : Bool
    scratch = scratch_ok a.call (length a.vars) (length a.stamps) (length a.order)

    right_scratch : RightScratch a → scratch ≡ true
    right_scratch f = true_or_false (is_group a.call) (λ e. let l = f ((group_exactly a.call).0 e) in rw (e, eq-eqb _ _ l.0, eq-eqb _ _ l.1)) (λ e. rw e)

    -- a call without a refusal had good memory, and a group its scratch
    pub admitted : L.Typed s.chooser → 0 ≡ refusal scratch s → GoodMemory L.Good lits literals ends s × RightScratch a
    admitted t e = let p = passed_good scratch s t e in (p.0, λ q. both _ _ _ _ (rw q at p.1))

    -- on good memory the checked call is the call
    pub unchecked : GoodMemory L.Good lits literals ends s → RightScratch a → entered n m M lits literals ends a s ≡ call n m M.ops s (asked a)
    unfolding entered
    unchecked g f = accepted n _ _ _ _ (good_passed scratch s g (right_scratch f))

    -- what is not refused had good memory
    pub bad_refused : L.Typed s.chooser → status (entered n m M lits literals ends a s) ≡ 0 → GoodMemory L.Good lits literals ends s × RightScratch a
    unfolding entered
    bad_refused t e = admitted t (checked_zero n _ _ _ _ e)

    -- so an accepted call leaves a good session
    pub entered_good : L.Typed s.chooser → status (entered n m M lits literals ends a s) ≡ 0 → L.Good (leaves s (entered n m M lits literals ends a s))
    entered_good t e = let g = bad_refused t e in rw (unchecked g.0 g.1) (L.kept s g.0.session (asked a))

  -- and creation, where it is accepted, makes one
  pub made_good : (scratch : Bool) (s : Session n m M.ops) → status (made n m M lits literals ends scratch s) ≡ 0 → L.Good (leaves s (made n m M lits literals ends scratch s))
  made_good scratch s e =
      let p = made_sizes n m M lits literals ends scratch s e in
      rw (made_fresh n m M lits literals ends scratch s e) (L.fresh_good p.small p.stated p.clauses)
