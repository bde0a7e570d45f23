-- A line of a session as code does it: the call that was read, answered, or refusal 3. Assumes nothing.
use Rattle.std.specs.Prelude.{ℕ, ◌≤◌, ◌≡◌, List, [], length, take}
use Rattle.std.proofs.Math.Path.{refl, ap}
use Rattle.std.proofs.Common.{sym, ◌∙◌}
use Rattle.lit.specs.Numbers.{NONE, max_group, bad_line}
use Rattle.book.specs.Calls.{group}
use Rattle.book.specs.Chooser.{Operations}
use Rattle.book.specs.Session.{Session, call}
use Rattle.session.specs.declared.Call as calls
use Rattle.session.specs.Calls.{call_of}
use Rattle.session.specs.Entry.{Answered}
use Rattle.std.specs.Prelude as code
use Rattle.std.specs.Prelude.{Some, None}
use Rattle.forms.specs.declared.Asked.{Asked}
use Rattle.forms.specs.declared.Asked.TheVariants as asked
use Rattle.forms.specs.Forms.{call_in}
use Rattle.forms.specs.Read.{asked_call, CallRead, group_on, group_read, GroupRead}
use Rattle.book.specs.Read.{called}

-- a line by what was read of it
module _ {line : List ℕ} {r : code.Option Asked} (h : CallRead line r) {n m : ℕ} {O : Operations} {s : Session n m O} where
  pub line_refused : r ≡ None → Answered (called n m O s (call_in line)) s bad_line NONE s
  unfolding called
  line_refused e = rw (sym h.is ∙ ap (asked_call (group_on line)) e) (record { status = refl; reply = refl; session = refl })

  module _ {status reply : ℕ} {u : Session n m O} where
    pub line_answered : {x : calls.Call} → r ≡ Some (asked.Is x) → Answered (call n m O s (call_of x [])) s status reply u → Answered (called n m O s (call_in line)) s status reply u
    unfolding called
    line_answered e a = rw (sym h.is ∙ ap (asked_call (group_on line)) e) a

    pub line_group : r ≡ Some asked.Group → Answered (called n m O s (group_on line)) s status reply u → Answered (called n m O s (call_in line)) s status reply u
    line_group e a = rw (sym h.is ∙ ap (asked_call (group_on line)) e) a

-- a group by what was read of it
module _ {line vars : List ℕ} {r : code.Option ℕ} (h : GroupRead line r vars) where
  pub group_within : {k : ℕ} → r ≡ Some k → k ≤ length vars
  group_within e = rw e at h.within

  pub group_few : {k : ℕ} → r ≡ Some k → k ≤ max_group
  group_few e = rw e at h.few

  module _ {n m : ℕ} {O : Operations} {s : Session n m O} where
    pub group_refused : r ≡ None → Answered (called n m O s (group_on line)) s bad_line NONE s
    unfolding called
    group_refused e = rw (sym h.is ∙ ap (λ (x : code.Option ℕ). group_read x vars) e) (record { status = refl; reply = refl; session = refl })

    pub group_answered : {k status reply : ℕ} {u : Session n m O} → r ≡ Some k → Answered (call n m O s (group (take k vars))) s status reply u → Answered (called n m O s (group_on line)) s status reply u
    unfolding called
    group_answered e a = rw (sym h.is ∙ ap (λ (x : code.Option ℕ). group_read x vars) e) a
