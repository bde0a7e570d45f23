-- Term 2 in list mode, on the entry points' own definition: 'every variable stands once, time stamps falling from the front'.
use Rattle.std.specs.Prelude.{ℕ, ◌<◌, ◌≡◌, Bool, List, length}
use Rattle.vmtf.specs.Vmtf.{Vmtf, from}
use Rattle.vmtf.specs.Order.{count}
use Rattle.vmtf.specs.Good.{Falls, InOrder, order_is}
use Rattle.choosers.specs.List.{list_ops}
use Rattle.book.specs.Session.{status, leaves, Session}
use Rattle.session.specs.Asked.{Asked}
use Rattle.session.specs.Mode as mode
use Rattle.list_entry.specs.Entry.{list_mode, entered}
use Rattle.list_entry.specs.Entered.{entered_good, made_good}

-- the variables from the front on, by the next links
abbrev pub listed : Vmtf → List ℕ
listed l = from l.next (length l.next) l.start

pub record InRow (n : ℕ) (l : Vmtf) : Type 0 where
  pub once : (v : ℕ) → v < n → count v (listed l) ≡ 1
  pub falls : Falls l.ts l.timestamp (listed l)

in_row_lem : {n : ℕ} {l : Vmtf} → InOrder n l → InRow n l
in_row_lem (order, g) = let e = order_is g.linked in record { once = λ v h. rw e (g.linked.once v h); falls = rw e g.falls }

module _ (n m : ℕ) (lits : List ℕ) (literals : ℕ) (ends : List ℕ) (s : Session n m (list_ops n lits)) where
  -- after an accepted call
  pub entered_row : (a : Asked) → status (entered n m lits literals ends a s) ≡ 0 → InRow n (leaves s (entered n m lits literals ends a s)).chooser
  entered_row a e = in_row_lem (entered_good n m lits literals ends a s e).list

  -- and in a fresh session, made with scratch that is lent or without
  pub made_row : (scratch : Bool) → let x = mode.made n m (list_mode n m lits) lits literals ends scratch s in status x ≡ 0 → InRow n (leaves s x).chooser
  made_row scratch e = in_row_lem (made_good n m lits literals ends scratch s e).list
