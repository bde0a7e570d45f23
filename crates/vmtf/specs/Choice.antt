-- What a decide finds in a good list: `next_right` and `nothing_exactly`. Assumes nothing.
use Prim.Native.Nat.{ℕ, ◌<◌}
use Rattle.std.specs.Prelude.{◌≡◌, ◌↔◌, true, false, List, length, get_or, eqb}
use Rattle.std.proofs.Math.Path.{refl}
use Rattle.std.proofs.Common.{sym, ap, subst, ◌∙◌, arith, ltb-true, leb-true, leb-false, lt-ltb, le-ltb}
use Rattle.std.proofs.Math.Bool.{false≢true}
use Rattle.std.proofs.lemmas.Bool.{eqb-false, lt-leb}
use Rattle.laws.specs.Tests.{cond_elim, not_true}
use Rattle.lit.specs.Numbers.{NONE, unassigned}
use Rattle.lit.specs.Lits.{is_assigned}
use Rattle.vmtf.specs.Vmtf.{Vmtf, past, is_open, from, first_open, any_open, Found, chose, nothing, stuck, get_next}
use Rattle.vmtf.specs.Laws.{found, any_open_lem, none_open}
use Rattle.vmtf.specs.Good.{GoodList, good_safe, good_ends}

-- what a reply says: the variable chosen is unassigned, and the list is as good as before with search behind it;
-- no variable is unassigned; or some variable is
abbrev pub NextIs : ℕ → List ℕ → List ℕ → Vmtf → Found → Type 0
NextIs n order values l (chose v m) = (v < n) × (is_assigned values v ≡ false) × (GoodList n order m × (m ≡ past v l))
NextIs n order values l (nothing m) = (m ≡ l) × ((v : ℕ) → v < n → is_assigned values v ≡ true)
NextIs n order values l stuck = ¬ ((v : ℕ) → v < n → is_assigned values v ≡ true)

-- open is unassigned
open_unassigned : (values : List ℕ) (v : ℕ) → is_open values v ≡ true → is_assigned values v ≡ false
unfolding is_open
open_unassigned values v e = le-ltb (get_or values v 0) unassigned (leb-true unassigned (get_or values v 0) e)

shut_assigned : (values : List ℕ) (v : ℕ) → is_open values v ≡ false → is_assigned values v ≡ true
unfolding is_open
shut_assigned values v e = lt-ltb (get_or values v 0) unassigned (leb-false unassigned (get_or values v 0) e)

assigned_shut : (values : List ℕ) (v : ℕ) → is_assigned values v ≡ true → is_open values v ≡ false
unfolding is_open
assigned_shut values v e = lt-leb unassigned (get_or values v 0) (ltb-true (get_or values v 0) unassigned e)

module _ {n : ℕ} {order : List ℕ} {l : Vmtf} (g : GoodList n order l) (values : List ℕ) (long : length values ≡ n) where
  -- search moves, and nothing else
  past_good : (v : ℕ) → v < n → GoodList n order (past v l)
  past_good v h =
      let k = g.linked in
      record {
        linked = record { small = k.small; next_long = k.next_long; prev_long = k.prev_long; vars = k.vars; once = k.once; front = k.front; row = k.row };
        ts_long = g.ts_long;
        falls = g.falls;
        search_in = (good_safe g).links.next_in v h;
      }

  pub next_right : NextIs n order values l (get_next values l)
  unfolding get_next
  next_right =
      let v : ℕ = first_open values (from l.next (length l.next) l.search) in
      cond_elim (NextIs n order values l) (eqb v NONE)
      (λ _. cond_elim (NextIs n order values l) (any_open values (length values))
      (λ e all. false≢true (sym (none_open values (length values) (λ w h. assigned_shut values w (all w (omega arith)))) ∙ e))
      (λ e. (refl, λ w h. shut_assigned values w (not_true (is_open values w) (λ o. false≢true (sym e ∙ any_open_lem values (length values) w (omega arith) o))))))
      (λ e.
      let r = found (good_ends g) values v refl (eqb-false v NONE e) in
      let h : v < n = omega (arith, r.0, g.linked.next_long) in
      (h, open_unassigned values v r.1, (past_good v h, refl)))

  -- none exactly when no variable is unassigned
  pub nothing_exactly : (get_next values l ≡ nothing l) ↔ ((v : ℕ) → v < n → is_assigned values v ≡ true)
  nothing_exactly = (λ e. (subst (NextIs n order values l) e next_right).1, only (get_next values l) next_right)
    where
      only : (r : Found) → NextIs n order values l r → ((v : ℕ) → v < n → is_assigned values v ≡ true) → r ≡ nothing l
      only (chose v m) h all = absurd (false≢true (sym h.1 ∙ all v h.0))
      only (nothing m) h all = ap nothing h.0
      only stuck h all = absurd (h all)
