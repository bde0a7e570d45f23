-- `list_saved::saving::put_list` meets its contract: each line goes behind the one before, two of them from scratch.
use Prim.Native.Nat.{ℕ}
use mathlib.Core.Path.{◌≡◌, sym, ap, ◌∙◌}
use mathlib.Core.List.{List, [], ◌∷◌, ◌++◌, map}
use native.Mathlib.Omega.{arith}
use lib.ListN.{get_or, length-map}
use Rattle.vmtf.specs.declared.VmtfState.{VmtfState}
use Rattle.saved_text.specs.Saved.{whole, long, reason}
use Rattle.saved_text.specs.Puts.{row_text}
use Rattle.saved_text.specs.Sinks.{SinkLaws}
use Rattle.list_saved.specs.Pieces.{order_from, stamps_from, list_text}
use Rattle.list_saved.proofs.saving.put_list.Goals as goal

-- the lines of variables, stamps, timestamp and search
abbrev order_line : List ℕ → VmtfState → List ℕ
order_line next l = row_text 118 whole (order_from next l)

abbrev stamps_line : List ℕ → List ℕ → VmtfState → List ℕ
stamps_line next ts l = row_text 115 long (stamps_from next ts l)

abbrev timestamp_line : VmtfState → List ℕ
timestamp_line l = row_text 107 long (l.timestamp ∷ [])

abbrev search_line : VmtfState → List ℕ
search_line l = row_text 102 reason (l.search ∷ [])

-- what the scratch holds
stamps_are : (next ts : List ℕ) (l : VmtfState) {order stamps : List ℕ} → order ≡ order_from next l → stamps ≡ map (λ (v : ℕ). get_or ts v 0) order → stamps ≡ stamps_from next ts l
stamps_are next ts l e f = f ∙ ap (map (λ (v : ℕ). get_or ts v 0)) e

module _ {S : Type 0} {puts : S → List ℕ → S → Type 0} {room : S → List ℕ → Type 0} (laws : SinkLaws puts room) (next ts : List ℕ) (l : VmtfState) {s : S} (r : room s (list_text next ts l)) where
  lines_room : room s (order_line next l ++ (stamps_line next ts l ++ (timestamp_line l ++ search_line l)))
  unfolding list_text
  lines_room = r

  -- the room that is left behind the first line, and behind the second
  behind_order : {t : S} → puts s (order_line next l) t → room t (stamps_line next ts l ++ (timestamp_line l ++ search_line l))
  behind_order p = laws.room_next (order_line next l) (stamps_line next ts l ++ (timestamp_line l ++ search_line l)) lines_room p

  behind_stamps : {t u : S} → puts s (order_line next l) t → puts t (stamps_line next ts l) u → room u (timestamp_line l ++ search_line l)
  behind_stamps p q = laws.room_next (stamps_line next ts l) (timestamp_line l ++ search_line l) (behind_order p) q

pub stamps_of-requires : goal.stamps_of-requires
stamps_of-requires g c =
    let l = c.requires.list_lines.0 in
    rw c.order_of.ensures (c.requires.list_lines.2 ∙ sym l.order_long, l.vars)

pub row-requires : goal.row-requires
row-requires g c =
    let a = c.args.l in
    let l = c.requires.list_lines.0 in
    let laws = g.met.S.Sink.laws in
    rw c.order_of.ensures (l.order_fits, omega (arith, l.order_long, l.small), laws.room_first (order_line a.next.now a.at) (stamps_line a.next.now a.ts.now a.at ++ (timestamp_line a.at ++ search_line a.at)) (lines_room laws a.next.now a.ts.now a.at c.requires.room))

pub row-requires-2 : goal.row-requires-2
row-requires-2 g c =
    let a = c.args.l in
    let l = c.requires.list_lines.0 in
    let laws = g.met.S.Sink.laws in
    let p = rw c.order_of.ensures at c.row.ensures in
    rw (stamps_are a.next.now a.ts.now a.at c.order_of.ensures c.stamps_of.ensures)
    (l.stamps_fit, omega (arith, length-map (order_from a.next.now a.at) (λ v. get_or a.ts.now v 0), l.order_long, l.small), laws.room_first (stamps_line a.next.now a.ts.now a.at) (timestamp_line a.at ++ search_line a.at) (behind_order laws a.next.now a.ts.now a.at c.requires.room p))

pub row-requires-3 : goal.row-requires-3
row-requires-3 g c =
    let a = c.args.l in
    let laws = g.met.S.Sink.laws in
    let p = rw c.order_of.ensures at c.row.ensures in
    let q = rw (stamps_are a.next.now a.ts.now a.at c.order_of.ensures c.stamps_of.ensures) at c.row-2.ensures in
    ((omega arith, tt), omega arith, laws.room_first (timestamp_line a.at) (search_line a.at) (behind_stamps laws a.next.now a.ts.now a.at c.requires.room p q))

pub row-requires-4 : goal.row-requires-4
row-requires-4 g c =
    let a = c.args.l in
    let laws = g.met.S.Sink.laws in
    let p = rw c.order_of.ensures at c.row.ensures in
    let q = rw (stamps_are a.next.now a.ts.now a.at c.order_of.ensures c.stamps_of.ensures) at c.row-2.ensures in
    ((omega arith, tt), omega arith, laws.room_next (timestamp_line a.at) (search_line a.at) (behind_stamps laws a.next.now a.ts.now a.at c.requires.room p q) c.row-3.ensures)

pub returns : goal.returns
unfolding list_text
returns g c =
    let a = c.args.l in
    let laws = g.met.S.Sink.laws in
    let p = rw c.order_of.ensures at c.row.ensures in
    let q = rw (stamps_are a.next.now a.ts.now a.at c.order_of.ensures c.stamps_of.ensures) at c.row-2.ensures in
    laws.puts_more p (laws.puts_more q (laws.puts_more c.row-3.ensures c.row-4.ensures))
