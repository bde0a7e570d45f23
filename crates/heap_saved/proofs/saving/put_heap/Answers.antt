-- `heap_saved::saving::put_heap` meets its contract: each line goes behind the one before, two of them from scratch.
use Prim.Native.Nat.{ℕ}
use mathlib.Core.List.{List, [], ◌∷◌, ◌++◌, map}
use native.Mathlib.Omega.{arith}
use lib.Ieee.{binary64, to_bits}
use lib.ListN.{length-map, take}
use Rattle.std.specs.Prelude.{Float}
use Rattle.activity.specs.declared.Step.{Step}
use Rattle.saved_text.specs.Saved.{whole, bits, switch}
use Rattle.saved_text.specs.Puts.{row_text}
use Rattle.saved_text.specs.Sinks.{SinkLaws}
use Rattle.heap_saved.specs.Pieces.{heap_text}
use Rattle.heap_saved.proofs.saving.put_heap.Goals as goal

-- the lines of members, activities, switches and step
abbrev members_line : List ℕ → List ℕ
members_line members = row_text 104 whole members

abbrev activity_line : List Float → List ℕ
activity_line activity = row_text 97 bits (map (to_bits binary64) activity)

abbrev switch_line : List ℕ → List ℕ
switch_line decision = row_text 111 switch decision

abbrev step_line : Step → List ℕ
step_line step = row_text 119 bits (to_bits binary64 step.inc ∷ to_bits binary64 step.decay ∷ [])

module _ {S : Type 0} {puts : S → List ℕ → S → Type 0} {room : S → List ℕ → Type 0} (laws : SinkLaws puts room) (members : List ℕ) (activity : List Float) (decision : List ℕ) (step : Step) {s : S} (r : room s (heap_text members activity decision step)) where
  lines_room : room s (members_line members ++ (activity_line activity ++ (switch_line decision ++ step_line step)))
  unfolding heap_text
  lines_room = r

  -- the room that is left behind the first line, and behind the second
  behind_members : {t : S} → puts s (members_line members) t → room t (activity_line activity ++ (switch_line decision ++ step_line step))
  behind_members p = laws.room_next (members_line members) (activity_line activity ++ (switch_line decision ++ step_line step)) lines_room p

  behind_activities : {t u : S} → puts s (members_line members) t → puts t (activity_line activity) u → room u (switch_line decision ++ step_line step)
  behind_activities p q = laws.room_next (activity_line activity) (switch_line decision ++ step_line step) (behind_members p) q

pub row-requires : goal.row-requires
row-requires g c =
    let h = c.args.h in
    let l = c.requires.heap_lines.1 in
    let laws = g.met.S.Sink.laws in
    let members = take h.at.len h.heap.now in
    (l.members_fit, omega (arith, l.few, l.small), laws.room_first (members_line members) (activity_line h.activity.now ++ (switch_line h.decision.now ++ step_line h.at.step)) (lines_room laws members h.activity.now h.decision.now h.at.step c.requires.room))

pub row-requires-2 : goal.row-requires-2
row-requires-2 g c =
    let h = c.args.h in
    let l = c.requires.heap_lines.1 in
    let laws = g.met.S.Sink.laws in
    rw c.patterns.ensures (l.activity_fit, omega (arith, length-map h.activity.now (to_bits binary64), l.small), laws.room_first (activity_line h.activity.now) (switch_line h.decision.now ++ step_line h.at.step) (behind_members laws _ h.activity.now h.decision.now h.at.step c.requires.room c.row.ensures))

pub row-requires-3 : goal.row-requires-3
row-requires-3 g c =
    let h = c.args.h in
    let l = c.requires.heap_lines.1 in
    let laws = g.met.S.Sink.laws in
    let q = rw c.patterns.ensures at c.row-2.ensures in
    rw c.widened.ensures (l.switches_fit, omega (arith, l.decision_long, l.small), laws.room_first (switch_line h.decision.now) (step_line h.at.step) (behind_activities laws _ h.activity.now h.decision.now h.at.step c.requires.room c.row.ensures q))

pub row-requires-4 : goal.row-requires-4
row-requires-4 g c =
    let h = c.args.h in
    let laws = g.met.S.Sink.laws in
    let q = rw c.patterns.ensures at c.row-2.ensures in
    let p = rw c.widened.ensures at c.row-3.ensures in
    (c.requires.heap_lines.1.step_fits, omega arith, laws.room_next (switch_line h.decision.now) (step_line h.at.step) (behind_activities laws _ h.activity.now h.decision.now h.at.step c.requires.room c.row.ensures q) p)

pub returns : goal.returns
unfolding heap_text
returns g c =
    let laws = g.met.S.Sink.laws in
    let q = rw c.patterns.ensures at c.row-2.ensures in
    let p = rw c.widened.ensures at c.row-3.ensures in
    laws.puts_more c.row.ensures (laws.puts_more q (laws.puts_more p c.row-4.ensures))
