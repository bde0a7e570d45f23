-- Writing and reading a saved session in list mode answer for the fields of all nodes what they answer for the fields of as many as there is room for: more nodes
-- than there may be variables are refused either way, and a refusal changes nothing. Assumes nothing.
use Rattle.std.specs.Prelude.{ℕ, ◌≤◌, ◌≡◌, Bool, cond, List, ◌++◌, length, take, drop}
use Rattle.std.proofs.Math.Path.{refl}
use Rattle.std.proofs.Common.{sym, ap, ◌∙◌, arith, ne_eqb, take-append-drop}
use Rattle.std.proofs.Math.Bool.{true, false}
use Rattle.std.proofs.Math.Option.{Option, none, some}
use Rattle.std.proofs.Math.Logic.{by_cases}
use Rattle.std.proofs.Math.Decide.{dec_lt}
use Rattle.laws.specs.Tests.{and_false}
use Rattle.lit.specs.Numbers.{bad_saved}
use Rattle.trail.specs.Memory.{trail_of}
use Rattle.vmtf.specs.Vmtf.{Vmtf}
use Rattle.book.specs.Session.{Result, done, refuse, need, Session}
use Rattle.choosers.specs.List.{list_ops}
use Rattle.session.specs.Entry.{checked, Answered}
use Rattle.session.specs.Mode.{trail_lengths}
use Rattle.list_session.specs.declared.ListState.{ListState}
use Rattle.list_entry.specs.Entry.{list_mode, blank}
use Rattle.node_entry.specs.Nodes.{nexts, prevs, tss, room, room_for}
use Rattle.node_entry.specs.Fields.{size_status, sizes_out, few_nodes, many_nodes, listed, lengths_out}
use Rattle.node_entry.specs.declared.nodes.Node.{Node}
use Rattle.forms.specs.Forms.{vmtf}
use Rattle.saved_text.specs.Saved.{Saved}
use Rattle.saved_text.specs.Reading.{read_text}
use Rattle.saved_state.specs.Entry.{wrote, same_mode, said_in, Memory, read_into, on_said, read}
use Rattle.list_saved.specs.Reader.{list_reader, memory_of}

-- the first fields of nodes
abbrev pub Firsts : List Node → ℕ → List ℕ → List ℕ → List ℕ → Type 0
Firsts ns k next prev ts = (next ≡ take k (nexts ns)) × (prev ≡ take k (prevs ns)) × (ts ≡ take k (tss ns))

-- what is written
module _ (n m : ℕ) (lits values levels reasons trail opened : List ℕ) (s : ListState) (literals : ℕ) (ends : List ℕ) (saved_of : Session n m (list_ops n lits) → Saved) (buffer : List ℕ) where
  abbrev writes : List ℕ → List ℕ → List ℕ → Result (List ℕ)
  writes next prev ts = wrote n m (list_mode n m lits) lits literals ends saved_of (listed n m lits values levels reasons trail opened s next prev ts) buffer

  wrote_out : (next prev ts : List ℕ) → room ≤ length next → writes next prev ts ≡ refuse (size_status n)
  unfolding wrote checked
  wrote_out next prev ts h = sizes_out n _ _ _ (lengths_out n m lits values levels reasons trail opened s literals ends next prev ts (λ small q. omega (arith, small, q, h)) true)

  pub wrote_first : (ns : List Node) (k : ℕ) → k ≡ room_for (length ns) → (next prev ts : List ℕ) → Firsts ns k next prev ts → writes next prev ts ≡ writes (nexts ns) (prevs ns) (tss ns)
  wrote_first ns k fits next prev ts (a, b, c) = by_cases (dec_lt (length ns) room)
      (λ h.
      let x = a ∙ (few_nodes ns k fits h (λ (d : Node). d.next)).0 in
      let y = b ∙ (few_nodes ns k fits h (λ (d : Node). d.prev)).0 in
      let z = c ∙ (few_nodes ns k fits h (λ (d : Node). d.ts)).0 in
      λ i. writes (x i) (y i) (z i))
      (λ h.
      let z = many_nodes ns k fits (omega (arith, h)) in
      wrote_out next prev ts (omega (arith, z.0, ap length a)) ∙ sym (wrote_out (nexts ns) (prevs ns) (tss ns) z.1))

-- what is read
abbrev out_status : Option Saved → ℕ
out_status none = bad_saved
out_status (some s) = cond (same_mode vmtf s.opening.mode) (size_status s.opening.vars) bad_saved

module _ (bytes lits ends values levels reasons trail opened : List ℕ) where
  abbrev lent : List ℕ → List ℕ → List ℕ → Memory Vmtf
  lent next prev ts = memory_of lits ends values levels reasons trail opened next prev ts blank

  module _ (next prev ts : List ℕ) (h : room ≤ length next) where
    into_out : (s : Saved) → read_into list_reader s (lent next prev ts) ≡ refuse (size_status s.opening.vars)
    unfolding read_into checked
    into_out s = let n = s.opening.vars in sizes_out n _ _ _ (λ small. rw (ne_eqb (length next) n (λ q. omega (arith, small, q, h))) (and_false (trail_lengths n (trail_of values levels reasons trail opened blank.trail))))

    mode_out : (b : Bool) (s : Saved) → on_said list_reader (need b bad_saved (done none s)) (lent next prev ts) ≡ refuse (cond b (size_status s.opening.vars) bad_saved)
    unfolding need
    mode_out true s = into_out s
    mode_out false s = refl

    read_out : read list_reader bytes (lent next prev ts) ≡ refuse (out_status (read_text bytes))
    read_out = go (read_text bytes)
      where
        go : (o : Option Saved) → on_said list_reader (said_in vmtf o) (lent next prev ts) ≡ refuse (out_status o)
        go none = refl
        go (some s) = mode_out (same_mode vmtf s.opening.mode) s

  module _ (ns : List Node) (k : ℕ) (fits : k ≡ room_for (length ns)) where
    -- the other nodes' fields behind those of a memory
    abbrev longer : Memory Vmtf → Memory Vmtf
    longer (codes, places, t, c) = (
      codes,
      places,
      t,
      record {
        next = c.next ++ drop k (nexts ns);
        prev = c.prev ++ drop k (prevs ns);
        ts = c.ts ++ drop k (tss ns);
        start = c.start;
        search = c.search;
        timestamp = c.timestamp;
      },
    )

    pub read_first : (next prev ts lits' ends' values' levels' reasons' trail' opened' next' prev' ts' : List ℕ) (s' : ListState) (ms : List Node) (status reply : ℕ)
        → Firsts ns k next prev ts → (nexts ms ≡ next' ++ drop k (nexts ns)) × (prevs ms ≡ prev' ++ drop k (prevs ns)) × (tss ms ≡ ts' ++ drop k (tss ns))
        → Answered (read list_reader bytes (lent next prev ts)) (lent next prev ts) status reply (memory_of lits' ends' values' levels' reasons' trail' opened' next' prev' ts' s')
        → let all = lent (nexts ns) (prevs ns) (tss ns) in Answered (read list_reader bytes all) all status reply (memory_of lits' ends' values' levels' reasons' trail' opened' (nexts ms) (prevs ms) (tss ms) s')
    read_first next prev ts lits' ends' values' levels' reasons' trail' opened' next' prev' ts' s' ms status reply g h a₀ =
        let a = rw (g.0, g.1, g.2) at a₀ in
        by_cases (dec_lt (length ns) room)
        (λ b.
        let x = few_nodes ns k fits b (λ (d : Node). d.next) in
        let y = few_nodes ns k fits b (λ (d : Node). d.prev) in
        let z = few_nodes ns k fits b (λ (d : Node). d.ts) in
        rw (h.0 ∙ x.1 next', h.1 ∙ y.1 prev', h.2 ∙ z.1 ts') (rw (x.0, y.0, z.0) at a))
        (λ b.
        let q = many_nodes ns k fits (omega (arith, b)) in
        let r = rw (read_out (take k (nexts ns)) (take k (prevs ns)) (take k (tss ns)) q.0) at a in
        rw (read_out (nexts ns) (prevs ns) (tss ns) q.1) (record {
          status = r.status;
          reply = r.reply;
          session = (λ i. memory_of lits' ends' values' levels' reasons' trail' opened' (h.0 i) (h.1 i) (h.2 i) s') ∙ ap longer r.session
              ∙ (λ i. lent (take-append-drop k (nexts ns) i) (take-append-drop k (prevs ns) i) (take-append-drop k (tss ns) i));
        }))
