-- The entry points of list mode answer for the fields of all nodes what they answer for the fields of as many as there is room for: more nodes than there may be
-- variables are refused either way, and a refusal changes nothing.
use Rattle.std.specs.Prelude.{ℕ, ◌≤◌, ◌<◌, ◌≡◌, refl, Bool, true, false, cond, List, map, ◌++◌, length, take, drop, leb}
use Rattle.std.proofs.Common.{ap, ◌∙◌, append-nil, arith, leb-true, ne_eqb, lt-ltb, le-ltb, take-append-drop, drop_of_length-le, take_all, length-take-le}
use Rattle.std.proofs.Math.Logic.{by_cases}
use Rattle.std.proofs.Math.Decide.{dec_lt}
use Rattle.std.proofs.lemmas.List.{length-map}
use Rattle.laws.specs.Tests.{and_false}
use Rattle.lit.specs.Numbers.{max_vars, many_vars, bad_length, bad_clauses}
use Rattle.book.specs.Session.{Result, refuse, need, Session}
use Rattle.choosers.specs.List.{list_ops}
use Rattle.session.specs.Entry.{sizes_checked, checked, Answered}
use Rattle.session.specs.Asked.{Asked}
use Rattle.session.specs.Mode.{trail_lengths, lengths_ok}
use Rattle.session.specs.Mode as mode
use Rattle.list_session.specs.declared.ListState.{ListState}
use Rattle.list_session.specs.Memory.{session_of}
use Rattle.list_entry.specs.Entry.{list_mode, entered, made}
use Rattle.node_entry.specs.declared.nodes.Node.{Node}
use Rattle.node_entry.specs.Nodes.{nexts, prevs, tss, room, room_for}

-- the refusal of a list that has not one place for each of n variables
abbrev pub size_status : ℕ → ℕ
size_status n = cond (leb n max_vars) bad_length many_vars

pub sizes_out : {S : Type 0} (n : ℕ) (lengths clauses : Bool) (x : Result S) → (n ≤ max_vars → lengths ≡ false) → sizes_checked n lengths clauses x ≡ refuse (size_status n)
unfolding sizes_checked need
sizes_out n lengths clauses x h = go (leb n max_vars) refl
  where
    go : (b : Bool) → leb n max_vars ≡ b → need b many_vars (need lengths bad_length (need clauses bad_clauses x)) ≡ refuse (cond b bad_length many_vars)
    go false e = refl
    go true e = rw (h (leb-true n max_vars e))

-- of so many nodes as there is room for: either they are all, or more than there may be variables
module _ (ns : List Node) (k : ℕ) (fits : k ≡ room_for (length ns)) where
  pub few_nodes : length ns < room → (f : Node → ℕ) → (take k (map f ns) ≡ map f ns) × ((l : List ℕ) → l ++ drop k (map f ns) ≡ l)
  few_nodes h f =
      let e : k ≡ length ns = fits ∙ rw (lt-ltb (length ns) room h) in
      (take_all k (map f ns) (omega (arith, e, length-map ns f)), λ l. rw (drop_of_length-le (map f ns) {i = k} (omega (arith, e, length-map ns f))) (append-nil l))

  pub many_nodes : room ≤ length ns → (room ≤ length (take k (nexts ns))) × (room ≤ length (nexts ns))
  many_nodes h =
      let e : k ≡ room = fits ∙ rw (le-ltb (length ns) room h) in
      let all = length-map ns (λ (d : Node). d.next) in
      (omega (arith, e, length-take-le k (nexts ns) (omega (arith, e, all))), omega (arith, all))

module _ (n m : ℕ) (lits values levels reasons trail opened : List ℕ) (s : ListState) where
  -- the session with these fields of nodes
  abbrev pub listed : List ℕ → List ℕ → List ℕ → Session n m (list_ops n lits)
  listed next prev ts = session_of n m lits values levels reasons trail opened next prev ts s

  module _ (literals : ℕ) (ends next prev ts : List ℕ) (out : n ≤ max_vars → length next ≡ n → ⊥) where
    pub lengths_out : (scratch : Bool) → n ≤ max_vars → lengths_ok n m (list_mode n m lits) lits literals ends (listed next prev ts) scratch ≡ false
    unfolding lengths_ok
    lengths_out scratch small = rw (ne_eqb (length next) n (out small)) (and_false (trail_lengths n (listed next prev ts).trail))

    pub entered_out : (a : Asked) → entered n m lits literals ends a (listed next prev ts) ≡ refuse (size_status n)
    unfolding mode.entered checked
    entered_out a = sizes_out n _ _ _ (lengths_out _)

    pub made_out : (counts indexes : List ℕ) → made n m lits literals ends counts indexes (listed next prev ts) ≡ refuse (size_status n)
    unfolding mode.made
    made_out counts indexes = sizes_out n _ _ _ (lengths_out _)

  -- an entry point that refuses such lists, asked with the first nodes alone
  module _ (answers : Session n m (list_ops n lits) → Result (Session n m (list_ops n lits)))
      (out : (next prev ts : List ℕ) → (n ≤ max_vars → length next ≡ n → ⊥) → answers (listed next prev ts) ≡ refuse (size_status n))
      (ns : List Node) (k : ℕ) (fits : k ≡ room_for (length ns)) where
    abbrev first : Session n m (list_ops n lits)
    first = listed (take k (nexts ns)) (take k (prevs ns)) (take k (tss ns))

    abbrev all : Session n m (list_ops n lits)
    all = listed (nexts ns) (prevs ns) (tss ns)

    -- the other nodes' fields behind those of a session
    abbrev longer : Session n m (list_ops n lits) → Session n m (list_ops n lits)
    longer u = record {
      trail = u.trail;
      chooser = record {
        next = u.chooser.next ++ drop k (nexts ns);
        prev = u.chooser.prev ++ drop k (prevs ns);
        ts = u.chooser.ts ++ drop k (tss ns);
        start = u.chooser.start;
        search = u.chooser.search;
        timestamp = u.chooser.timestamp;
      };
    }

    longer_first : longer first ≡ all
    longer_first = λ i. listed (take-append-drop k (nexts ns) i) (take-append-drop k (prevs ns) i) (take-append-drop k (tss ns) i)

    many : room ≤ length ns → (answers first ≡ refuse (size_status n)) × (answers all ≡ refuse (size_status n))
    many h = let z = many_nodes ns k fits h in (out _ _ _ (λ small q. omega (arith, small, q, z.0)), out _ _ _ (λ small q. omega (arith, small, q, z.1)))

    -- what it answers for the first, it answers for all
    pub first_for_all : (next₀ prev₀ ts₀ values' levels' reasons' trail' opened' next' prev' ts' : List ℕ) (s' : ListState) (ms : List Node) (status reply : ℕ)
        → (next₀ ≡ take k (nexts ns)) × (prev₀ ≡ take k (prevs ns)) × (ts₀ ≡ take k (tss ns))
        → (nexts ms ≡ next' ++ drop k (nexts ns)) × (prevs ms ≡ prev' ++ drop k (prevs ns)) × (tss ms ≡ ts' ++ drop k (tss ns))
        → Answered (answers (listed next₀ prev₀ ts₀)) (listed next₀ prev₀ ts₀) status reply (session_of n m lits values' levels' reasons' trail' opened' next' prev' ts' s')
        → Answered (answers all) all status reply (session_of n m lits values' levels' reasons' trail' opened' (nexts ms) (prevs ms) (tss ms) s')
    first_for_all next₀ prev₀ ts₀ values' levels' reasons' trail' opened' next' prev' ts' s' ms status reply g h a₀ =
        let a = rw (g.0, g.1, g.2) at a₀ in
        by_cases (dec_lt (length ns) room)
        (λ b.
        let x = few_nodes ns k fits b (λ (d : Node). d.next) in
        let y = few_nodes ns k fits b (λ (d : Node). d.prev) in
        let z = few_nodes ns k fits b (λ (d : Node). d.ts) in
        rw (h.0 ∙ x.1 next', h.1 ∙ y.1 prev', h.2 ∙ z.1 ts') (rw (x.0, y.0, z.0) at a))
        (λ b.
        let q = many (omega (arith, b)) in
        let r = rw q.0 at a in
        rw q.1 (record {
          status = r.status;
          reply = r.reply;
          session = (λ i. session_of n m lits values' levels' reasons' trail' opened' (h.0 i) (h.1 i) (h.2 i) s') ∙ ap longer r.session ∙ longer_first;
        }))
