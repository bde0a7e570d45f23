-- The move-to-front list's memory and the steps of `VMTF` in `decision.rs` on it: plain writes to three lists of length N and three
-- numbers. NONE marks no variable.
use Rattle.std.specs.Prelude.{ℕ, zero, suc, ◌+◌, ◌<◌, ◌≤◌, ◌≡◌, ◌≢◌, Bool, false, cond, ◌&&◌, ◌||◌, List, [], ◌∷◌, map, length, get_or, set, replicate, leb, ltb, eqb, Option, None, Some, Result, Ok, Err}
use Rattle.lit.specs.Numbers.{NONE, unassigned}
use Rattle.lit.specs.Lits.{index}
use Rattle.lit.specs.declared.Refusal.{Refusal}
use Rattle.laws.specs.InPlace.{up_to}
use Rattle.util.specs.Rising.{VarByStamp}
use Rattle.util.specs.SortReverse.{sort_reverse}
use Rattle.vmtf.specs.declared.VmtfState.{VmtfState}
use Rattle.vmtf.specs.declared.Vmtf as lent
use Rattle.vmtf.specs.declared.VmtfView.{VmtfView}

pub record Vmtf : Type 0 where
  -- `linked_list`: for each variable the one after it, the one before it, and its stamp
  pub next : List ℕ
  pub prev : List ℕ
  pub ts : List ℕ
  -- the front, where a decide starts to look, and the next stamp
  pub start : ℕ
  pub search : ℕ
  pub timestamp : ℕ

abbrev pub vmtf_of : List ℕ → List ℕ → List ℕ → VmtfState → Vmtf
vmtf_of next prev ts s = record { next = next; prev = prev; ts = ts; start = s.start; search = s.search; timestamp = s.timestamp }

-- the list in slices that were lent, and as it is seen
abbrev pub vmtf_in : lent.Vmtf → Vmtf
vmtf_in l = vmtf_of l.next.now l.prev.now l.ts.now l.at

abbrev pub vmtf_seen : VmtfView → Vmtf
vmtf_seen l = vmtf_of l.next.now l.prev.now l.ts.now l.at

-- the list holds the same slices as before
abbrev pub SameSlices : lent.Vmtf → lent.Vmtf → Type 0
SameSlices a b = (a.next.ghost_name ≡ b.next.ghost_name) × (a.prev.ghost_name ≡ b.prev.ghost_name) × (a.ts.ghost_name ≡ b.ts.ghost_name)

-- `usize::MAX` of the source as a stamp, in 64 bits
abbrev pub max_stamp : ℕ
max_stamp = 18446744073709551615

-- the first loop of `new`: one more for the variable of each literal
unfoldable pub count_lits : List ℕ → List ℕ → List ℕ
count_lits counts [] = counts
count_lits counts (code ∷ codes) = count_lits (set counts (index code) (get_or counts (index code) 0 + 1)) codes

-- the order of `new`: the variables, those in the most literals first
unfoldable pub lit_order : ℕ → List ℕ → List ℕ
lit_order n codes = (sort_reverse (count_lits (replicate n 0) codes) (up_to n)).1

-- the first of a list, or NONE
abbrev pub first : List ℕ → ℕ
first vs = get_or vs 0 NONE

-- the same list with these links; with these stamps and this timestamp
abbrev with_links : List ℕ → List ℕ → Vmtf → Vmtf
with_links next prev l = record { next = next; prev = prev; ts = l.ts; start = l.start; search = l.search; timestamp = l.timestamp }

abbrev pub with_stamps : List ℕ → ℕ → Vmtf → Vmtf
with_stamps ts timestamp l = record { next = l.next; prev = l.prev; ts = ts; start = l.start; search = l.search; timestamp = timestamp }

-- a turn of the loop of `make_linked_list`: v comes after p and before q, with the stamp k
abbrev pub linked : ℕ → ℕ → ℕ → ℕ → Vmtf → Vmtf
linked p v q k l = with_links (set l.next v q) (set l.prev v p) (with_stamps (set l.ts v k) l.timestamp l)

-- the loop: vs come after p, each stamped with the number of those from it on
unfoldable pub link_from : ℕ → List ℕ → Vmtf → Vmtf
link_from p [] l = l
link_from p (v ∷ vs) l = link_from v vs (linked p v (first vs) (length (v ∷ vs)) l)

-- `make_linked_list`, from nodes as `Default` makes them
abbrev pub unlinked : ℕ → ℕ → Vmtf
unlinked n front = record { next = replicate n NONE; prev = replicate n NONE; ts = replicate n 0; start = front; search = front; timestamp = n + 1 }

unfoldable pub make_linked_list : List ℕ → Vmtf
make_linked_list order = link_from NONE order (unlinked (length order) (first order))

-- `new`, for n variables and the literals of all clauses
unfoldable pub new : ℕ → List ℕ → Vmtf
new n codes = make_linked_list (lit_order n codes)

-- the loop of `rescore`: from curr on along the next links, the stamps score, score - 1, ..
unfoldable pub renumber : List ℕ → ℕ → ℕ → List ℕ → List ℕ
renumber next zero curr ts = cond (eqb curr NONE) ts (set ts curr 0)
renumber next (suc k) curr ts =
    let r = renumber next k (get_or next curr 0) (set ts curr (suc k)) in
    cond (eqb curr NONE) ts r

-- `rescore`
unfoldable pub rescore : Vmtf → Vmtf
rescore l = with_stamps (renumber l.next (length l.next) l.start l.ts) (length l.next + 1) l

-- `move_to_front` of a variable that is not at the front: the links around it close, it gets the next stamp and stands before the front
unfoldable pub relink : ℕ → Vmtf → Vmtf
relink v l =
    let before = get_or l.prev v 0 in
    let after = get_or l.next v 0 in
    let next = set (set l.next v l.start) before after in
    let prev = set (set l.prev v NONE) l.start v in
    record { next = next; prev = cond (eqb after NONE) prev (set prev after before); ts = set l.ts v l.timestamp; start = v; search = l.search; timestamp = l.timestamp }

-- its end: the next timestamp, or `rescore` after the largest stamp
unfoldable pub tick : Vmtf → Vmtf
tick l = cond (eqb l.timestamp max_stamp) (rescore l) (with_stamps l.ts (l.timestamp + 1) l)

-- `move_to_front`: a variable at the front is left as it is
unfoldable pub move_to_front : ℕ → Vmtf → Vmtf
move_to_front v l = cond (eqb v l.start) l (tick (relink v l))

-- the second loop of `bump_vec_of_vars`: the list after every move
unfoldable pub move_all : List ℕ → Vmtf → Vmtf
move_all [] l = l
move_all (v ∷ vs) l = move_all vs (move_to_front v l)

-- its first loop: the stamps of a group
abbrev pub stamps_of : List ℕ → List ℕ → List ℕ
stamps_of ts vs = map (λ v. get_or ts v 0) vs

-- its sort: the variables rising by their stamps
unfoldable pub insert_by_stamp : List ℕ → ℕ → List ℕ → List ℕ
insert_by_stamp ts v [] = v ∷ []
insert_by_stamp ts v (x ∷ xs) = cond (leb (get_or ts v 0) (get_or ts x 0)) (v ∷ x ∷ xs) (x ∷ insert_by_stamp ts v xs)

unfoldable pub by_stamp : List ℕ → List ℕ → List ℕ
by_stamp ts [] = []
by_stamp ts (v ∷ vs) = insert_by_stamp ts v (by_stamp ts vs)

-- `bump_vec_of_vars`: moves in rising order of the stamps held before the first move
unfoldable pub bump_vec_of_vars : List ℕ → Vmtf → Vmtf
bump_vec_of_vars vs l = move_all (by_stamp l.ts vs) l

-- `insert`, of a variable that becomes unassigned too: nothing changes. So going back leaves search where it is
abbrev pub insert : ℕ → Vmtf → Vmtf
insert v l = l

-- an open variable is unassigned
unfoldable pub is_open : List ℕ → ℕ → Bool
is_open values v = leb unassigned (get_or values v 0)

-- the variables from curr on along the next links, at most k
unfoldable pub from : List ℕ → ℕ → ℕ → List ℕ
from next zero curr = []
from next (suc k) curr = let r = curr ∷ from next k (get_or next curr 0) in cond (eqb curr NONE) [] r

-- the first open variable of a list, or NONE
unfoldable pub first_open : List ℕ → List ℕ → ℕ
first_open values [] = NONE
first_open values (v ∷ vs) = cond (is_open values v) v (first_open values vs)

-- the second loop of `get_next`: some variable below n is open
unfoldable pub any_open : List ℕ → ℕ → Bool
any_open values zero = false
any_open values (suc n) = any_open values n || is_open values n

-- the list once v is found: search is at the one after v
abbrev pub past : ℕ → Vmtf → Vmtf
past v l = record { next = l.next; prev = l.prev; ts = l.ts; start = l.start; search = get_or l.next v 0; timestamp = l.timestamp }

-- what a decide finds: a variable, with the list that it leaves; no unassigned variable; or none from search on, though there is one
pub data Found : Type 0 where
  chose : ℕ → Vmtf → Found
  nothing : Vmtf → Found
  stuck : Found

-- `get_next`: the first open variable from search on. Where there is none but some variable is open the source panics
unfoldable pub get_next : List ℕ → Vmtf → Found
get_next values l =
    let v = first_open values (from l.next (length l.next) l.search) in
    cond (eqb v NONE) (cond (any_open values (length values)) stuck (nothing l)) (chose v (past v l))

-- the code's answer with the list that it leaves
abbrev pub found_of : Result (Option ℕ) Refusal → Vmtf → Found
found_of (Ok (Some v)) l = chose v l
found_of (Ok None) l = nothing l
found_of (Err e) l = stuck

-- what a number marks: a variable, or none
abbrev pub marked : ℕ → Option ℕ
marked v = cond (eqb v NONE) None (Some v)

-- the check of a lent list. c may come after p in the list where the stamp before it is b
unfoldable pub stands : Vmtf → ℕ → ℕ → ℕ → Bool
stands l p b c = ltb c (length l.next) && (eqb (get_or l.prev c 0) p && ltb (get_or l.ts c 0) b)

-- k variables stand in a row after p, from c on, and NONE comes after the last
unfoldable pub check_row : Vmtf → ℕ → ℕ → ℕ → ℕ → Bool
check_row l zero p b c = eqb c NONE
check_row l (suc k) p b c = let r = check_row l k c (get_or l.ts c 0) (get_or l.next c 0) in stands l p b c && r

-- all variables stand in a row from the front on, below the timestamp, and search is a variable or NONE
unfoldable pub check_list : Vmtf → Bool
check_list l = check_row l (length l.next) NONE l.timestamp l.start && (eqb l.search NONE || ltb l.search (length l.next))

-- the slices have one length
abbrev pub Even : Vmtf → Type 0
Even l = (length l.prev ≡ length l.next) × (length l.ts ≡ length l.next)

-- What safety needs of a walk along the next links from curr: links are variables or NONE.
pub record Links (n : ℕ) (next : List ℕ) (curr : ℕ) : Type 0 where
  pub next_long : length next ≡ n
  pub next_in : (v : ℕ) → v < n → get_or next v 0 ≢ NONE → get_or next v 0 < n
  pub curr_in : curr ≢ NONE → curr < n

-- What safety needs of a list of n variables: each variable but the front has one before it.
pub record Safe (n : ℕ) (l : Vmtf) : Type 0 where
  pub links : Links n l.next l.start
  pub prev_long : length l.prev ≡ n
  pub ts_long : length l.ts ≡ n
  pub prev_in : (v : ℕ) → v < n → v ≢ l.start → get_or l.prev v 0 < n
  pub front : 0 < n → l.start < n

-- `vs` are the variables from curr on along the next links, and NONE comes after the last
unfoldable pub Chain : List ℕ → ℕ → List ℕ → Type 0
Chain next curr [] = curr ≡ NONE
Chain next curr (v ∷ vs) = (curr ≡ v) × (v < length next) × Chain next (get_or next v 0) vs

-- What a walk to the end needs: from curr on the next links lead to NONE.
pub record Ends (next : List ℕ) (curr : ℕ) : Type 0 where
  pub rest : List ℕ
  pub chain : Chain next curr rest
  pub short : length rest ≤ length next
  pub small : length next ≤ NONE

-- What safety needs of the variables of a list, in any order.
abbrev pub Vars : ℕ → List ℕ → Type 0
Vars n vs = (i : ℕ) → i < length vs → get_or vs i 0 < n

-- What a group needs: scratch of its length, and a stamp of its own for each of its variables.
pub record Group (vs ts stamps order : List ℕ) : Type 0 where
  pub vars : Vars (length ts) vs
  pub stamps_long : length stamps ≡ length vs
  pub order_long : length order ≡ length vs
  pub apart : VarByStamp (stamps_of ts vs) vs

-- What safety needs of an order of n variables.
pub record Ordering (n : ℕ) (order : List ℕ) : Type 0 where
  pub long : length order ≡ n
  pub vars : Vars n order

-- What safety needs of the literals of all clauses.
pub record Literals (n : ℕ) (codes : List ℕ) : Type 0 where
  pub few : length codes ≤ NONE
  pub vars : (i : ℕ) → i < length codes → index (get_or codes i 0) < n

-- What a fresh list of n variables needs: slices of this length.
pub record Fresh (n : ℕ) (prev ts counts indexes : List ℕ) : Type 0 where
  pub small : n ≤ NONE
  pub prev_long : length prev ≡ n
  pub ts_long : length ts ≡ n
  pub counts_long : length counts ≡ n
  pub indexes_long : length indexes ≡ n
