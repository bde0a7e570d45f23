-- The clause section, line by line: what adding a line's clause and writing its answer leaves. Assumes nothing.
use Rattle.std.specs.Prelude.{ℕ, ◌+◌, ◌*◌, ◌≤◌, ◌<◌, ◌≡◌, refl, true, false, length, take, drop, Ok, Err, None}
use Rattle.std.specs.Result.{result_and}
use Rattle.std.proofs.Common.{sym, ap, subst, ◌∙◌, length-take-le}
use Rattle.std.proofs.Math.Logic.{by_cases}
use Rattle.std.proofs.lemmas.Bool.{false≢true}
use Rattle.std.proofs.Math.Option.{none}
use mathlib.Core.List.{List, [], ◌∷◌}
use native.Mathlib.Omega.{arith}
use Rattle.std.proofs.Math.Decide.{dec_lt}
use Rattle.lit.specs.Numbers.{answer_room}
use Rattle.formula.specs.Good.{GoodClauses}
use Rattle.book.specs.Session.{status, reply}
use Rattle.forms.specs.Text.{written}
use Rattle.forms.specs.Forms.{Mode, vsids, begins_clause, codes_in}
use Rattle.sheet.specs.declared.Place.{Place}
use Rattle.lit.specs.declared.Refusal.{Refusal}
use Rattle.lit.specs.Refusals.{status_of}
use Rattle.std.specs.Prelude as code
use Rattle.sheet.specs.declared.clauses.Section.{Section}
use Rattle.sheet.specs.Sheet.{answer_line}
use Rattle.sheet.specs.Writing.{replied}
use Rattle.sheet.specs.Stages.{Stage, reading, opened}
use Rattle.forms.specs.Written.{Wrote, same_room}
use Rattle.sheet.proofs.Bounds.{answer_short, turn_small}
use Rattle.sheet.specs.Running.{lines_from, line_length, line_from, after, Room, Ended, SameEnd, next_clause, stage_of, clause_of, kept, ClauseAdded, Takes, Ready, SoFar}
use Rattle.sheet.proofs.Steps.{same_end, lines_over, line_found, line_inside, lines_more, answer_room_lem, room_behind, end_behind}
use Rattle.sheet.specs.ClauseLines.{GoodStage}
use Rattle.sheet.proofs.ClauseLines.{section_over, clause_reply, clause_good, codes_short}

-- a clause line has a status and no reply
pub unreplied : (a : code.Result Section Refusal) (i : ℕ) → let given = result_and a (Ok None) in answer_line i (status_of given) (replied given) ≡ answer_line i (status_of a) none
unreplied (Ok s) i = refl
unreplied (Err e) i = refl

-- no line is answered yet, or one after another
pub so_far_none : {n : ℕ} {sheet : List ℕ} {s : Section} {out lits ends : List ℕ} → Ready n sheet s out lits ends → SoFar n sheet s out lits ends s out lits ends
so_far_none ready = record { ready = ready; end = λ mode. record { buffer = refl; count = refl; stage = refl }; out_same = refl; lits_same = refl; ends_same = refl }

pub so_far_more : {n : ℕ} {sheet : List ℕ} {s u v : Section} {out lits ends out' lits' ends' out'' lits'' ends'' : List ℕ}
    → SoFar n sheet s out lits ends u out' lits' ends' → SoFar n sheet u out' lits' ends' v out'' lits'' ends'' → SoFar n sheet s out lits ends v out'' lits'' ends''
so_far_more a b = record {
  ready = b.ready;
  end = λ mode. same_end (a.end mode) (b.end mode);
  out_same = b.out_same ∙ a.out_same;
  lits_same = b.lits_same ∙ a.lits_same;
  ends_same = b.ends_same ∙ a.ends_same;
}

module _ {n : ℕ} {sheet out lits ends : List ℕ} {s : Section} (ready : Ready n sheet s out lits ends) (next : next_clause (lines_from sheet s.place.from) ≡ true) where
  abbrev line : List ℕ
  line = line_from sheet s.place.from

  -- there is such a line
  pub clause_more : 0 < s.place.left
  clause_more =
      by_cases (dec_lt 0 s.place.left)
      (λ some. some)
      (λ none. absurd (false≢true (sym (ap (λ (ls : List (List ℕ)). next_clause ls) (lines_over ready.room (omega arith))) ∙ next)))

  pub is_clause : begins_clause line ≡ true
  is_clause = sym (ap (λ (ls : List (List ℕ)). next_clause ls) (lines_more ready.room clause_more)) ∙ next

  -- it has a byte at least, and twice as many as codes, so the slices have room for its clause
  line_long : length line ≡ line_length sheet s.place.from
  line_long = length-take-le (line_length sheet s.place.from) (drop s.place.from sheet) (omega (arith, line_found ready.room clause_more))

  not_empty : (bs : List ℕ) → begins_clause bs ≡ true → 1 ≤ length bs
  unfolding begins_clause
  not_empty [] e = absurd (false≢true e)
  not_empty (b ∷ bs) e = omega arith

  pub clause_taken : (k : ℕ) → 2 * k ≤ length line → Takes lits ends s.literals s.clauses k
  clause_taken k short = record {
    codes = λ few. ready.holds.codes (s.literals + k) few (omega (arith, line_long, line_inside ready.room clause_more, ready.read_literals));
    clause = λ few. (let more : s.clauses + 1 ≤ length ends = ready.holds.clauses (s.clauses + 1) (omega arith) (omega (arith, line_long, not_empty line is_clause, line_inside ready.room clause_more, ready.read_clauses)) in omega arith);
  }

  module _ {a : code.Result Section Refusal} {lits' ends' : List ℕ} (added : (mode : Mode) → ClauseAdded mode n (codes_in line) lits ends s a lits' ends') where
    -- the answer fits its room, and the buffer
    short : length (answer_line s.place.line (status_of a) none) ≤ answer_room
    short =
        let few : (status_of a) < 100 = subst (λ (k : ℕ). k < 100) (sym (added vsids).status) (turn_small (stage_of vsids n lits ends s) line) in
        answer_short s.place.line (status_of a) none (omega (arith, ready.room.numbered, clause_more)) few

    pub answer_fits : s.place.at + length (answer_line s.place.line (status_of a) none) ≤ length out
    answer_fits = answer_room_lem ready.room clause_more (answer_line s.place.line (status_of a) none) short

    good : GoodClauses n (take (kept s a).literals lits') (take (kept s a).clauses ends')
    good = subst (λ (u : Stage). GoodStage u) (sym (added vsids).stage) (clause_good vsids n (take s.literals lits) (take s.clauses ends) ready.good (codes_in line))

    module _ (lits_same : length lits' ≡ length lits) (ends_same : length ends' ≡ length ends) where
      abbrev behind : ℕ → Section
      behind k = record { place = after s.place (s.place.from + line_length sheet s.place.from) k; literals = (kept s a).literals; clauses = (kept s a).clauses }

      pub ready_behind : {out' : List ℕ} {k : ℕ} → Room sheet (behind k).place out' → Ready n sheet (behind k) out' lits' ends'
      ready_behind room = record {
        room = room;
        slices = record {
          lits_short = omega (arith, lits_same, ready.slices.lits_short);
          few_literals_lem = omega (arith, lits_same, (added vsids).few_literals_lem);
          few_clauses = omega (arith, ends_same, (added vsids).few_clauses);
        };
        holds = record { codes = λ k few short. omega (arith, ready.holds.codes k few short, lits_same); clauses = λ k few short. omega (arith, ready.holds.clauses k few short, ends_same) };
        read_literals = omega (arith, (added vsids).more_literals, codes_short line, line_long, ready.read_literals);
        read_clauses = omega (arith, (added vsids).more_clauses, line_long, not_empty line is_clause, ready.read_clauses);
        good = good;
      }

      module _ {out' : List ℕ} {k : ℕ} (wrote : Wrote s.place.at (answer_line s.place.line (status_of a) none) out out' k) where
        end_as_clause : (mode : Mode) → SameEnd sheet s.place (stage_of mode n lits ends s) out (behind k).place (stage_of mode n lits' ends' (behind k)) out'
        end_as_clause mode =
            let x = clause_of mode n lits ends s.literals s.clauses (codes_in line) in
            let w : Wrote s.place.at (answer_line s.place.line (status x) (reply x)) out out' k =
            rw (sym (added mode).status, clause_reply mode n (take s.literals lits) (take s.clauses ends) (codes_in line)) wrote in
            subst (λ (u : Stage). SameEnd sheet s.place (stage_of mode n lits ends s) out (behind k).place u out') (sym (added mode).stage)
            ((rw is_clause at (end_behind ready.room clause_more (stage_of mode n lits ends s) {out' = out'} {k = k})) w)

        -- the line is answered, and the run goes on behind it
        pub so_far_one : SoFar n sheet s out lits ends (behind k) out' lits' ends'
        so_far_one = record { ready = ready_behind (room_behind ready.room clause_more wrote short); end = end_as_clause; out_same = same_room wrote; lits_same = lits_same; ends_same = ends_same }

-- ---- the end of a run

-- where no clause line comes next, what ends the run from the session on ends it
module _ (mode : Mode) {n r : ℕ} {sheet lits ends out out' : List ℕ} {p : Place} where
  pub session_ended : next_clause (lines_from sheet p.from) ≡ false → Ended sheet p (opened mode n lits ends) out r out' → Ended sheet p (reading mode n lits ends) out r out'
  session_ended over x =
      let e = sym (section_over p.line mode n lits ends (lines_from sheet p.from) over) in
      record { buffer = x.buffer ∙ ap (λ (a : List ℕ). written p.at a out) e; count = x.count ∙ ap (λ (a : List ℕ). p.at + length a) e }

-- the clause lines answered, it ends it from the first of them on
pub section_ended : (mode : Mode) {n r : ℕ} {sheet out lits ends out' lits' ends' out'' : List ℕ} {s u : Section} → SoFar n sheet s out lits ends u out' lits' ends'
    → next_clause (lines_from sheet u.place.from) ≡ false → Ended sheet u.place (opened mode n (take u.literals lits') (take u.clauses ends')) out' r out''
    → Ended sheet s.place (stage_of mode n lits ends s) out r out''
section_ended mode so over x =
    let y = session_ended mode over x in
    record { buffer = y.buffer ∙ (so.end mode).buffer; count = y.count ∙ (so.end mode).count }
