-- Clause lines: what each comes to on the clause list at the front of the slices, and where the section ends. Assumes nothing.
use Rattle.std.specs.Prelude.{ℕ, ◌+◌, ◌*◌, ◌≤◌, ◌<◌, ◌≡◌, true, false, ◌&&◌, List, [], ◌∷◌, ◌++◌, take, drop, set, eqb, ltb, leb}
use Rattle.std.proofs.Math.Path.{refl}
use Rattle.std.proofs.Common.{sym, ap, subst, ◌∙◌, arith, ltb-true, leb-true, eqb-true, ne_eqb, length-take-le, drop_at}
use Rattle.std.proofs.Math.Option.{Option, none, some}
use Rattle.std.proofs.Math.Numerals.{add-one}
use borrow.Rule.Slice.PartMut.{put_mid, post_of}
use Rattle.std.proofs.Math.ListN.{length}
use Rattle.std.proofs.Math.Seq.{take-add, take-suc-set}
use Rattle.std.proofs.lemmas.List.{take-append-le}
use Rattle.laws.specs.Tests.{true_or_false, and_left, and_right, not_true}
use Rattle.lit.specs.Numbers.{max_clauses, max_literals}
use Rattle.formula.specs.Clauses.{clause_fits, vars_below}
use Rattle.formula.specs.Good.{GoodClauses, clauses_facts}
use Rattle.formula.specs.Adding.{with_end, fits_added}
use Rattle.book.specs.Session.{status, reply, leaves, need}
use Rattle.book.specs.Mapped.{mapped_leaves}
use Rattle.forms.specs.Letters.{clause_letter}
use Rattle.forms.specs.Text.{newline, find}
use Rattle.forms.specs.Forms.{Mode, vsids, vmtf, begins_clause, codes_in, given, numbers}
use Rattle.forms.specs.Behind.{behind}
use Rattle.forms.specs.Lines.{codes_none, codes_behind}
use Rattle.forms.specs.Short.{listed_short}
use Rattle.sheet.specs.declared.clauses.Section.{Section}
use Rattle.lit.specs.declared.Refusal.{Refusal}
use Rattle.lit.specs.declared.Refusal.TheVariants as refused
use Rattle.std.specs.Prelude as code
use Rattle.std.specs.Prelude.{Ok, Err}
use Rattle.sheet.specs.Sheet.{ClauseList, added, clause_lines, listed}
use Rattle.sheet.specs.Stages.{Stage, reading, on_list, clause_with, opened, answers}
use Rattle.sheet.specs.Running.{next_clause, code_count, ClauseAdded, Slices, Takes}
use Rattle.sheet.specs.ClauseLines.{GoodStage}

-- a line's first byte is the first byte from there on
pub begins_front : (bs : List ℕ) → begins_clause (take (find newline bs) bs) ≡ begins_clause bs
unfolding begins_clause find
begins_front [] = refl
begins_front (b ∷ bs) =
    true_or_false (eqb b newline)
    (λ e. rw e (sym (ne_eqb b clause_letter (λ c. omega (arith, eqb-true b newline e)))))
    (λ e. rw e)

-- the first line that is no clause line meets the session made fresh
pub section_over : (i : ℕ) (mode : Mode) (n : ℕ) (lits ends : List ℕ) (ls : List (List ℕ)) → next_clause ls ≡ false → answers i (reading mode n lits ends) ls ≡ answers i (opened mode n lits ends) ls
unfolding answers
section_over i mode n lits ends [] e = refl
section_over i vsids n lits ends (line ∷ ls) e = rw e
section_over i vmtf n lits ends (line ∷ ls) e = rw e

pub no_clause_line : (ls : List (List ℕ)) → next_clause ls ≡ false → clause_lines ls ≡ []
unfolding clause_lines
no_clause_line [] e = refl
no_clause_line (line ∷ ls) e = rw e

-- it is good behind one more line
pub added_good : (n : ℕ) (list : ClauseList) → GoodClauses n list.0 list.1 → (codes : Option (List ℕ)) → let more = leaves list (added n list codes) in GoodClauses n more.0 more.1
unfolding need
added_good n list g none = g
added_good n list g (some codes) =
    true_or_false (clause_fits n (length list.1) (length list.0) codes)
    (λ e. rw e ((clauses_facts n (list.0 ++ codes) (with_end list.0 list.1 codes)).0 (fits_added n list.0 list.1 codes ((clauses_facts n list.0 list.1).1 g) ∙ e)))
    (λ e. rw e g)

-- and behind all of them
pub listed_good : (n : ℕ) (cs : List (List ℕ)) (list : ClauseList) → GoodClauses n list.0 list.1 → let all = listed n list cs in GoodClauses n all.0 all.1
unfolding listed
listed_good n [] list g = g
listed_good n (line ∷ cs) list g = listed_good n cs _ (added_good n list g (codes_in line))

module _ (mode : Mode) (n : ℕ) (lits ends : List ℕ) where
  -- a clause line has no reply
  pub clause_reply : (codes : Option (List ℕ)) → reply (clause_with mode n lits ends codes) ≡ none
  unfolding need
  clause_reply none = refl
  clause_reply (some codes) = true_or_false (clause_fits n (length ends) (length lits) codes) (λ e. rw e) (λ e. rw e)

  -- and leaves a good clause list good
  pub clause_good : GoodClauses n lits ends → (codes : Option (List ℕ)) → GoodStage (leaves (reading mode n lits ends) (clause_with mode n lits ends codes))
  clause_good g codes = subst (λ (s : Stage). GoodStage s) (sym (mapped_leaves (on_list mode n) (lits, ends) (added n (lits, ends) codes))) (added_good n (lits, ends) g codes)

-- a clause line with many codes is long
pub codes_short : (line : List ℕ) → 2 * code_count (codes_in line) ≤ length line
codes_short line =
    true_or_false (begins_clause line)
    (λ t. rw (codes_behind line t) (counted (given (behind (drop 1 line)) numbers) (listed_short line)))
    (λ f. rw (codes_none line f) (omega arith))
  where
    counted : (o : Option (List ℕ)) → ((ns : List ℕ) → o ≡ some ns → 2 * length ns ≤ length line) → 2 * code_count o ≤ length line
    counted none h = omega arith
    counted (some ns) h = h ns refl

pub codes_held : (line : List ℕ) {ns : List ℕ} → codes_in line ≡ some ns → 2 * length ns ≤ length line
codes_held line e = rw e at (codes_short line)

-- slices of the same length take the same clauses
pub still_takes : {lits lits' ends : List ℕ} {literals clauses long k : ℕ} → length lits' ≡ length lits → Slices lits ends literals clauses × ((j : ℕ) → 2 * j ≤ long → Takes lits ends literals clauses j) → 2 * k ≤ long
    → Slices lits' ends literals clauses × Takes lits' ends literals clauses k
still_takes {k = k} e h short =
    let t = h.1 k short in (
      record { lits_short = omega (arith, e, h.0.lits_short); few_literals_lem = omega (arith, e, h.0.few_literals_lem); few_clauses = h.0.few_clauses },
      record { codes = λ few. omega (arith, e, t.codes few); clause = t.clause },
    )

-- what a clause that fits says of the counts
pub fits_clauses : (n clauses literals : ℕ) (codes : List ℕ) → clause_fits n clauses literals codes ≡ true → clauses < max_clauses
unfolding clause_fits
fits_clauses n clauses literals codes e =
    let limits = and_left (ltb clauses max_clauses && leb (literals + length codes) max_literals) (vars_below n codes) e in
    ltb-true clauses max_clauses (and_left (ltb clauses max_clauses) (leb (literals + length codes) max_literals) limits)

pub too_long : (n clauses literals : ℕ) (codes : List ℕ) → max_literals < literals + length codes → clause_fits n clauses literals codes ≡ false
unfolding clause_fits
too_long n clauses literals codes h = not_true (clause_fits n clauses literals codes) (λ e.
    let limits = and_left (ltb clauses max_clauses && leb (literals + length codes) max_literals) (vars_below n codes) e in
    let few : literals + length codes ≤ max_literals = leb-true _ _ (and_right (ltb clauses max_clauses) (leb (literals + length codes) max_literals) limits) in
    omega arith)

module _ (mode : Mode) (n : ℕ) {lits ends : List ℕ} (u : Section) (s : Slices lits ends u.literals u.clauses) where
  used_lits : length (take u.literals lits) ≡ u.literals
  used_lits = length-take-le u.literals lits s.few_literals_lem

  used_ends : length (take u.clauses ends) ≡ u.clauses
  used_ends = length-take-le u.clauses ends s.few_clauses

  -- 3, by its form: only what lies behind the literals is changed
  pub bad_form : (lits' : List ℕ) → take u.literals lits' ≡ take u.literals lits → ClauseAdded mode n none lits ends u (Err refused.BadLine) lits' ends
  bad_form lits' same = record {
    status = refl;
    stage = rw same;
    few_literals_lem = s.few_literals_lem;
    few_clauses = s.few_clauses;
    more_literals = omega arith;
    more_clauses = omega arith;
  }

  module _ (codes : List ℕ) where
    -- 6, where it does not fit
    pub no_fit : clause_fits n u.clauses u.literals codes ≡ false → ClauseAdded mode n (some codes) lits ends u (Err refused.BadClauses) lits ends
    unfolding need
    no_fit e = record {
      status = rw (used_lits, used_ends, e);
      stage = rw (used_lits, used_ends, e);
      few_literals_lem = s.few_literals_lem;
      few_clauses = s.few_clauses;
      more_literals = omega arith;
      more_clauses = omega arith;
    }

    -- added: its codes stand behind the literals, and its end behind the ends
    pub fit : clause_fits n u.clauses u.literals codes ≡ true → u.literals + length codes ≤ length lits → u.clauses < length ends → take (length codes) (drop u.literals lits) ≡ codes
        → ClauseAdded mode n (some codes) lits ends u (Ok (record { place = u.place; literals = u.literals + length codes; clauses = u.clauses + 1 })) lits (set ends u.clauses (u.literals + length codes))
    unfolding need
    fit e room more held =
        record {
          status = rw (used_lits, used_ends, e);
          stage = rw (used_lits, used_ends, e, take-add u.literals (length codes) lits, held, add-one u.clauses, take-suc-set ends u.clauses (u.literals + length codes) more);
          few_literals_lem = room;
          few_clauses = omega arith;
          more_literals = omega arith;
          more_clauses = omega arith;
        }

-- the same, for slices that are the same as far as they are in use
pub same_front : {mode : Mode} {n : ℕ} {codes : Option (List ℕ)} {lits lits₀ ends lits' ends' : List ℕ} {s : Section} {a : code.Result Section Refusal} → take s.literals lits ≡ take s.literals lits₀ → length lits ≡ length lits₀
    → ClauseAdded mode n codes lits ends s a lits' ends' → ClauseAdded mode n codes lits₀ ends s a lits' ends'
same_front {mode} {n} {codes} {ends = ends} {s = s} e long h = record {
  status = h.status ∙ ap (λ (l : List ℕ). status (clause_with mode n l (take s.clauses ends) codes)) e;
  stage = h.stage ∙ ap (λ (l : List ℕ). leaves (reading mode n l (take s.clauses ends)) (clause_with mode n l (take s.clauses ends) codes)) e;
  few_literals_lem = omega (arith, h.few_literals_lem, long);
  few_clauses = h.few_clauses;
  more_literals = h.more_literals;
  more_clauses = h.more_clauses;
}

-- and for a line that is the same
pub same_line : {n : ℕ} {lits ends lits' ends' : List ℕ} {s : Section} {a : code.Result Section Refusal} {line line' : List ℕ} → line ≡ line'
    → ((mode : Mode) → ClauseAdded mode n (codes_in line) lits ends s a lits' ends') → (mode : Mode) → ClauseAdded mode n (codes_in line') lits ends s a lits' ends'
same_line {n} {lits} {ends} {lits'} {ends'} {s} {a} e h mode = subst (λ (l : List ℕ). ClauseAdded mode n (codes_in l) lits ends s a lits' ends') e (h mode)

-- codes put behind the literals stand there
pub put_behind : (a j k : ℕ) (l r ns : List ℕ) → a ≤ length l → k ≤ length r → take k r ≡ ns → take k (drop a (put_mid a j l r)) ≡ ns
put_behind a j k l r ns h q e = rw (drop_at (take a l) (r ++ post_of a j l) a (length-take-le a l h), take-append-le k r (post_of a j l) q) e
