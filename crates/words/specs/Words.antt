-- Calls as 32-bit words, three to a call, and their answers, two to a call. Behind them is one run of the book.
use Rattle.std.specs.Prelude.{ℕ, ◌+◌, ◌*◌, Bool, cond, ◌&&◌, List, [], ◌∷◌, ◌++◌, reverse, length, take, drop, eqb, leb}
use Rattle.std.proofs.Math.Option.{Option, none, some}
use Rattle.std.specs.Float.{binary64}
use Rattle.std.specs.Float.Ieee.{of_bits}
use Rattle.lit.specs.Numbers.{NONE, max_group, bad_line}
use Rattle.book.specs.Calls.{Call, decay, set_decay, enqueue, group, Line}
use Rattle.book.specs.Session.{Result, leaves, mapped, Session}
use Rattle.book.specs.Claim.{log, Run}
use Rattle.book.specs.Read.{calls_of}
use Rattle.book.specs.Chooser.{Operations}
use Rattle.session.specs.Asked.{Lending}
use Rattle.session.specs.Entry.{reply_number}
use Rattle.session.specs.Mode.{Mode, entered_list}
use Rattle.session.specs.Runs.{Turn, listed}
use Rattle.forms.specs.Forms.{Kind, kind_of, bumps, decays, sets_decay, inserts, switches_off, decides, enqueues, learns_unit, goes_back, bumps_reason, moves_group, is_clause, is_first, is_other}
use Rattle.forms.specs.Read.{numbered}

-- 'the high and the low half of the pattern': the high one counts so many
abbrev pub high_half : ℕ
high_half = 4294967296

-- the call of a kind and two words. A group's say where its variables begin in vars, and how many they are; a word that a call does not take is 0
abbrev pub kind_call : List ℕ → Kind → ℕ → ℕ → Option Call
kind_call vars decays a b = cond (eqb a 0 && eqb b 0) (some decay) none
kind_call vars sets_decay a b = some (set_decay (of_bits binary64 (a * high_half + b)))
kind_call vars enqueues a b = some (enqueue a b)
kind_call vars moves_group a b = cond (leb b max_group && leb (a + b) (length vars)) (some (group (take b (drop a vars)))) none
kind_call vars bumps a b = cond (eqb b 0) (numbered bumps a) none
kind_call vars inserts a b = cond (eqb b 0) (numbered inserts a) none
kind_call vars switches_off a b = cond (eqb b 0) (numbered switches_off a) none
kind_call vars decides a b = cond (eqb b 0) (numbered decides a) none
kind_call vars learns_unit a b = cond (eqb b 0) (numbered learns_unit a) none
kind_call vars goes_back a b = cond (eqb b 0) (numbered goes_back a) none
kind_call vars bumps_reason a b = cond (eqb b 0) (numbered bumps_reason a) none
kind_call vars is_clause a b = none
kind_call vars is_first a b = none
kind_call vars is_other a b = none

-- three words: 'the sheet's letter, and two arguments'. A list with one or two words more is refused by `words_fit` below
abbrev pub word_call : List ℕ → ℕ → ℕ → ℕ → Option Call
word_call vars letter a b = kind_call vars (kind_of letter) a b

unfoldable pub calls_in : List ℕ → List ℕ → List (Option Call)
calls_in vars [] = []
calls_in vars (l ∷ []) = []
calls_in vars (l ∷ (a ∷ [])) = []
calls_in vars (l ∷ (a ∷ (b ∷ ws))) = word_call vars l a b ∷ calls_in vars ws

-- 'Answers: two words a call, status and reply': 3 where the words have not the form of a call, else the next of what a log says, the oldest first. The third
-- clause never comes: a run logs every call.
unfoldable pub answers_of : List (Option Call) → List Line → List ℕ
answers_of [] ls = []
answers_of (none ∷ cs) ls = bad_line ∷ (NONE ∷ answers_of cs ls)
answers_of (some c ∷ cs) [] = []
answers_of (some c ∷ cs) (l ∷ ls) = l.status ∷ (reply_number l.reply ∷ answers_of cs ls)

-- refusal 5 unless there are two words of answers for each three of the calls, which are then a multiple of three
abbrev pub words_fit : ℕ → ℕ → Bool
words_fit calls answers = eqb (calls * 2) (answers * 3)

-- what a run leaves and tells
abbrev pub told : {n m : ℕ} {O : Operations} → List ℕ → List ℕ → Run n m O → Session n m O × List ℕ
told vars words r = (r.now, answers_of (calls_in vars words) (reverse (log r.past)))

module _ (n m : ℕ) (M : Mode) (lits : List ℕ) (literals : ℕ) (ends : List ℕ) (vars : List ℕ) where
  -- the calls in words, on the session as lent, with answers of so many words: the session that is left, and the answers
  abbrev pub entered_words : List ℕ → ℕ → Session n m M.ops → Result (Session n m M.ops × List ℕ)
  entered_words words answers s = mapped (told vars words) (entered_list n m M lits literals ends (words_fit (length words) answers) (calls_of (calls_in vars words)) s)

  -- each call in a list of its own, and the answers one after another: the memory is checked every time
  unfoldable pub each_alone : List ℕ → Session n m M.ops → Session n m M.ops × List ℕ
  each_alone [] s = (s, [])
  each_alone (l ∷ []) s = (s, [])
  each_alone (l ∷ (a ∷ [])) s = (s, [])
  each_alone (l ∷ (a ∷ (b ∷ ws))) s =
      let first = leaves (s, []) (entered_words (l ∷ (a ∷ (b ∷ []))) 2 s) in
      let rest = each_alone ws first.0 in
      (rest.0, first.1 ++ rest.1)

-- a list as it is lent: the clause list with its counts, the variables of groups, the words, and how many words of answers
pub record Handed : Type 0 where
  pub lent : Lending
  pub vars : List ℕ
  pub words : List ℕ
  pub answers : ℕ

-- the turn that it is: what `entered_list` gets of it, as `entered_words` has it
abbrev pub handed : Handed → Turn
handed h = listed h.lent (words_fit (length h.words) h.answers) (calls_of (calls_in h.vars h.words))
