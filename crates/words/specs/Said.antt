-- Three words are read as a call just where they say it. Assumes nothing.
use Rattle.std.specs.Prelude.{ℕ, ◌+◌, ◌*◌, ◌≤◌, ◌≡◌, ◌↔◌, cond, ◌&&◌, List, eqb, leb, length, take, drop}
use Rattle.std.proofs.Math.Path.{refl}
use Rattle.std.proofs.Math.Option.{none, some}
use borrow.Author.Tests.{eqb-true, leb-true, le-leb}
use Rattle.std.specs.Float.{binary64}
use Rattle.std.specs.Float.Ieee.{of_bits}
use Rattle.laws.specs.Tests.{and_left, and_right}
use Rattle.lit.specs.Numbers.{max_group}
use Rattle.book.specs.Calls.{Call, bump, decay, set_decay, insert, switch_off, decide, enqueue, learn_unit, go_back, bump_reason, group}
use Rattle.forms.specs.Letters.{bump_letter, decay_letter, set_decay_letter, insert_letter, switch_off_letter, decide_letter, enqueue_letter, learn_unit_letter, go_back_letter, bump_reason_letter, group_letter}
use Rattle.forms.specs.Forms.{Kind, kind_of}
use Rattle.forms.specs.Words.{never, same_some, cond_some}
use Rattle.words.specs.Words.{high_half, kind_call, word_call}
use Rattle.words.specs.Kinds.{by_kind}

-- 'Calls as numbers, three 32-bit words each: the sheet's letter, and two arguments'; what a call does not take is 0
pub data Say (vars : List ℕ) : ℕ → ℕ → ℕ → Call → Type 0 where
  words_b : (v : ℕ) → Say vars bump_letter v 0 (bump v)
  words_y : Say vars decay_letter 0 0 decay
  words_w : (high low : ℕ) → Say vars set_decay_letter high low (set_decay (of_bits binary64 (high * high_half + low)))
  words_i : (v : ℕ) → Say vars insert_letter v 0 (insert v)
  words_o : (v : ℕ) → Say vars switch_off_letter v 0 (switch_off v)
  words_g : (p : ℕ) → Say vars decide_letter p 0 (decide p)
  words_e : (code reason : ℕ) → Say vars enqueue_letter code reason (enqueue code reason)
  words_u : (code : ℕ) → Say vars learn_unit_letter code 0 (learn_unit code)
  words_k : (level : ℕ) → Say vars go_back_letter level 0 (go_back level)
  words_r : (v : ℕ) → Say vars bump_reason_letter v 0 (bump_reason v)
  words_f : (from count : ℕ) → count ≤ max_group → from + count ≤ length vars → Say vars group_letter from count (group (take count (drop from vars)))

module _ (vars : List ℕ) where
  -- a letter that takes one word
  one_said : (letter a b : ℕ) (c : Call) {l : ℕ} {x : Call} → letter ≡ l → Say vars l a 0 x → cond (eqb b 0) (some x) none ≡ some c → Say vars letter a b c
  one_said letter a b c e s q = let z = cond_some (eqb b 0) _ q in rw (e, eqb-true b 0 z.0) (same_some (Say vars _ a 0) z.1 s)

  read : (letter a b : ℕ) (c : Call) → word_call vars letter a b ≡ some c → Say vars letter a b c
  read letter a b c = by_kind (λ (k : Kind). kind_call vars k a b ≡ some c → Say vars letter a b c) letter (record {
    bump = λ e. one_said letter a b c e (words_b a);
    decay = λ e q.
        let z = cond_some (eqb a 0 && eqb b 0) _ q in
        rw (e, eqb-true a 0 (and_left (eqb a 0) _ z.0), eqb-true b 0 (and_right (eqb a 0) _ z.0)) (same_some (Say vars decay_letter 0 0) z.1 words_y);
    set_decay_lem = λ e q. rw e (same_some (Say vars set_decay_letter a b) q (words_w a b));
    insert = λ e. one_said letter a b c e (words_i a);
    switch_off = λ e. one_said letter a b c e (words_o a);
    decide = λ e. one_said letter a b c e (words_g a);
    enqueue = λ e q. rw e (same_some (Say vars enqueue_letter a b) q (words_e a b));
    learn_unit_lem = λ e. one_said letter a b c e (words_u a);
    go_back = λ e. one_said letter a b c e (words_k a);
    bump_reason = λ e. one_said letter a b c e (words_r a);
    group = λ e q.
        let few = leb b max_group in
        let z = cond_some (few && leb (a + b) (length vars)) _ q in
        rw e (same_some (Say vars group_letter a b) z.1 (words_f a b (leb-true b max_group (and_left few _ z.0)) (leb-true (a + b) (length vars) (and_right few _ z.0))));
    clause = never;
    first = never;
    other = never;
  })

  say : {letter a b : ℕ} {c : Call} → Say vars letter a b c → word_call vars letter a b ≡ some c
  unfolding kind_of
  say (words_b v) = refl
  say words_y = refl
  say (words_w high low) = refl
  say (words_i v) = refl
  say (words_o v) = refl
  say (words_g p) = refl
  say (words_e code reason) = refl
  say (words_u code) = refl
  say (words_k level) = refl
  say (words_r v) = refl
  say (words_f from count few within) = rw (le-leb count max_group few, le-leb (from + count) (length vars) within)

  pub words_said : (letter a b : ℕ) (c : Call) → (word_call vars letter a b ≡ some c) ↔ Say vars letter a b c
  words_said letter a b c = (read letter a b c, say)
