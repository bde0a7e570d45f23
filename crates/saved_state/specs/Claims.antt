-- The claims on saving, for any mode that owes what `Sound` says: what is read is what was written, and nothing else is taken. Assumes nothing.
use Rattle.std.specs.Prelude.{ℕ, ◌≡◌, ◌↔◌, ◌⊎◌, Bool, List}
use Rattle.std.proofs.Math.Path.{refl, sym, ap}
use Rattle.std.proofs.Common.{subst, ◌∙◌, ⊎_elim, arith}
use Rattle.std.proofs.Math.Logic.{inl, inr}
use Rattle.std.proofs.Math.Bool.{true, false, false≢true}
use Rattle.std.proofs.Math.Option.{Option, none, some, none-ne-some}
use Rattle.lit.specs.Numbers.{bad_saved}
use Rattle.formula.specs.Good.{GoodClauses}
use Rattle.book.specs.Session.{Result, done, refuse, status, leaves, need}
use Rattle.forms.specs.Forms.{Mode, vsids, vmtf}
use Rattle.saved_text.specs.Saved.{Saved, text_of}
use Rattle.saved_text.specs.Reading.{read_text}
use Rattle.saved_text.specs.Read.{read_said, text_once}
use Rattle.saved_state.specs.Written.{saved_of}
use Rattle.saved_state.specs.Entry.{same_mode, Reader, Memory, memory_said, read_into, read}
use Rattle.saved_state.specs.Judged.{Says, same_lengths, Judged}
use Rattle.saved_state.specs.Sound.{forgotten, Sound, saved_memory, IsText, saved_formed, saved_again, saved_back, judged, never_form, was_taken, is_taken}

same_mode_lem : (a b : Mode) → same_mode a b ≡ true → b ≡ a
same_mode_lem vsids vsids e = refl
same_mode_lem vsids vmtf e = absurd (false≢true e)
same_mode_lem vmtf vsids e = absurd (false≢true e)
same_mode_lem vmtf vmtf e = refl

mode_same : (a b : Mode) → b ≡ a → same_mode a b ≡ true
mode_same vsids b e = rw e
mode_same vmtf b e = rw e

module _ {C : Type 0} (R : Reader C) where
  -- what is read is one text
  one_said : {bytes : List ℕ} {s u : Saved} → Says R.mode bytes s → read_text bytes ≡ some u → s ≡ u
  one_said {bytes} {s} t e = let q = (read_said bytes s).1 (t.0, t.2) in cc (q, e)

  -- what is no text of this mode is refused with 15
  abbrev NoText : List ℕ → Type 0
  NoText bytes = ((s : Saved) → ¬ Says R.mode bytes s) × ((lent : Memory C) → read R bytes lent ≡ refuse bad_saved)

  said_or : (bytes : List ℕ) → ((s : Saved) × Says R.mode bytes s) ⊎ NoText bytes
  unfolding need
  said_or bytes = go (read_text bytes) refl
    where
      of : (s : Saved) → read_text bytes ≡ some s → (b : Bool) → same_mode R.mode s.opening.mode ≡ b → ((s : Saved) × Says R.mode bytes s) ⊎ NoText bytes
      of s e true q = let r = (read_said bytes s).0 e in inl (s, (r.0, same_mode_lem R.mode s.opening.mode q, r.1))
      of s e false q = inr (
        λ u t. false≢true (sym q ∙ mode_same R.mode s.opening.mode (ap (λ (x : Saved). x.opening.mode) (sym (one_said t e)) ∙ t.1)),
        λ lent. rw (e, q),
      )

      go : (o : Option Saved) → read_text bytes ≡ o → ((s : Saved) × Says R.mode bytes s) ⊎ NoText bytes
      go none e = inr (λ s t. none-ne-some s (sym e ∙ (read_said bytes s).1 (t.0, t.2)), λ lent. rw e)
      go (some s) e = of s e (same_mode R.mode s.opening.mode) refl

  -- a text is read as what it says
  read_text_lem : {bytes : List ℕ} {s : Saved} → Says R.mode bytes s → (lent : Memory C) → read R bytes lent ≡ read_into R s lent
  unfolding need
  read_text_lem {bytes} {s} t lent = rw ((read_said bytes s).1 (t.0, t.2), mode_same R.mode s.opening.mode t.1)

  module _ (S : Sound R) where
    -- 4, 5, 6, 7, or taken: by what the text says
    pub text_judged : {bytes : List ℕ} {s : Saved} → Says R.mode bytes s → (lent : Memory C) → Judged R S.Good s lent (read R bytes lent)
    text_judged {s = s} t lent = rw (read_text_lem t lent) (judged R S s lent t.0 t.1)

    -- 15: exactly where the bytes are no text of this mode
    pub no_form : (bytes : List ℕ) (lent : Memory C) → (status (read R bytes lent) ≡ bad_saved) ↔ ((s : Saved) → ¬ Says R.mode bytes s)
    no_form bytes lent = (
      λ e s t. never_form R (text_judged t lent) e,
      λ f. ⊎_elim (λ t. absurd (f t.0 t.1)) (λ n. rw (n.1 lent)) (said_or bytes),
    )

    -- what is written of a good session is a text of this mode
    says : {n : ℕ} {x : Memory C} → S.Good n x → Says R.mode (text_of (saved_memory R S n x)) (saved_memory R S n x)
    unfolding saved_of
    says {n} {x} g = (saved_formed R S n x g, refl, refl)

    -- The text of a good session, read into memory of its lengths, is taken, and leaves the session with the levels of unassigned variables forgotten.
    pub read_wrote : (n : ℕ) (x lent : Memory C) → S.Good n x → same_lengths R n x lent ≡ true → read R (text_of (saved_memory R S n x)) lent ≡ done none (forgotten x)
    unfolding saved_of
    read_wrote n x lent g l =
        let s = saved_memory R S n x in
        let again : memory_said R s ≡ forgotten x = saved_again R S n x g in
        is_taken R (text_judged (says g) lent) (S.small n x g)
        (subst (λ (y : Memory C). same_lengths R n y lent ≡ true) (sym again) l)
        (subst (λ (y : Memory C). GoodClauses n y.0 y.1) (sym again) (S.clauses n x g))
        (subst (λ (y : Memory C). S.Good n y) (sym again) (S.forgets n x g))
        ∙ ap (done none) again

    -- What is taken is the text of the session that it leaves, which is good; and the memory had its lengths.
    pub wrote_read : (bytes : List ℕ) (lent : Memory C) → status (read R bytes lent) ≡ 0 → let left = leaves lent (read R bytes lent) in (n : ℕ) × IsText R S bytes n left × (same_lengths R n left lent ≡ true)
    wrote_read bytes lent e = go (said_or bytes)
      where
        go : ((s : Saved) × Says R.mode bytes s) ⊎ NoText bytes → let left = leaves lent (read R bytes lent) in (n : ℕ) × IsText R S bytes n left × (same_lengths R n left lent ≡ true)
        go (inl (s, t)) =
            let w = was_taken R (text_judged t lent) e in
            let back = saved_back R S s t.0 t.1 w.1 in
            rw w.2 (s.opening.vars, (w.1, t.2 ∙ ap text_of (sym back)), w.0)
        go (inr n) = absurd (omega (arith, e, ap (λ (r : Result (Memory C)). status r) (n.1 lent)))

    -- So reading replies 0 exactly where the bytes are the text of a good session, and the memory has its lengths.
    pub accepted_exactly : (bytes : List ℕ) (lent : Memory C) → (status (read R bytes lent) ≡ 0) ↔ ((n : ℕ) × (x : Memory C) × IsText R S bytes n x × (same_lengths R n x lent ≡ true))
    accepted_exactly bytes lent = (
      λ e. (let r = wrote_read bytes lent e in (r.0, leaves lent (read R bytes lent), r.1, r.2)),
      λ (n, x, t, l). rw (t.1, read_wrote n x lent t.0 l),
    )

    -- the levels of unassigned variables are not written
    same_text : (n : ℕ) (x : Memory C) → S.Good n x → saved_memory R S n (forgotten x) ≡ saved_memory R S n x
    unfolding saved_of
    same_text n x g =
        let s = saved_memory R S n x in
        let again = saved_again R S n x g in
        ap (λ (y : Memory C). saved_memory R S n y) (sym again) ∙ saved_back R S s (saved_formed R S n x g) refl (subst (λ (y : Memory C). S.Good n y) (sym again) (S.forgets n x g))

    -- Two good sessions have one text exactly where they differ in levels of unassigned variables alone.
    pub one_text : (n k : ℕ) (x y : Memory C) → S.Good n x → S.Good k y → (text_of (saved_memory R S n x) ≡ text_of (saved_memory R S k y)) ↔ ((n ≡ k) × (forgotten x ≡ forgotten y))
    unfolding saved_of
    one_text n k x y g h =
        let s = saved_memory R S n x in
        let u = saved_memory R S k y in (
          λ e. (let same : s ≡ u = text_once s u (saved_formed R S n x g) (saved_formed R S k y h) e in
              (ap (λ (z : Saved). z.opening.vars) same, sym (saved_again R S n x g) ∙ ap (λ (z : Saved). memory_said R z) same ∙ saved_again R S k y h)),
          λ (e, f). ap text_of (sym (same_text n x g) ∙ (λ i. saved_memory R S (e i) (f i)) ∙ same_text k y h),
        )
