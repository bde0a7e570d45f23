-- The literals of a session in list mode say how its list is made fresh, and nothing else: lines that are answered over some literals are so over any.
use Rattle.std.specs.Prelude.{ℕ, ◌≡◌, refl, Bool, true, false, cond, List, [], ◌∷◌, length, ltb}
use Rattle.std.proofs.Common.{ap, ◌∙◌}
use Rattle.std.proofs.Math.Option.{Option, none, some}
use Rattle.trail.specs.Trail.{backtrack_safe, undone}
use Rattle.vmtf.specs.Vmtf.{Vmtf}
use Rattle.vmtf.specs.Vmtf as vmtf
use Rattle.choosers.specs.List.{list_ops}
use Rattle.book.specs.Calls.{Call, bump, decay, set_decay, insert, switch_off, decide, enqueue, learn_unit, go_back, bump_reason, group}
use Rattle.book.specs.Chooser.{Next, chose, nothing, stuck}
use Rattle.book.specs.Session.{Result, done, refuse, mapped, need, Session, offer_all, went_back, enqueued, tuned, decided, call}
use Rattle.book.specs.Read.{called}
use Rattle.forms.specs.Forms.{call_in}
use Rattle.sheet.specs.declared.Place.{Place}
use Rattle.sheet.specs.Stages.{in_list}
use Rattle.sheet.proofs.Replies.{list_reply}
use Rattle.lines.specs.Lines.{Stands, Went}
use Rattle.list_entry.specs.Checked.{list_sound}
use Rattle.list_sheet.specs.Lines.{ListAlong}

need_mapped : {S T : Type 0} (f : S → T) (b : Bool) (k : ℕ) (x : Result S) {y : Result T} → y ≡ mapped f x → need b k y ≡ mapped f (need b k x)
unfolding need
need_mapped f true k x e = e
need_mapped f false k x e = refl

mapped_twice : {S T U : Type 0} (f : S → T) (g : T → U) (x : Result S) → mapped g (mapped f x) ≡ mapped (λ s. g (f s)) x
mapped_twice f g (done r s) = refl
mapped_twice f g (refuse k) = refl

module _ (n m : ℕ) (a b : List ℕ) where
  abbrev A : Type 0
  A = Session n m (list_ops n a)

  abbrev B : Type 0
  B = Session n m (list_ops n b)

  -- the same session over other literals
  abbrev pub over : A → B
  over s = record { trail = s.trail; chooser = s.chooser }

  offered : (vs : List ℕ) (c : Vmtf) → offer_all n m (list_ops n b) vs c ≡ offer_all n m (list_ops n a) vs c
  unfolding offer_all
  offered [] c = refl
  offered (v ∷ vs) c = offered vs (vmtf.insert v c)

  back_over : (l : ℕ) (s : A) → went_back n m (list_ops n b) l (over s) ≡ over (went_back n m (list_ops n a) l s)
  unfolding went_back
  back_over l s = ap (λ (c : Vmtf). let u : B = record { trail = backtrack_safe l s.trail; chooser = cond (ltb l s.trail.level) c s.chooser } in u) (offered (undone l s.trail) s.chooser)

  enqueued_over : (code reason : ℕ) (s : A) → enqueued n m (list_ops n b) code reason (over s) ≡ over (enqueued n m (list_ops n a) code reason s)
  unfolding enqueued
  enqueued_over code reason s = refl

  tuned_over : (s : A) (c : Option Vmtf) → tuned n m (list_ops n b) (over s) c ≡ mapped over (tuned n m (list_ops n a) s c)
  unfolding tuned
  tuned_over s none = refl
  tuned_over s (some c) = refl

  decided_over : (p : ℕ) (s : A) (x : Next Vmtf) → decided n m (list_ops n b) p (over s) x ≡ mapped over (decided n m (list_ops n a) p s x)
  unfolding decided
  decided_over p s (chose v c) = refl
  decided_over p s (nothing c) = refl
  decided_over p s stuck = refl

  call_over : (s : A) (c : Call) → call n m (list_ops n b) (over s) c ≡ mapped over (call n m (list_ops n a) s c)
  unfolding call
  call_over s (bump v) = need_mapped over _ _ _ (tuned_over s _)
  call_over s decay = tuned_over s _
  call_over s (set_decay d) = need_mapped over _ _ _ (tuned_over s _)
  call_over s (insert v) = need_mapped over _ _ _ refl
  call_over s (switch_off v) = need_mapped over _ _ _ refl
  call_over s (decide p) = need_mapped over _ _ _ (decided_over p s _)
  call_over s (enqueue code reason) = need_mapped over _ _ _ (need_mapped over _ _ _ (need_mapped over _ _ _ (ap (done none) (enqueued_over code reason s))))
  call_over s (learn_unit code) = rw (back_over 0 s) (need_mapped over _ _ _ (need_mapped over _ _ _ (ap (done none) (enqueued_over code _ (went_back n m (list_ops n a) 0 s)))))
  call_over s (go_back l) = rw (back_over l s) refl
  call_over s (bump_reason v) = need_mapped over _ _ _ (tuned_over s _)
  call_over s (group vs) = need_mapped over _ _ _ (tuned_over s _)

  called_over : (s : A) (c : Option Call) → called n m (list_ops n b) (over s) c ≡ mapped over (called n m (list_ops n a) s c)
  unfolding called
  called_over s none = refl
  called_over s (some c) = call_over s c

module _ (n : ℕ) (ends a b : List ℕ) where
  over_stands : Stands (list_sound n (length ends) a ends).Good (λ s. in_list n b ends (over n (length ends) a b s))
  unfolding list_sound
  over_stands =
      let m = length ends in
      record {
        mode = record {
          meets_it = λ s line. refl;
          its_turn = λ s line. ap (mapped (in_list n b ends)) (called_over n m a b s (call_in line)) ∙ mapped_twice (over n m a b) (in_list n b ends) (called n m (list_ops n a) s (call_in line));
        };
        replies = λ s good c. list_reply n m a good.list.0 s good.small good.trail good.list.1 c;
      }

  -- what was answered over the literals a is answered over b
  pub along_over_any : {sheet out out' : List ℕ} {p q : Place} {s u : Session n (length ends) (list_ops n a)} → Went (list_sound n (length ends) a ends).Good sheet p s out q u out'
      → ListAlong n b ends sheet p (over n (length ends) a b s) out q (over n (length ends) a b u) out'
  unfolding list_sound
  along_over_any w =
      let x = w.along (λ s. in_list n b ends (over n (length ends) a b s)) over_stands in
      record { room = x.room; good = x.good; end = x.end; out_same = x.out_same }
