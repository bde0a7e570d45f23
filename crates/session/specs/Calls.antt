-- The call of the book that a call of the code is, with the variables of a group beside it; and which call is a group.
use Rattle.std.specs.Prelude.{ℕ, ◌≡◌, refl, ◌↔◌, Bool, true, false, List}
use Rattle.std.proofs.lemmas.Bool.{false≢true}
use Rattle.std.proofs.Common.{arith}
use Rattle.session.specs.declared.Call as code
use Rattle.session.specs.declared.Call.TheVariants as variant
use Rattle.book.specs.Calls.{Call, bump, decay, set_decay, insert, switch_off, decide, enqueue, learn_unit, go_back, bump_reason, group}

abbrev pub call_of : code.Call → List ℕ → Call
call_of (variant.Bump v) vs = bump v
call_of variant.Decay vs = decay
call_of (variant.SetDecay d) vs = set_decay d
call_of (variant.Insert v) vs = insert v
call_of (variant.SwitchOff v) vs = switch_off v
call_of (variant.Decide p) vs = decide p
call_of (variant.Enqueue c r) vs = enqueue c r
call_of (variant.LearnUnit c) vs = learn_unit c
call_of (variant.GoBack l) vs = go_back l
call_of (variant.BumpReason v) vs = bump_reason v
call_of variant.Group vs = group vs

-- a group, and no other call
abbrev pub is_group : code.Call → Bool
is_group (variant.Bump v) = false
is_group variant.Decay = false
is_group (variant.SetDecay d) = false
is_group (variant.Insert v) = false
is_group (variant.SwitchOff v) = false
is_group (variant.Decide p) = false
is_group (variant.Enqueue c r) = false
is_group (variant.LearnUnit c) = false
is_group (variant.GoBack l) = false
is_group (variant.BumpReason v) = false
is_group variant.Group = true

never : {c : code.Call} → (c ≡ variant.Group → ◌≡◌ {A = ℕ} 0 1) → (false ≡ true) ↔ (c ≡ variant.Group)
never other = (λ e. absurd (false≢true e), λ e. absurd (let z = other e in omega arith))

-- so it says of each call
pub group_exactly : (c : code.Call) → (is_group c ≡ true) ↔ (c ≡ variant.Group)
group_exactly (variant.Bump v) = never (λ e. cc)
group_exactly variant.Decay = never (λ e. cc)
group_exactly (variant.SetDecay d) = never (λ e. cc)
group_exactly (variant.Insert v) = never (λ e. cc)
group_exactly (variant.SwitchOff v) = never (λ e. cc)
group_exactly (variant.Decide p) = never (λ e. cc)
group_exactly (variant.Enqueue c r) = never (λ e. cc)
group_exactly (variant.LearnUnit c) = never (λ e. cc)
group_exactly (variant.GoBack l) = never (λ e. cc)
group_exactly (variant.BumpReason v) = never (λ e. cc)
group_exactly variant.Group = (λ e. refl, λ e. refl)
