-- What an answer of code tells of what was read. Assumes nothing.
use Rattle.std.specs.Prelude.{◌≡◌, ℕ, ◌<◌, ◌≤◌, cond, List, length, take, drop, nat_le, Some, None, option_map, MatchOption, IsSomeAnd, refl}
use Rattle.std.specs.Prelude as code
use Rattle.std.proofs.Math.Path.{sym, ap}
use Rattle.std.proofs.Common.{◌∙◌}
use Rattle.std.proofs.Math.Option.{Option, none, some}
use native.Mathlib.Omega.{arith}
use borrow.Author.Tests.{le-leb, lt-leb}
use Rattle.lit.specs.Numbers.{max_group}
use Rattle.forms.specs.declared.text.Field.{Field}
use Rattle.forms.specs.TextRead.{field_of}
use Rattle.book.specs.Calls.{Call, group}
use Rattle.laws.specs.Options.{as_code}
use Rattle.session.specs.declared.Call as calls
use Rattle.forms.specs.declared.Asked as asked
use Rattle.forms.specs.declared.Asked.TheVariants as an_asked
use Rattle.forms.specs.declared.Mode as mode
use Rattle.forms.specs.Forms.{Mode, given, numbers}
use Rattle.forms.specs.Behind.{behind}
use Rattle.forms.specs.Read.{call_read, asked_call, mode_of, first_of, Counted, Fits, GroupRead, group_on}
use Rattle.forms.specs.Short.{listed_short}

pub field_is : (o : Option ℕ) (end : ℕ) {f : Field} → field_of end o ≡ Some f → (o ≡ some f.value) × (f.end ≡ end)
field_is none end e = let z : ◌≡◌ {A = ℕ} 0 1 = cc in absurd (omega arith)
field_is (some n) end e = (cc, cc)

pub field_nothing : (o : Option ℕ) (end : ℕ) → field_of end o ≡ None → o ≡ none
field_nothing none end e = refl
field_nothing (some n) end e = let z : ◌≡◌ {A = ℕ} 0 1 = cc in absurd (omega arith)

-- a mode was read behind a number of variables
pub opening_told : (n : ℕ) (o : Option Mode) {r : code.Option mode.Mode} → r ≡ option_map mode_of (as_code o) → option_map (λ m. record { mode = m; vars = n }) r ≡ first_of (given o (λ m. some (record { vars = n; mode = m })))
opening_told n none e = rw e
opening_told n (some m) e = rw e

-- a call was read, and is what is asked for
pub asked_told : (g : Option Call) (o : code.Option calls.Call) (r : code.Option asked.Asked) → MatchOption o (r ≡ None) (λ c. IsSomeAnd r (λ a. a ≡ an_asked.Is c)) → asked_call g r ≡ call_read o
asked_told g None r h = rw h
asked_told g (Some c) None h = absurd h
asked_told g (Some c) (Some a) h = rw h

-- k numbers were read, and stand in out if it has room for them
pub record Held (o : Option (List ℕ)) (k : ℕ) (out : List ℕ) : Type 0 where
  pub numbers : List ℕ
  pub is : o ≡ some numbers
  pub count : length numbers ≡ k
  pub held : k ≤ length out → take k out ≡ numbers

module _ {r : code.Option ℕ} (out : List ℕ) where
  pub counted_none : (o : Option (List ℕ)) → Counted o r out → r ≡ None → o ≡ none
  counted_none none c e = refl
  counted_none (some ns) c e = let d = c.0 in let z : ◌≡◌ {A = ℕ} 0 1 = cc in absurd (omega arith)

  pub counted_some : (o : Option (List ℕ)) {k : ℕ} → Counted o r out → r ≡ Some k → Held o k out
  counted_some none c e = let z : ◌≡◌ {A = ℕ} 0 1 = cc in absurd (omega arith)
  counted_some (some ns) {k} c e =
      let d = c.0 in
      let same : length ns ≡ k = cc in
      record { numbers = ns; is = refl; count = same; held = rw same at c.1 }

-- a group: its numbers, unless they are too many
given_twice : {A B C : Type 0} (o : Option A) (f : A → Option B) (g : B → Option C) → given o (λ x. given (f x) g) ≡ given (given o f) g
given_twice none f g = refl
given_twice (some x) f g = refl

grouped : List ℕ → Option Call
grouped vs = cond (nat_le (length vs) max_group) (some (group vs)) none

module _ (line vars : List ℕ) where
  abbrev listed : Option (List ℕ)
  listed = given (behind (drop 1 line)) numbers

  group_of : group_on line ≡ given listed grouped
  unfolding grouped
  group_of = given_twice (behind (drop 1 line)) numbers grouped

  pub group_bad : listed ≡ none → GroupRead line None vars
  group_bad e = record { is = sym (group_of ∙ rw e); within = omega arith; few = omega arith }

  module _ {k : ℕ} (h : Held listed k vars) where
    pub group_long : max_group < k → GroupRead line None vars
    unfolding grouped
    group_long l = record { is = sym (group_of ∙ rw (h.is, h.count, lt-leb k max_group l)); within = omega arith; few = omega arith }

    pub group_is : k ≤ max_group → {lent : List ℕ} → Fits line lent → length vars ≡ length lent → GroupRead line (Some k) vars
    unfolding grouped
    group_is l f e =
        let within : k ≤ length vars = omega (arith, f.fits k l (omega (arith, listed_short line h.numbers h.is, h.count))) in
        record { is = ap (λ (vs : List ℕ). some (group vs)) (h.held within) ∙ sym (group_of ∙ rw (h.is, h.count, le-leb k max_group l)); within = within; few = l }
