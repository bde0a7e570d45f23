-- The claim that all cases share: its start is good, and from there its calls get its answers, one each and in order, and leave its end.
use Rattle.std.specs.Prelude.{◌≡◌, Bool, true, List, [], ◌∷◌}
use Rattle.std.proofs.Common.{sym, ap, ◌∙◌}

-- What takes calls: its states, the fresh one, the test of a good one, and what a call answers and leaves.
pub record Machine : Type 1 where
  pub State : Type 0
  pub Call : Type 0
  pub Answer : Type 0
  pub fresh : State
  pub good : State → Bool
  pub step : State → Call → Answer × State

module _ (M : Machine) where
  -- the answers to a list of calls, each call getting the state that the last one left, and the last state
  unfoldable pub play : M.State → List M.Call → List M.Answer × M.State
  play s [] = ([], s)
  play s (c ∷ cs) =
      let x = M.step s c in
      let rest = play x.1 cs in
      (x.0 ∷ rest.0, rest.1)

  pub record Case : Type 0 where
    pub start : M.State
    pub calls : List M.Call
    pub answers : List M.Answer
    pub end : M.State

  abbrev pub Holds : Case → Type 0
  Holds c = (M.good c.start ≡ true) × (play c.start c.calls ≡ (c.answers, c.end))

  -- the claim leaves nothing open: a start and calls have one list of answers and one end
  pub one_outcome : (c d : Case) → c.start ≡ d.start → c.calls ≡ d.calls → Holds c → Holds d → (c.answers ≡ d.answers) × (c.end ≡ d.end)
  one_outcome c d s k h i =
      let same : ◌≡◌ {A = List M.Answer × M.State} (c.answers, c.end) (d.answers, d.end) = sym h.1 ∙ rw (s, k) i.1 in
      (ap (λ x. x.0) same, ap (λ x. x.1) same)
