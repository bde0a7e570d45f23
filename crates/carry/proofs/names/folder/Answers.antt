use Rattle.std.proofs.Common.{arith, rules, inl, inr, Some, None}
use Rattle.std.proofs.lemmas.Str.Pattern.{rfind_char}
use Rattle.carry.proofs.names.folder.Goals as goal

pub returns-in-Some : goal.returns-in-Some
returns-in-Some c =
    let found = rfind_char 47 c.args.file.now (Some c.in-Some.at) c.in-Some.ensures.cases (omega arith) in
    inl (c.in-Some.at, found.0, found.1, (λ i behind. found.2 i (omega (arith, behind))), search (rules, c.range.ensures.value))

pub returns-in-None : goal.returns-in-None
returns-in-None c =
    let found = rfind_char 47 c.args.file.now None c.in-None.ensures.cases (omega arith) in
    inr ((λ i _. found i), search rules)
