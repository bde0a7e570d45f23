-- `forms::text::digits_at` meets its contract: what is left of the digits still decides, and a number that has no room for a digit more is too great with it.
use Rattle.std.proofs.Common.{get_or, ◌+◌, ◌-◌, ◌*◌, ◌<◌, ◌≤◌, length, sym, ◌∙◌, arith}
use Rattle.forms.proofs.Digits.{Left, begun, more, nothing, leading, too_great, the_number, in_front, no_digit, no_byte, digit_small}
use Rattle.forms.proofs.text.digits_at.Goals as goal
use Rattle.forms.proofs.text.digits_at.Goals.{Else-at-bytes, Else-is_full, In-Some, then-zero_leads-via-then-zero_leads, then-zero_leads-via-else-zero_leads+then-is_full}

pub returns-then-at-bytes : goal.returns-then-at-bytes
returns-then-at-bytes c = let a = c.args in nothing a.bytes.now a.at a.top (no_byte a.bytes.now a.at (omega (arith, c.if-at-bytes.true)))

-- the first byte is one of the text
here : (c : Else-at-bytes) → c.args.at < length c.args.bytes.now
here c = omega (arith, c.requires, c.if-at-bytes.false)

pub returns-in_err-first : goal.returns-in_err-first
returns-in_err-first c =
    let a = c.args in
    c.from_residual.ensures ∙ nothing a.bytes.now a.at a.top (no_digit a.bytes.now a.at (here (goal.at.returns-in_err-first c).Else-at-bytes) c.in_err-first.ensures)

pub returns-then-first-top : goal.returns-then-first-top
returns-then-first-top c =
    let a = c.args in
    too_great _ _ _ _ _ (begun a.bytes.now a.at a.top c.in_ok-first.first (here (goal.at.returns-then-first-top c).Else-at-bytes) c.in_ok-first.ensures) c.if-first-top.true

pub loop-end-init : goal.loop-end-init
loop-end-init c =
    let a = c.args in
    (begun a.bytes.now a.at a.top c.in_ok-first.first (here (goal.at.loop-end-init c).Else-at-bytes) c.in_ok-first.ensures, omega arith, c.if-first-top.false, λ z. omega arith)

-- where the loop goes on, the byte is a digit
read-on : (c : In-Some) → let l = c.loop-end in let a = c.args in
    Left a.bytes.now a.at a.top (l.value * 10 + c.in-Some.d) (l.end + 1)
read-on c = let l = c.loop-end in let a = c.args in more a.bytes.now a.at a.top l.value l.end c.in-Some.d l.invariant.0 c.loop-end-test.true c.in-Some.ensures

pub returns-then-zero_leads : goal.returns-then-zero_leads
returns-then-zero_leads c =
    let a = c.args in
    let on = read-on (goal.at.returns-then-zero_leads c).In-Some in
    elim c.then-zero_leads.branch [
      | then-zero_leads-via-then-zero_leads w ↦ leading a.bytes.now a.at a.top (sym (in_front a.bytes.now a.at (c.loop-end.end - a.at) (omega (arith, c.loop-end.invariant.1))) ∙ c.zero_leads.ensures.leads w.if-zero_leads.true) (omega (arith, c.loop-end.invariant.1, on.ends))
      | then-zero_leads-via-else-zero_leads+then-is_full w ↦ too_great _ _ _ _ _ on (w.is_full.ensures.full w.if-is_full.true)
    ]

-- with which the number is not too great
within : (c : Else-is_full) → c.loop-end.value * 10 + c.in-Some.d ≤ c.args.top
within c = c.is_full.ensures.room c.if-is_full.false (digit_small (get_or c.args.bytes.now c.loop-end.end 0) c.in-Some.d c.in-Some.ensures)

pub overflow_mul-value : goal.overflow_mul-value
overflow_mul-value c = omega (arith, within (goal.at.overflow_mul-value c).Else-is_full, c.ranges.top.fits)

pub overflow_add-value : goal.overflow_add-value
overflow_add-value c = omega (arith, within (goal.at.overflow_add-value c).Else-is_full, c.ranges.top.fits)

pub loop-end-preserved : goal.loop-end-preserved
loop-end-preserved c =
    let a = c.args in (
      read-on (goal.at.loop-end-preserved c).In-Some,
      omega (arith, c.loop-end.invariant.1),
      within (goal.at.loop-end-preserved c).Else-is_full,
      λ z. absurd (c.zero_leads.ensures.other c.if-zero_leads.false (in_front a.bytes.now a.at (c.loop-end.end - a.at) (omega (arith, c.loop-end.invariant.1)) ∙ z)),
    )

pub returns-after-loop-end : goal.returns-after-loop-end
returns-after-loop-end c =
    let a = c.args in
    let l = c.loop-end in
    the_number a.bytes.now a.at a.top l.value l.end l.invariant.0 (no_byte a.bytes.now l.end c.loop-end-test.false) l.invariant.1 l.invariant.2 l.invariant.3

pub returns-in_default : goal.returns-in_default
returns-in_default c =
    let a = c.args in
    let l = c.loop-end in
    the_number a.bytes.now a.at a.top l.value l.end l.invariant.0 (no_digit a.bytes.now l.end c.loop-end-test.true c.in_default.ensures) l.invariant.1 l.invariant.2 l.invariant.3
