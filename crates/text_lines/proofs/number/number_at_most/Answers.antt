use Rattle.std.proofs.Common.{ℕ, ◌+◌, ◌-◌, ◌*◌, drop, get_or, sym, ap, ◌∙◌}
use Rattle.std.specs.Prelude.{fold}
use Rattle.std.proofs.lemmas.List.{drop_more}
use Rattle.engine_meaning.specs.Digits.{decimal_value}
use Rattle.module_meaning.specs.DeviceText.{if_at_most}
use Rattle.text_lines.proofs.Decimals.{stays_above}
use Rattle.text_lines.proofs.number.number_at_most.Goals as goal

pub returns-in-None : goal.returns-in-None
unfolding decimal_value
returns-in-None c =
    let i = c.loop-digit.digit-index in
    sym (ap (if_at_most c.args.most) (c.loop-digit.invariant.1 ∙ ap (λ ds. fold (λ (n d : ℕ). n * 10 + (d - 48)) c.loop-digit.value ds) (drop_more c.args.digits.now i 0 c.loop-digit-test.true))
    ∙ stays_above c.args.most (drop (i + 1) c.args.digits.now) (c.loop-digit.value * 10 + (get_or c.args.digits.now i 0 - 48)) c.in-None.ensures)
