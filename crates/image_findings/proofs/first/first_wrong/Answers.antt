use Rattle.std.proofs.Common.{rules, ◌≡◌, [], Some, ◌∙◌, sym, ap, option_copied, option_map}
use Rattle.module_meaning.specs.DeviceText.{pieces_behind_marks}
use Rattle.image_findings.specs.First.{line_wrong}
use Rattle.image_findings.specs.What.{Wrong}
use Rattle.text_lines.specs.Pieces.{pieces_of}
use Rattle.image_findings.specs.Views.{names_of, wrong_of}
use Rattle.image_findings.proofs.Lines.{no_line_feed, no_more, wrong_line}
use Rattle.image_findings.proofs.first.first_wrong.Goals as goal

pub returns-in_default : goal.returns-in_default
returns-in_default c =
    let none : pieces_behind_marks 10 c.loop-rest.rest.now ≡ [] = search rules in
    ap (λ (w : Wrong). Some w) c.unended.ensures
    ∙ sym (c.loop-rest.invariant.rest ∙ no_line_feed (names_of c.args.names.now) c.loop-rest.count c.loop-rest.before c.loop-rest.rest.now (search rules) none)

pub returns-in-Some : goal.returns-in-Some
returns-in-Some c =
    let front = c.split_at.result.0.now in
    let said : Some (wrong_of c.in-Some.wrong) ≡ line_wrong (names_of c.args.names.now) c.loop-rest.count c.loop-rest.before front =
    sym (ap (option_map wrong_of) c.in-Some.is) ∙ c.in_ok-wrong.ensures in
    ap (λ (w : Wrong). Some w) c.in_text.ensures
    ∙ sym (c.loop-rest.invariant.rest
    ∙ wrong_line (names_of c.args.names.now) c.loop-rest.count c.loop-rest.before c.loop-rest.rest.now front c.in_default-Some.behind.now (wrong_of c.in-Some.wrong)
    c.split_at.ensures.front (c.split_at.ensures.behind ∙ ap (λ o. pieces_of 10 (option_copied o)) c.in_default-Some.is-1) said)

pub returns : goal.returns
returns c =
    sym (c.loop-rest.invariant.rest ∙ no_more (names_of c.args.names.now) c.loop-rest.count c.loop-rest.before c.loop-rest.rest.now (search rules))
