use Rattle.std.proofs.Common.{◌≡◌, ◌==◌, ◌&&◌, Bool, true, if◌then◌else◌, Option, Some, None, option_map, ap, sym, ◌∙◌, arith}
use Rattle.apex_types.specs.declared.denotation.ObjectKind.{ObjectKind}
use Rattle.lint.specs.Mentions.{Failure, object_thing}
use Rattle.lint.specs.Services.{is_error_status, numbered_kind}
use Rattle.lint.specs.Views.{plain_of}
use Rattle.lint.proofs.mentions.thing_at.Goals as goal

pub returns-then-place-eq1 : goal.returns-then-place-eq1
returns-then-place-eq1 c = λ names.
    let argument = option_map (plain_of names) c.args.argument in
    let is_one : (c.args.place == 1) ≡ true = grind (arith, c.if-place-eq1.true) in
    c.object_thing.ensures names ∙ ap (λ (k : Option ObjectKind). object_thing k argument) c.numbered_kind.ensures
    ∙ ap (λ (b : Bool). if b then object_thing (numbered_kind c.args.service) argument else (if is_error_status c.args.service && (c.args.place == 2) then Some Failure else None)) (sym is_one)
