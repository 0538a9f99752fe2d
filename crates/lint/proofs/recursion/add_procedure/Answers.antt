use Rattle.std.proofs.Common.{◌≡◌, ◌++◌, Bool, List, map, ap, sym, subst, ◌∙◌}
use Rattle.std.specs.Prelude.{OnOk}
use Rattle.pal_base.specs.View.{body_of, name_of, texts}
use Rattle.lint.specs.Mentions.{Mention, mentions_of}
use Rattle.lint.specs.Recursion.{is_endless}
use Rattle.lint.specs.Views.{Found, found_all, if_so, mentions_seen}
use Rattle.lint.specs.declared.finding.FindingKind.TheVariants as finding
use Rattle.lint.proofs.recursion.add_procedure.Goals as goal

pub returns-in_ok-mentions-in-Procedure : goal.returns-in_ok-mentions-in-Procedure
returns-in_ok-mentions-in-Procedure c =
    let names = texts c.args.names.now.keys in
    let name = name_of names c.args.declaration.now.name in
    let parameters = map (name_of names) c.in-Procedure.parameters.items in
    let done = mentions_of (body_of names c.in-Procedure.body) in
    let all : mentions_seen names c.deref-in-Procedure.result.now ≡ done = ap (mentions_seen names) c.deref-in-Procedure.ensures.value ∙ c.in_ok-mentions-in-Procedure.ensures in
    let endless : c.is_endless.result ≡ is_endless name parameters done =
    c.is_endless.ensures ∙ ap (λ (ps : List _). is_endless name (map (name_of names) ps) (mentions_seen names c.deref-in-Procedure.result.now)) c.deref.ensures.value ∙ ap (λ (ms : List Mention). is_endless name parameters ms) all in
    let found : List Found → Type 0 = λ fs. OnOk c.add_if.result (found_all c.add_if.new.findings.items ≡ found_all c.args.findings.now.items ++ fs) in
    rw c.in-Procedure.is
    (subst found (ap (λ (b : Bool). if_so b (record { kind = finding.EndlessRecursion; subject = name })) endless)
    (rw c.text_of.ensures at c.add_if.ensures))
