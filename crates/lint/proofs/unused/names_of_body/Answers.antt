use Rattle.std.proofs.Common.{◌≡◌, ℕ, List, ap, ◌∙◌, subst}
use Rattle.std.specs.Prelude.{IfOk}
use Rattle.pal_base.specs.View.{body_of, texts}
use Rattle.lint.specs.Mentions.{Mention, mentions_of, names_in}
use Rattle.lint.specs.Unused.{is_used}
use Rattle.lint.specs.UsedNames.{used_names}
use Rattle.lint.specs.Views.{mentions_seen}
use Rattle.lint.proofs.unused.names_of_body.Goals as goal

pub returns : goal.returns
returns c =
    let names = texts c.args.names.now.keys in
    let all : mentions_seen names c.deref.result.now ≡ mentions_of (body_of names c.args.body.now) = ap (mentions_seen names) c.deref.ensures.value ∙ c.in_ok-mentions.ensures in
    subst (λ (ms : List Mention). IfOk c.of.result (λ known. (q : List ℕ) → is_used (used_names known) q ≡ is_used (names_in ms) q)) all c.of.ensures
