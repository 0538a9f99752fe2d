use Rattle.module.proofs.Prelude.{◌≡◌, ◌++◌, ◌∷◌, List, ℕ, refl, ap, ◌∙◌, text_of, sent_of}
use Rattle.std.proofs.Common.{[], subst}
use Rattle.module_meaning.specs.Module.{fault_line}
use Rattle.lone_partition.specs.Sent.{HasSent}
use Rattle.module.proofs.member.Members.tell_fault.Goals as goal

pub returns : goal.returns
returns g c =
    let one : c.tell.new.self.text ≡ text_of (fault_line c.args.moment.at c.args.action ∷ []) =
    c.tell.ensures.held ∙ ap (λ before. before ++ text_of (fault_line c.args.moment.at c.args.action ∷ [])) c.clear.ensures in
    record { state = refl; sent = subst (λ (text : List ℕ). HasSent (sent_of g.S.Sink c.args.output.now) (sent_of g.S.Sink c.write.new.self) text) one c.write.ensures }
