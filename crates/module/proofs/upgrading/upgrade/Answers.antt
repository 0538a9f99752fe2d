use Rattle.module.proofs.Prelude.{rules, ◌≡◌, ℕ, List, Ok, refl, ap, ◌∙◌, image_at, spelling, spelled_is_read, image_of}
use Rattle.machine_meaning.specs.Image.{upgraded}
use Rattle.machine_laws.proofs.Widened.{upgraded_lawful}
use Rattle.module.proofs.upgrading.upgrade.Goals as goal

pub returns-clause-upgraded : goal.returns-clause-upgraded
returns-clause-upgraded c =
    let old = c.in_ok-image.image in
    let image = image_of old in
    let spelled : c.in_ok-write_image.field-0.items ≡ spelling (image_of c.upgraded.result) = c.in_ok-write_image.ensures.spelled in
    let written : c.in_ok-write_image.field-0.items ≡ spelling (upgraded image) = spelled ∙ ap spelling c.upgraded.ensures in
    record {
      image = image;
      loaded = c.in_ok-image.ensures;
      read = ap image_at written ∙ spelled_is_read (upgraded image) (upgraded_lawful image old.lawful);
      taken = λ text. refl;
      same = λ lines n. refl;
    }
