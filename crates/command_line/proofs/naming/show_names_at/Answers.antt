use Rattle.std.proofs.Common.{ℕ, ◌+◌, List, map, refl, sym, subst, ap, ◌∙◌}
use Rattle.std.specs.Prelude.{Err}
use Rattle.machine_meaning.specs.ImageReading.{image_at}
use Rattle.pal_base.specs.WrittenView.{program_of}
use Rattle.pal_base.specs.declared.syntax.Program.{Program}
use Rattle.command_line.specs.declared.refusal.Refusal.TheVariants.{Write}
use Rattle.command_line.specs.Done.{IsBuiltIn, is_ok}
use Rattle.command_line.specs.Ends.{EndsNamed}
use Rattle.command_line.specs.Made.{made_in}
use Rattle.command_line.specs.Reading.{texts_of}
use Rattle.module.specs.NamedStates.{sources_of}
use Rattle.std.specs.Prelude.{Vec}
use Rattle.std.specs.declared.alloc.Global.{Global}
use Rattle.command_line.specs.Meant.{wanted_in}
use Rattle.command_line.specs.States.{state}
use Rattle.command_line.specs.Told.{IsOfFailed}
use Rattle.command_line.proofs.Answered.{refused_as}
use Rattle.command_line.proofs.NamedStates.{given_module, kept_names, names_of_whole, not_built, not_read}
use Rattle.command_line.proofs.Ran.{failed_by}
use Rattle.streams.specs.States.{seen}
use Rattle.command_line.proofs.naming.show_names_at.Goals as goal

pub returns-in_err-built : goal.returns-in_err-built
returns-in_err-built g c =
    let at = state g.F.Files.contents g.F.Files.failed g.F.Files.reads g.O.Sink.taken g.O.Sink.failures g.O.Stream.is_flushed in
    let words = c.args.wanted.words.state in
    let sources = map (λ s. s.now) c.args.wanted.words.sources.now in
    let before = at c.args.files.now c.args.out.now in
    let after = at c.module_named.new.files c.args.out.now in
    let r = c.in_err-built.field-0.0 in
    refused_as (EndsNamed words.image.now sources words.devices.now (wanted_in words) c.args.wanted.ticks before after) r c.from_residual.result c.from_residual.ensures
    (not_built words.image.now sources words.devices.now (wanted_in words) c.args.wanted.ticks before after r (c.in_err-built.ensures.unchanged, (refl, refl)) c.in_err-built.ensures.refused, c.in_err-built.ensures.named)

pub returns-in-Err : goal.returns-in-Err
returns-in-Err g c =
    let out = seen g.O.Sink.taken g.O.Sink.failures g.O.Stream.is_flushed in
    let files = g.F.Files.contents c.args.files.now in
    let words = c.args.wanted.words.state in
    let sources = map (λ s. s.now) c.args.wanted.words.sources.now in
    let image = c.as_slice.result.now in
    let made = sources_of (texts_of c.as_slice-3.result.now) (map program_of c.as_slice-4.result.now) in
    let of_image : IsBuiltIn files words.image.now sources image (made_in c.in_ok-built.built) =
    subst (λ (i : List ℕ). IsBuiltIn files words.image.now sources i (made_in c.in_ok-built.built)) (sym c.as_slice.ensures.value) c.in_ok-built.ensures.built in
    let of_texts : IsBuiltIn files words.image.now sources image (sources_of (texts_of c.as_slice-3.result.now) (map program_of c.in_ok-built.built.trees.items)) =
    subst (λ (ts : List (Vec ℕ Global)). IsBuiltIn files words.image.now sources image (sources_of (texts_of ts) (map program_of c.in_ok-built.built.trees.items))) (sym c.as_slice-3.ensures.value) of_image in
    let built : IsBuiltIn files words.image.now sources image made =
    subst (λ (ts : List Program). IsBuiltIn files words.image.now sources image (sources_of (texts_of c.as_slice-3.result.now) (map program_of ts))) (sym c.as_slice-4.ensures.value) of_texts in
    let given = given_module files (g.F.Files.contents c.module_named.new.files) words.image.now sources words.devices.now image made c.in_ok-devices.devices.items c.as_slice-2.result.now
    c.in_ok-built.ensures.unchanged c.as_slice-2.ensures.value built c.in_ok-devices.ensures.held in
    let same = c.in_ok-devices.ensures.unchanged ∙ c.in_ok-built.ensures.unchanged in (
      (
        failed_by (out c.args.out.now) (out c.named_state.new.sink) (Err c.in-Err.fault) c.in-Err.ensures.write c.in-Err.ensures.quiet,
        same,
        given.given,
        names_of_whole given (wanted_in words) c.args.wanted.ticks (g.O.Sink.taken c.args.out.now) (g.O.Sink.taken c.named_state.new.sink) (Err c.in-Err.fault) c.in-Err.ensures.text,
      ),
      c.in_ok-devices.ensures.noted ∙ c.in_ok-built.ensures.noted,
    )

pub returns-in_err-flush : goal.returns-in_err-flush
returns-in_err-flush g c =
    let at = state g.F.Files.contents g.F.Files.failed g.F.Files.reads g.O.Sink.taken g.O.Sink.failures g.O.Stream.is_flushed in
    let taken = g.O.Sink.taken in
    let files = g.F.Files.contents c.args.files.now in
    let words = c.args.wanted.words.state in
    let sources = map (λ s. s.now) c.args.wanted.words.sources.now in
    let image = c.as_slice.result.now in
    let made = sources_of (texts_of c.as_slice-3.result.now) (map program_of c.as_slice-4.result.now) in
    let of_image : IsBuiltIn files words.image.now sources image (made_in c.in_ok-built.built) =
    subst (λ (i : List ℕ). IsBuiltIn files words.image.now sources i (made_in c.in_ok-built.built)) (sym c.as_slice.ensures.value) c.in_ok-built.ensures.built in
    let of_texts : IsBuiltIn files words.image.now sources image (sources_of (texts_of c.as_slice-3.result.now) (map program_of c.in_ok-built.built.trees.items)) =
    subst (λ (ts : List (Vec ℕ Global)). IsBuiltIn files words.image.now sources image (sources_of (texts_of ts) (map program_of c.in_ok-built.built.trees.items))) (sym c.as_slice-3.ensures.value) of_image in
    let built : IsBuiltIn files words.image.now sources image made =
    subst (λ (ts : List Program). IsBuiltIn files words.image.now sources image (sources_of (texts_of c.as_slice-3.result.now) (map program_of ts))) (sym c.as_slice-4.ensures.value) of_texts in
    let given = given_module files (g.F.Files.contents c.module_named.new.files) words.image.now sources words.devices.now image made c.in_ok-devices.devices.items c.as_slice-2.result.now
    c.in_ok-built.ensures.unchanged c.as_slice-2.ensures.value built c.in_ok-devices.ensures.held in
    let same = c.in_ok-devices.ensures.unchanged ∙ c.in_ok-built.ensures.unchanged in
    refused_as (EndsNamed words.image.now sources words.devices.now (wanted_in words) c.args.wanted.ticks (at c.args.files.now c.args.out.now) (at c.read_as.new.files c.flush.new.self)) Write c.from_residual-in_err-flush.result c.from_residual-in_err-flush.ensures (
      (
        c.in_err-flush.ensures.failed ∙ ap (λ (n : ℕ). n + 1) c.in_default.ensures.ok,
        (
          same,
          given.given,
          names_of_whole given (wanted_in words) c.args.wanted.ticks (taken c.args.out.now) (taken c.flush.new.self) is_ok (kept_names (image_at image) c.as_slice-2.result.now c.args.wanted.ticks (wanted_in words) made (taken c.args.out.now) (taken c.named_state.new.sink) (taken c.flush.new.self) c.in_default.ensures.text c.in_err-flush.ensures.kept),
        ),
      ),
      c.in_ok-devices.ensures.noted ∙ c.in_ok-built.ensures.noted,
    )

pub returns : goal.returns
returns g c =
    let taken = g.O.Sink.taken in
    let files = g.F.Files.contents c.args.files.now in
    let words = c.args.wanted.words.state in
    let sources = map (λ s. s.now) c.args.wanted.words.sources.now in
    let image = c.as_slice.result.now in
    let made = sources_of (texts_of c.as_slice-3.result.now) (map program_of c.as_slice-4.result.now) in
    let of_image : IsBuiltIn files words.image.now sources image (made_in c.in_ok-built.built) =
    subst (λ (i : List ℕ). IsBuiltIn files words.image.now sources i (made_in c.in_ok-built.built)) (sym c.as_slice.ensures.value) c.in_ok-built.ensures.built in
    let of_texts : IsBuiltIn files words.image.now sources image (sources_of (texts_of c.as_slice-3.result.now) (map program_of c.in_ok-built.built.trees.items)) =
    subst (λ (ts : List (Vec ℕ Global)). IsBuiltIn files words.image.now sources image (sources_of (texts_of ts) (map program_of c.in_ok-built.built.trees.items))) (sym c.as_slice-3.ensures.value) of_image in
    let built : IsBuiltIn files words.image.now sources image made =
    subst (λ (ts : List Program). IsBuiltIn files words.image.now sources image (sources_of (texts_of c.as_slice-3.result.now) (map program_of ts))) (sym c.as_slice-4.ensures.value) of_texts in
    let given = given_module files (g.F.Files.contents c.module_named.new.files) words.image.now sources words.devices.now image made c.in_ok-devices.devices.items c.as_slice-2.result.now
    c.in_ok-built.ensures.unchanged c.as_slice-2.ensures.value built c.in_ok-devices.ensures.held in
    let same = c.in_ok-devices.ensures.unchanged ∙ c.in_ok-built.ensures.unchanged in (
      (
        same,
        given.given,
        names_of_whole given (wanted_in words) c.args.wanted.ticks (taken c.args.out.now) (taken c.flush.new.self) is_ok (kept_names (image_at image) c.as_slice-2.result.now c.args.wanted.ticks (wanted_in words) made (taken c.args.out.now) (taken c.named_state.new.sink) (taken c.flush.new.self) c.in_default.ensures.text c.in_ok-flush.ensures.kept),
      ),
      ((c.in_ok-flush.ensures.quiet ∙ c.in_default.ensures.ok, c.in_ok-flush.ensures.flushed), c.in_ok-devices.ensures.noted ∙ c.in_ok-built.ensures.noted),
    )

pub returns-in_err-devices : goal.returns-in_err-devices
returns-in_err-devices g c =
    let at = state g.F.Files.contents g.F.Files.failed g.F.Files.reads g.O.Sink.taken g.O.Sink.failures g.O.Stream.is_flushed in
    let words = c.args.wanted.words.state in
    let sources = map (λ s. s.now) c.args.wanted.words.sources.now in
    let before = at c.args.files.now c.args.out.now in
    let after = at c.read_as.new.files c.args.out.now in
    let r = c.in_err-devices.field-0.0 in
    let same = c.in_err-devices.ensures.unchanged ∙ c.in_ok-built.ensures.unchanged in
    refused_as (EndsNamed words.image.now sources words.devices.now (wanted_in words) c.args.wanted.ticks before after) r c.from_residual-in_err-devices.result c.from_residual-in_err-devices.ensures
    (not_read words.image.now sources words.devices.now (wanted_in words) c.args.wanted.ticks before after r c.in_ok-built.built.image.items (made_in c.in_ok-built.built) (same, (refl, refl)) c.in_ok-built.ensures.built c.in_err-devices.ensures.refused, subst (λ (old : List (List ℕ)). IsOfFailed old (g.F.Files.failed c.read_as.new.files) r) c.in_ok-built.ensures.noted c.in_err-devices.ensures.named)
