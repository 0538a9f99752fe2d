-- What the code has, as the definitions see it: arguments, mentions, calls and findings.
use Rattle.std.specs.Prelude.{ℕ, Bool, List, [], ◌∷◌, map, option_map, if◌then◌else◌}
use Rattle.pal_base.specs.View.{id_text, exprs_of, name_of}
use Rattle.pal_base.specs.declared.syntax.NameId.{NameId}
use Rattle.lint.specs.Calls as calls
use Rattle.lint.specs.Mentions as mentions
use Rattle.lint.specs.Plain as meant
use Rattle.lint.specs.Uses as uses
use Rattle.lint.specs.declared.calls.Call as code_call
use Rattle.lint.specs.declared.finding.Finding as code_finding
use Rattle.lint.specs.declared.finding.FindingKind.{FindingKind}
use Rattle.lint.specs.declared.mentions.Mention.{Mention}
use Rattle.lint.specs.declared.mentions.Mention.TheVariants as mention
use Rattle.lint.specs.declared.mentions.Thing.{Thing}
use Rattle.lint.specs.declared.mentions.Thing.TheVariants as thing
use Rattle.lint.specs.declared.plain.Plain.{Plain}
use Rattle.lint.specs.declared.plain.Plain.TheVariants as plain
use Rattle.lint.specs.declared.uses.Created.{Created}
use Rattle.lint.specs.declared.uses.Id.{Id}
use Rattle.lint.specs.declared.uses.Id.TheVariants as id
use Rattle.lint.specs.declared.uses.Scope.{Scope}
use Rattle.lint.specs.declared.uses.Standing.{Standing}
use Rattle.lint.specs.declared.uses.Standing.TheVariants as standing

abbrev pub plain_of : List (List ℕ) → Plain → meant.Plain
plain_of names (plain.Literal value) = meant.Literal value
plain_of names (plain.Name name) = meant.Word (id_text names name)
plain_of names plain.Other = meant.Other

abbrev pub thing_of : List (List ℕ) → Thing → mentions.Thing
thing_of names (thing.Object kind name) = mentions.Object kind (id_text names name)
thing_of names thing.Failure = mentions.Failure

abbrev pub mention_of : List (List ℕ) → Mention → mentions.Mention
mention_of names (mention.Read name) = mentions.Read (id_text names name)
mention_of names (mention.Element array index) = mentions.Element (name_of names array) index
mention_of names (mention.Apply name arguments) = mentions.Apply (id_text names name) (meant.plains (exprs_of names arguments.now))
mention_of names (mention.Write name thing) = mentions.Write (id_text names name) (option_map (thing_of names) thing)
mention_of names (mention.ByZero line) = mentions.ByZero
mention_of names mention.Test = mentions.Test
mention_of names (mention.Ask may_wait) = mentions.Ask may_wait
mention_of names mention.Leave = mentions.Leave
mention_of names (mention.Endless line) = mentions.Endless

-- the mentions of a list, as the definitions see them
abbrev pub mentions_seen : List (List ℕ) → List Mention → List mentions.Mention
mentions_seen names all = map (mention_of names) all

abbrev pub standing_of : List (List ℕ) → Standing → uses.Standing
standing_of names standing.Never = uses.Never
standing_of names (standing.Always thing) = uses.Always (thing_of names thing)
standing_of names standing.Varies = uses.Varies

abbrev pub scope_of : List (List ℕ) → Scope → uses.Scope
scope_of names s = record {
  parameters = map (name_of names) s.parameters.now;
  locals = map (name_of names) s.locals.now;
  own = mentions_seen names s.own.now;
  program = mentions_seen names s.program.now;
}

abbrev pub created_of : List (List ℕ) → Created → uses.Created
created_of names c = record { kind = c.kind; object = id_text names c.object; variable = id_text names c.variable }

abbrev pub id_seen : List (List ℕ) → Id → uses.Id
id_seen names (id.Numbered n) = uses.Numbered n
id_seen names (id.Named kind object) = uses.Named kind (id_text names object)
id_seen names id.Failed = uses.Failed
id_seen names id.Unset = uses.Unset
id_seen names id.Unseen = uses.Unseen

abbrev pub call_of : List (List ℕ) → code_call.Call → calls.Call
call_of names c = record { service = c.service; arguments = meant.plains (exprs_of names c.arguments.now); id = id_seen names c.id }

-- the calls of a list, as the definitions see them
abbrev pub calls_seen : List (List ℕ) → List code_call.Call → List calls.Call
calls_seen names all = map (call_of names) all

-- what was found, and the name that it is about; the lines are not seen
pub record Found : Type 0 where
  pub kind : FindingKind
  pub subject : List ℕ

abbrev pub found_of : code_finding.Finding → Found
found_of f = record { kind = f.kind; subject = f.subject.now }

abbrev pub found_all : List code_finding.Finding → List Found
found_all findings = map found_of findings

-- a finding if something is so, and one unless it is
abbrev pub if_so : Bool → Found → List Found
if_so so found = if so then found ∷ [] else []

abbrev pub unless : Bool → Found → List Found
unless so found = if so then [] else found ∷ []
