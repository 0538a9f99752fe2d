-- What is wrong at a word, by the rule that is asked for.
use Rattle.std.specs.Prelude.{ℕ, ◌%◌, Bool, not, ◌&&◌, nat_eq, nat_le, nat_lt, if◌then◌else◌, List, ◌++◌, length, map, Option, Some, None}
use Rattle.apex_types.specs.NameText.{is_name}
use Rattle.apex_types.specs.ServiceShape.{arguments_of, answer_words}
use Rattle.apex_types.specs.Limits.{MOST_TICKS}
use Rattle.apex_types.specs.declared.service.Service.{Service}
use Rattle.pal_base.specs.declared.fault.Refusal.{Refusal}
use Rattle.pal_base.specs.declared.fault.Refusal.TheVariants as rule
use Rattle.pal_meaning.specs.Syntax as written
use Rattle.finding_lines.specs.Nearest.{nearest}
use Rattle.source_findings.specs.Roles.{Entry, fits, is_nothing, or_else, role_of}
use Rattle.source_findings.specs.What.{What, Unknown, Again, Other, NoName, Arguments, Targets, Return, Long, TooLarge, Outside, NoTime, TooMany, Frame, Odd}
use Rattle.source_findings.specs.declared.finding.Many.{Many}
use Rattle.source_findings.specs.declared.finding.Thing.{Thing}
use Rattle.source_findings.specs.declared.finding.Thing.TheVariants as thing
use Rattle.source_findings.specs.declared.roles.Role.{Role}

-- The rule that is asked for, the period of the partition, the declared names, and the parameters and locals of the body.
pub record Judge : Type 0 where
  pub rule : Refusal
  pub period : ℕ
  pub declared : List Entry
  pub own : List Entry

-- what a name means in the body
abbrev pub meant : Judge → List ℕ → Role
meant j name = or_else (role_of name j.own) (role_of name j.declared)

abbrev pub known_names : Judge → List (List ℕ)
known_names j = map (λ e. e.name) j.own ++ map (λ e. e.name) j.declared

-- it is wrong unless this holds
abbrev pub unless : Bool → What → Option What
unless holds what = if holds then None else Some what

-- ---- names

abbrev pub unknown : Judge → List ℕ → Option What
unknown j name = if not (is_nothing (meant j name)) then None else Some (Unknown name (nearest name (known_names j)))

abbrev pub other : Judge → List ℕ → Role → Option What
other j name wanted = unless (fits (meant j name) wanted) (Other name (meant j name) wanted)

abbrev pub long : List ℕ → Option What
long name = unless (is_name name) (Long name)

-- by the rule on names, on kinds, or on limits
abbrev pub by_rule : Refusal → Option What → Option What → Option What → Option What
by_rule rule.Name names kinds limits = names
by_rule rule.Kind names kinds limits = kinds
by_rule rule.Limit names kinds limits = limits
by_rule other names kinds limits = None

-- a name that is used where something is wanted
abbrev pub name_wrong : Judge → List ℕ → Role → Option What
name_wrong j name wanted = by_rule j.rule (unknown j name) (other j name wanted) (long name)

-- a name that is declared
abbrev pub new_wrong : Judge → List ℕ → Option What
new_wrong j name = by_rule j.rule (unless (is_nothing (meant j name)) (Again name)) None (long name)

-- ---- the rule on kinds

abbrev pub by_kind : Refusal → Option What → Option What
by_kind rule.Kind what = what
by_kind other what = None

-- an expression in place of a name
abbrev pub no_name_wrong : Refusal → Role → Option What
no_name_wrong rule wanted = by_kind rule (Some (NoName wanted))

abbrev pub return_wrong : Refusal → Bool → Option What
return_wrong rule returns = by_kind rule (unless returns Return)

abbrev pub arguments_wrong : Refusal → Service → ℕ → Option What
arguments_wrong rule service given = by_kind rule (unless (nat_eq given (length (arguments_of service))) (Arguments service given))

abbrev pub targets_wrong : Refusal → Service → ℕ → Option What
targets_wrong rule service given = by_kind rule (unless (nat_eq given (answer_words service)) (Targets service given))

-- ---- the rule on limits

abbrev pub by_limit : Refusal → Option What → Option What
by_limit rule.Limit what = what
by_limit other what = None

abbrev pub too_large : Option ℕ → Option What
too_large None = Some TooLarge
too_large (Some number) = None

abbrev pub outside : Thing → ℕ → ℕ → Option ℕ → Option What
outside thing low high None = Some TooLarge
outside thing low high (Some number) = unless (nat_le low number && nat_le number high) (Outside thing number low high)

-- -1, or a number of ticks
abbrev pub no_time : Thing → Bool → Option ℕ → Option What
no_time thing negative None = Some TooLarge
no_time thing negative (Some number) =
    if negative then unless (nat_eq number 1) (NoTime thing negative number) else unless (nat_le 1 number && nat_le number MOST_TICKS) (NoTime thing negative number)

-- a number that any word may be
abbrev pub number_wrong : Refusal → Option ℕ → Option What
number_wrong rule number = by_limit rule (too_large number)

-- a number that has these limits
abbrev pub outside_wrong : Refusal → Thing → ℕ → ℕ → Option ℕ → Option What
outside_wrong rule thing low high number = by_limit rule (outside thing low high number)

abbrev pub capacity_wrong : Refusal → written.Integer → Option What
capacity_wrong rule capacity = by_limit rule (no_time thing.Capacity capacity.negative capacity.magnitude)

-- how many there are, and may be
abbrev pub many_wrong : Refusal → Many → ℕ → ℕ → Option What
many_wrong rule thing number most = by_limit rule (unless (nat_le number most) (TooMany thing number most))

abbrev pub small : ℕ → ℕ → Option What
small words stack = unless (nat_le words stack) (Frame words stack)

-- the frame of a body compared with its stack; a stack above 2^63 - 1 has its own finding
abbrev pub frame_wrong : Refusal → ℕ → Option ℕ → Option What
frame_wrong rule words None = None
frame_wrong rule words (Some stack) = by_limit rule (small words stack)

-- ---- the rule on periods

abbrev pub odd_number : ℕ → Option ℕ → Option What
odd_number partition None = Some TooLarge
odd_number partition (Some period) = unless (nat_lt 0 partition && nat_eq (period % partition) 0) (Odd period partition)

-- -1, or a multiple of the partition's period
abbrev pub odd : ℕ → Bool → Option ℕ → Option What
odd partition negative number = if negative then None else odd_number partition number

-- the period of a process, which has a limit, too
abbrev pub period_wrong : Refusal → ℕ → written.Integer → Option What
period_wrong rule.Limit partition period = no_time thing.Period period.negative period.magnitude
period_wrong rule.Period partition period = odd partition period.negative period.magnitude
period_wrong other partition period = None
