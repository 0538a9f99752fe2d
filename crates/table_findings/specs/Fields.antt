-- The keys of each part of a table, with the types of their values, and the words of texts.
use Rattle.std.specs.Prelude.{ℕ, if◌then◌else◌, List, [], ◌∷◌, codes, Option, Some, None}
use Rattle.module_meaning.specs.TableRules.{cost_keys, is_one_of, same}
use Rattle.table_findings.specs.declared.fields.Part.{Part}
use Rattle.table_findings.specs.declared.fields.Part.TheVariants as part
use Rattle.table_findings.specs.declared.words.Words.{Words}
use Rattle.table_findings.specs.declared.words.Words.TheVariants as words

abbrev pub health_keys : List (List ℕ)
health_keys = codes "DEADLINE_MISSED" ∷ codes "APPLICATION_ERROR" ∷ codes "NUMERIC_ERROR" ∷ codes "ILLEGAL_REQUEST" ∷ codes "STACK_OVERFLOW" ∷ codes "MEMORY_VIOLATION" ∷ codes "HARDWARE_FAULT" ∷ []

-- the keys that a part may have
abbrev pub keys : Part → List (List ℕ)
keys part.Module = codes "frame" ∷ codes "fault" ∷ codes "partition" ∷ codes "window" ∷ codes "cost" ∷ codes "channel" ∷ []
keys part.Costs = cost_keys
keys part.Partition = codes "name" ∷ codes "period" ∷ codes "duration" ∷ codes "hm" ∷ codes "port" ∷ []
keys part.Health = health_keys
keys part.SamplingPort = codes "name" ∷ codes "kind" ∷ codes "direction" ∷ codes "words" ∷ codes "refresh" ∷ []
keys part.QueuingPort = codes "name" ∷ codes "kind" ∷ codes "direction" ∷ codes "words" ∷ codes "depth" ∷ codes "discipline" ∷ []
keys part.Port = codes "name" ∷ codes "kind" ∷ codes "direction" ∷ codes "words" ∷ codes "refresh" ∷ codes "depth" ∷ codes "discipline" ∷ []
keys part.Window = codes "partition" ∷ codes "offset" ∷ codes "length" ∷ codes "release" ∷ []
keys part.Channel = codes "name" ∷ codes "source" ∷ codes "destinations" ∷ []

-- the keys that have to be there
abbrev pub needed : Part → List (List ℕ)
needed part.Module = codes "frame" ∷ codes "fault" ∷ codes "partition" ∷ codes "window" ∷ []
needed part.Costs = cost_keys
needed part.Partition = codes "name" ∷ codes "period" ∷ codes "duration" ∷ codes "hm" ∷ []
needed part.Health = health_keys
needed part.SamplingPort = keys part.SamplingPort
needed part.QueuingPort = keys part.QueuingPort
needed part.Port = codes "name" ∷ codes "kind" ∷ codes "direction" ∷ codes "words" ∷ []
needed part.Window = keys part.Window
needed part.Channel = keys part.Channel

-- The type of the value at a key, as TOML names it; none at a key that the part has not.

abbrev text_type : Option (List ℕ)
text_type = Some (codes "string")

abbrev integer_type : Option (List ℕ)
integer_type = Some (codes "integer")

abbrev array_type : Option (List ℕ)
array_type = Some (codes "array")

abbrev table_type : Option (List ℕ)
table_type = Some (codes "table")

abbrev pub module_type : List ℕ → Option (List ℕ)
module_type key =
    if same key (codes "frame") then integer_type else if same key (codes "fault") then text_type else if is_one_of (codes "partition" ∷ codes "window" ∷ codes "channel" ∷ []) key then array_type else if same key (codes "cost") then table_type else None

abbrev pub cost_type : List ℕ → Option (List ℕ)
cost_type key = if is_one_of cost_keys key then integer_type else None

abbrev pub partition_type : List ℕ → Option (List ℕ)
partition_type key =
    if same key (codes "name") then text_type else if is_one_of (codes "period" ∷ codes "duration" ∷ []) key then integer_type else if same key (codes "hm") then table_type else if same key (codes "port") then array_type else None

abbrev pub health_type : List ℕ → Option (List ℕ)
health_type key = if is_one_of health_keys key then text_type else None

abbrev pub common_type : List ℕ → Option (List ℕ)
common_type key = if is_one_of (codes "name" ∷ codes "kind" ∷ codes "direction" ∷ []) key then text_type else if same key (codes "words") then integer_type else None

abbrev pub sampling_type : List ℕ → Option (List ℕ)
sampling_type key = if same key (codes "refresh") then integer_type else common_type key

abbrev pub queuing_type : List ℕ → Option (List ℕ)
queuing_type key = if same key (codes "depth") then integer_type else if same key (codes "discipline") then text_type else common_type key

abbrev pub port_type : List ℕ → Option (List ℕ)
port_type key = if same key (codes "refresh") then integer_type else queuing_type key

abbrev pub window_type : List ℕ → Option (List ℕ)
window_type key =
    if same key (codes "partition") then text_type else if is_one_of (codes "offset" ∷ codes "length" ∷ []) key then integer_type else if same key (codes "release") then Some (codes "boolean") else None

abbrev pub channel_type : List ℕ → Option (List ℕ)
channel_type key = if is_one_of (codes "name" ∷ codes "source" ∷ []) key then text_type else if same key (codes "destinations") then array_type else None

abbrev pub wanted : Part → List ℕ → Option (List ℕ)
wanted part.Module = module_type
wanted part.Costs = cost_type
wanted part.Partition = partition_type
wanted part.Health = health_type
wanted part.SamplingPort = sampling_type
wanted part.QueuingPort = queuing_type
wanted part.Port = port_type
wanted part.Window = window_type
wanted part.Channel = channel_type

-- the words that a text may be
abbrev pub words_of : Words → List (List ℕ)
words_of words.Kind = codes "SAMPLING" ∷ codes "QUEUING" ∷ []
words_of words.Direction = codes "SOURCE" ∷ codes "DESTINATION" ∷ []
words_of words.Discipline = codes "FIFO" ∷ codes "PRIORITY" ∷ []
words_of words.PartitionAction = codes "IGNORE" ∷ codes "IDLE" ∷ codes "WARM_START" ∷ codes "COLD_START" ∷ []
words_of words.ModuleAction = codes "IGNORE" ∷ codes "SHUTDOWN" ∷ codes "RESET" ∷ []
