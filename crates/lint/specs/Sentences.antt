-- The text of findings: the exact bytes of each line, and the exit status.
use Rattle.std.specs.Prelude.{ℕ, ◌==◌, Bool, not, List, [], ◌∷◌, ◌++◌, length, flat_map, codes, if◌then◌else◌}
use Rattle.std.specs.List.{list_any}
use Rattle.std.specs.Fmt.{decimal}
use Rattle.lint.specs.declared.finding.Finding.{Finding}
use Rattle.lint.specs.declared.finding.FindingKind.{FindingKind}
use Rattle.lint.specs.declared.finding.FindingKind.TheVariants as finding
use Rattle.lint.specs.declared.report.PartitionFindings.{PartitionFindings}

-- what is said in front of the name that a finding is about
abbrev pub opening : FindingKind → List ℕ
opening finding.UnknownPort = codes "the table has no port "
opening finding.FitsAnother = codes "the ports fit another partition better: "
opening finding.UndeclaredPort = codes "the table has a port that is not declared: "
opening finding.WrongKind = codes "the service is for ports of the other kind than "
opening finding.WrongDirection = codes "the service is for ports of the other direction than "
opening finding.SmallArray = codes "messages may be longer than the array "
opening finding.LongLength = codes "the length is above the words of a message: "
opening finding.UnsetNumber = codes "nothing sets the variable "
opening finding.BadIndex = codes "the index is beyond the array "
opening finding.DivisionByZero = codes "the divisor is 0"
opening finding.EndlessLoop = codes "the loop has no end, and nothing in it waits"
opening finding.EndlessRecursion = codes "no call ends the recursion of "
opening finding.NeverCreated = codes "nothing creates "
opening finding.HandlerNeverCreated = codes "nothing creates the handler"
opening finding.NeverStarted = codes "nothing starts "
opening finding.NeverSignalled = codes "nothing signals or sets "
opening finding.NeverNormal = codes "INIT does not enter NORMAL"
opening finding.NoPeriodicWait = codes "nothing waits for the next release of "
opening finding.LongCapacity = codes "the time capacity is above the period of "
opening finding.NoErrorStatus = codes "the handler takes no error"
opening finding.WaitInInit = codes "INIT calls a service that waits: "
opening finding.WaitWhileLocked = codes "preemption is locked at a service that waits: "
opening finding.UnusedVariable = codes "no statement names the variable "
opening finding.UnusedProcedure = codes "no statement calls the procedure "
opening finding.UnusedParameter = codes "no statement names the parameter "
opening finding.UnconnectedPort = codes "no channel leads to the port "
opening finding.ShortRefresh = codes "the refresh is below the period of the sender: "
opening finding.AboveCapacity = codes "the time capacity is below the cost of "
opening finding.SmallStack = codes "the stack is too small for the calls in "

-- what to do about it
abbrev pub advice : FindingKind → List ℕ
advice finding.UnknownPort = codes "add it to the partition, or take the declaration out"
advice finding.FitsAnother = codes "give the sources in the order of the partitions in the table"
advice finding.UndeclaredPort = codes "declare it, or take it out of the table"
advice finding.WrongKind = codes "call the service for its kind"
advice finding.WrongDirection = codes "send to a source port, receive from a destination port"
advice finding.SmallArray = codes "give it as many words as the messages have"
advice finding.LongLength = codes "send no more words than a message has"
advice finding.UnsetNumber = codes "let the service that creates or finds the thing store its number there"
advice finding.BadIndex = codes "the indices of an array of n words are 0 to n - 1"
advice finding.DivisionByZero = codes "a division by 0 is a NUMERIC_ERROR; divide by another number"
advice finding.EndlessLoop = codes "call a service that waits in each round"
advice finding.EndlessRecursion = codes "return before it calls itself, after a test that comes true"
advice finding.NeverCreated = codes "create it in INIT, or take the declaration out"
advice finding.HandlerNeverCreated = codes "call CREATE_ERROR_HANDLER in INIT"
advice finding.NeverStarted = codes "start it in INIT, or take it out"
advice finding.NeverSignalled = codes "call SIGNAL_SEMAPHORE or SET_EVENT, or take the waits out"
advice finding.NeverNormal = codes "call SET_PARTITION_MODE(3) at the end of INIT"
advice finding.NoPeriodicWait = codes "call PERIODIC_WAIT at the end of each round"
advice finding.LongCapacity = codes "a deadline after the next release is no deadline; lower the time capacity"
advice finding.NoErrorStatus = codes "call GET_ERROR_STATUS in the handler until no error is left"
advice finding.WaitInInit = codes "leave the wait to a process, or give the time-out 0"
advice finding.WaitWhileLocked = codes "call UNLOCK_PREEMPTION before it, or give the time-out 0"
advice finding.UnusedVariable = codes "take it out"
advice finding.UnusedProcedure = codes "take it out"
advice finding.UnusedParameter = codes "take it out, and the arguments of its calls"
advice finding.UnconnectedPort = codes "add it to a channel, or take it out"
advice finding.ShortRefresh = codes "each message is stale before the next one comes; raise the refresh"
advice finding.AboveCapacity = codes "raise the time capacity, or let the body do less"
advice finding.SmallStack = codes "raise it, or call less deeply"

-- the line in the source, if the finding has one
abbrev pub place_text : ℕ → List ℕ
place_text line = if line == 0 then [] else codes " line " ++ decimal line

-- the line of a finding of this partition
abbrev pub finding_line : List ℕ → Finding → List ℕ
finding_line partition f = partition ++ place_text f.line ++ codes ": " ++ opening f.kind ++ f.subject.now ++ codes "; " ++ advice f.kind ++ 10 ∷ []

-- the lines of the findings of a partition
abbrev pub partition_text : PartitionFindings → List ℕ
partition_text p = flat_map (finding_line p.partition.now) p.findings.items

-- the text of all findings: the partitions in their order
abbrev pub findings_text : List PartitionFindings → List ℕ
findings_text found = flat_map partition_text found

-- something is found in a partition, or in any of them
abbrev pub has_finding : PartitionFindings → Bool
has_finding p = not (length p.findings.items == 0)

abbrev pub have_findings : List PartitionFindings → Bool
have_findings found = list_any has_finding found

-- the exit status: 3 if something is found in any partition, else 0
abbrev pub status : List PartitionFindings → ℕ
status found = if have_findings found then 3 else 0
