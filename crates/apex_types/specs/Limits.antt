-- The limits of a module, of its programs and of a run. All definitions take them from here; those of older images are in `Versions`.
use Rattle.std.specs.Prelude.{ℕ, ◌+◌, ◌^◌}

-- the most ticks of a run. No tick, duration, period, time capacity, delay, time-out or refresh period is greater.
abbrev pub MOST_TICKS : ℕ
MOST_TICKS = 2 ^ 40

-- the most ticks of a major frame
abbrev pub MOST_FRAME_TICKS : ℕ
MOST_FRAME_TICKS = 2 ^ 24

-- the most bytes of a name
abbrev pub MOST_NAME_BYTES : ℕ
MOST_NAME_BYTES = 30

-- the most partitions of a module
abbrev pub MOST_PARTITIONS : ℕ
MOST_PARTITIONS = 32

-- the most windows of a major frame
abbrev pub MOST_WINDOWS : ℕ
MOST_WINDOWS = 64

-- the most channels of a module
abbrev pub MOST_CHANNELS : ℕ
MOST_CHANNELS = 64

-- the most destinations of a channel
abbrev pub MOST_DESTINATIONS : ℕ
MOST_DESTINATIONS = 16

-- the most ports of a partition
abbrev pub MOST_PORTS : ℕ
MOST_PORTS = 16

-- the most processes of a partition, without INIT and the error handler
abbrev pub MOST_PROCESSES : ℕ
MOST_PROCESSES = 63

-- the most objects of a kind in a partition
abbrev pub MOST_OBJECTS : ℕ
MOST_OBJECTS = 16

-- the greatest priority of a process; the least is 1
abbrev pub GREATEST_PRIORITY : ℕ
GREATEST_PRIORITY = 239

-- the greatest level of the preemption lock
abbrev pub MOST_LOCK_LEVEL : ℕ
MOST_LOCK_LEVEL = 16

-- the most errors that wait for an error handler
abbrev pub MOST_ERRORS : ℕ
MOST_ERRORS = 64

-- the most words of a message
abbrev pub MOST_WORDS : ℕ
MOST_WORDS = 64

-- the most messages that a buffer or a queuing port holds
abbrev pub MOST_DEPTH : ℕ
MOST_DEPTH = 32

-- the greatest value of a semaphore
abbrev pub MOST_SEMAPHORE_VALUE : ℕ
MOST_SEMAPHORE_VALUE = 1000000

-- the fewest words of a stack
abbrev pub LEAST_STACK_WORDS : ℕ
LEAST_STACK_WORDS = 16

-- the most words of a stack, and so of a frame on it
abbrev pub MOST_STACK_WORDS : ℕ
MOST_STACK_WORDS = 4096

-- the most parameters of a procedure
abbrev pub MOST_PARAMETERS : ℕ
MOST_PARAMETERS = 8

-- the most locals of a body
abbrev pub MOST_LOCALS : ℕ
MOST_LOCALS = 64

-- the most slots of a frame: its parameters and its locals
abbrev pub MOST_SLOTS : ℕ
MOST_SLOTS = MOST_PARAMETERS + MOST_LOCALS

-- the most procedures of a program
abbrev pub MOST_PROCEDURES : ℕ
MOST_PROCEDURES = 256

-- the most instructions of a program
abbrev pub MOST_INSTRUCTIONS : ℕ
MOST_INSTRUCTIONS = 2 ^ 16

-- the most words of a program's data
abbrev pub MOST_DATA_WORDS : ℕ
MOST_DATA_WORDS = 2 ^ 16

-- the most ticks of a `work` statement
abbrev pub MOST_WORK_TICKS : ℕ
MOST_WORK_TICKS = 1000000

-- the most ticks that a construct may cost; the least is 1
abbrev pub MOST_COST : ℕ
MOST_COST = 1000

-- the most bytes of a source
abbrev pub MOST_SOURCE_BYTES : ℕ
MOST_SOURCE_BYTES = 2 ^ 20

-- the most levels of expressions, statements and argument lists that are open together in a source
abbrev pub MOST_LEVELS : ℕ
MOST_LEVELS = 64

-- the most lines of a device text or of a replay text
abbrev pub MOST_DEVICE_LINES : ℕ
MOST_DEVICE_LINES = 2 ^ 16

-- the most words of an application message, and of the message of an error
abbrev pub MOST_REPORT_WORDS : ℕ
MOST_REPORT_WORDS = 16

-- the bytes of an instruction in an image
abbrev pub INSTRUCTION_BYTES : ℕ
INSTRUCTION_BYTES = 16
