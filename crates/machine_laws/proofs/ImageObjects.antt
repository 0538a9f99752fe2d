-- The objects of a source.
use Rattle.std.proofs.Common.{◌^◌, max, ◌++◌, refl, ap, lit<, ◌<◌}
use Rattle.std.specs.Prelude.{FitsSigned}
use Rattle.std.specs.Int.{w32, w64}
use Rattle.apex_types.specs.declared.version.Limits.{Limits}
use Rattle.apex_types.specs.declared.limits.TheConstants.{MOST_DATA_WORDS, MOST_DEPTH, MOST_OBJECTS, MOST_SEMAPHORE_VALUE}
use Rattle.apex_types.specs.declared.row.SemaphoreRow.{SemaphoreRow}
use Rattle.apex_types.specs.declared.row.BufferRow.{BufferRow}
use Rattle.apex_types.specs.declared.row.BlackboardRow.{BlackboardRow}
use Rattle.machine_meaning.specs.Image.{Objects}
use Rattle.machine_meaning.specs.ImageSpelling.{u8, u32, i64, list, discipline, semaphore, buffer, blackboard, objects}
use Rattle.machine_meaning.specs.ImageReading.{limited_at, small_at, word_at, choice_at, discipline_of, list_at, semaphore_at, buffer_at, blackboard_at, objects_at}
use Rattle.machine_meaning.specs.ImageLimits.{IsFrom, IsSemaphore, IsBuffer, IsBlackboard, AreObjects}
use Rattle.machine_laws.proofs.ImageFields.{Reads, said, first, last, assoc3, assoc5}
use Rattle.machine_laws.proofs.ImageNumbers.{wide32, limited_reads, small_reads}
use Rattle.machine_laws.proofs.ImageNames.{word_reads}
use Rattle.machine_laws.proofs.ImageChoices.{discipline_reads}
use Rattle.machine_laws.proofs.ImageLists.{list_reads}

pub semaphore_reads : Reads semaphore_at semaphore IsSemaphore
unfolding semaphore_at semaphore
semaphore_reads = said semaphore_at _ semaphore _ IsSemaphore
    (first (limited_at w32 0 MOST_SEMAPHORE_VALUE) _ (λ (r : SemaphoreRow). r.value) u32 (λ r. u32 r.maximum ++ u8 (discipline r.discipline)) (IsFrom 0 MOST_SEMAPHORE_VALUE) _
    (limited_reads w32 (2 ^ 32) wide32 0 MOST_SEMAPHORE_VALUE (lit< tt))
    (λ value p. first (limited_at w32 (max 1 value) MOST_SEMAPHORE_VALUE) _ (λ (r : SemaphoreRow). r.maximum) u32 (λ r. u8 (discipline r.discipline)) (IsFrom (max 1 value) MOST_SEMAPHORE_VALUE) _
    (limited_reads w32 (2 ^ 32) wide32 (max 1 value) MOST_SEMAPHORE_VALUE (lit< tt))
    (λ maximum q. last (choice_at discipline_of) (λ order. record { value = value; maximum = maximum; discipline = order }) (λ (r : SemaphoreRow). r.discipline) (λ a. u8 (discipline a)) (λ _. Unit {0}) discipline_reads (λ a. refl))
    (λ maximum r q g. ap (λ (r : SemaphoreRow). r.maximum) g.1))
    (λ value r p g. ap (λ (r : SemaphoreRow). r.value) g.1.1))
    (λ r. assoc3 (u32 r.value) (u32 r.maximum) (u8 (discipline r.discipline)))
    (λ r g. record { value = g.0; maximum = g.1.0 })
    (λ r g. (g.value, (g.maximum, (tt, refl))))

pub buffer_reads : (limits : Limits) → limits.words < 2 ^ 8 → Reads (buffer_at limits) buffer (IsBuffer limits)
unfolding buffer_at buffer
buffer_reads limits small = said (buffer_at limits) _ buffer _ (IsBuffer limits)
    (first (small_at 1 limits.words) _ (λ (r : BufferRow). r.words) u8 (λ r. u8 r.depth ++ u8 (discipline r.discipline)) (IsFrom 1 limits.words) _
    (small_reads 1 limits.words small)
    (λ words p. first (small_at 1 MOST_DEPTH) _ (λ (r : BufferRow). r.depth) u8 (λ r. u8 (discipline r.discipline)) (IsFrom 1 MOST_DEPTH) _
    (small_reads 1 MOST_DEPTH (lit< tt))
    (λ depth q. last (choice_at discipline_of) (λ order. record { words = words; depth = depth; discipline = order }) (λ (r : BufferRow). r.discipline) (λ a. u8 (discipline a)) (λ _. Unit {0}) discipline_reads (λ a. refl))
    (λ depth r q g. ap (λ (r : BufferRow). r.depth) g.1))
    (λ words r p g. ap (λ (r : BufferRow). r.words) g.1.1))
    (λ r. refl)
    (λ r g. record { words = g.0; depth = g.1.0 })
    (λ r g. (g.words, (g.depth, (tt, refl))))

pub blackboard_reads : (limits : Limits) → limits.words < 2 ^ 8 → Reads (blackboard_at limits) blackboard (IsBlackboard limits)
unfolding blackboard_at blackboard
blackboard_reads limits small = said (blackboard_at limits) _ blackboard _ (IsBlackboard limits)
    (last (small_at 1 limits.words) (λ words. record { words = words }) (λ (r : BlackboardRow). r.words) u8 (IsFrom 1 limits.words) (small_reads 1 limits.words small) (λ a. refl))
    (λ r. refl)
    (λ r g. record { words = g.0 })
    (λ r g. (g.words, refl))

pub objects_reads : (limits : Limits) → limits.words < 2 ^ 8 → Reads (objects_at limits) objects (AreObjects limits)
unfolding objects_at objects
objects_reads limits small = said (objects_at limits) _ objects _ (AreObjects limits)
    (first (list_at 0 MOST_DATA_WORDS (λ _. word_at)) _ (λ (o : Objects). o.initial) (list i64) (λ o. list semaphore o.semaphores ++ (u8 o.events ++ (list buffer o.buffers ++ list blackboard o.blackboards))) _ _
    (list_reads (λ _. word_at) i64 (λ _. FitsSigned w64) 0 MOST_DATA_WORDS (lit< tt) (λ _. word_reads))
    (λ initial p. first (list_at 0 MOST_OBJECTS (λ _. semaphore_at)) _ (λ (o : Objects). o.semaphores) (list semaphore) (λ o. u8 o.events ++ (list buffer o.buffers ++ list blackboard o.blackboards)) _ _
    (list_reads (λ _. semaphore_at) semaphore (λ _. IsSemaphore) 0 MOST_OBJECTS (lit< tt) (λ _. semaphore_reads))
    (λ semaphores q. first (small_at 0 MOST_OBJECTS) _ (λ (o : Objects). o.events) u8 (λ o. list buffer o.buffers ++ list blackboard o.blackboards) (IsFrom 0 MOST_OBJECTS) _
    (small_reads 0 MOST_OBJECTS (lit< tt))
    (λ events r. first (list_at 0 MOST_OBJECTS (λ _. buffer_at limits)) _ (λ (o : Objects). o.buffers) (list buffer) (λ o. list blackboard o.blackboards) _ _
    (list_reads (λ _. buffer_at limits) buffer (λ _. IsBuffer limits) 0 MOST_OBJECTS (lit< tt) (λ _. buffer_reads limits small))
    (λ buffers s. last (list_at 0 MOST_OBJECTS (λ _. blackboard_at limits)) (λ blackboards. record { initial = initial; semaphores = semaphores; events = events; buffers = buffers; blackboards = blackboards }) (λ (o : Objects). o.blackboards) (list blackboard) _
    (list_reads (λ _. blackboard_at limits) blackboard (λ _. IsBlackboard limits) 0 MOST_OBJECTS (lit< tt) (λ _. blackboard_reads limits small)) (λ a. refl))
    (λ buffers o s g. ap (λ (o : Objects). o.buffers) g.1))
    (λ events o r g. ap (λ (o : Objects). o.events) g.1.1))
    (λ semaphores o q g. ap (λ (o : Objects). o.semaphores) g.1.1.1))
    (λ initial o p g. ap (λ (o : Objects). o.initial) g.1.1.1.1))
    (λ o. assoc5 (list i64 o.initial) (list semaphore o.semaphores) (u8 o.events) (list buffer o.buffers) (list blackboard o.blackboards))
    (λ o g. record { words = g.0.0; initial = g.0.1; semaphore_count = g.1.0.0; semaphores = g.1.0.1; events = g.1.1.0; buffer_count = g.1.1.1.0.0; buffers = g.1.1.1.0.1; blackboard_count = g.1.1.1.1.0.0; blackboards = g.1.1.1.1.0.1 })
    (λ o g. ((g.words, g.initial), ((g.semaphore_count, g.semaphores), (g.events, ((g.buffer_count, g.buffers), ((g.blackboard_count, g.blackboards), refl))))))
