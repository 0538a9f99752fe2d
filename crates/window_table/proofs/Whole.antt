-- A document that lacks a part of a module table describes none.
use Rattle.std.proofs.Common.{◌≡◌, Bool, false, Option, Some, None, Err, refl, ap}
use Rattle.std.specs.Prelude.{codes, if◌then◌else◌}
use Rattle.toml.specs.Data.{Members}
use Rattle.module_meaning.specs.Table.{◌>>=◌}
use Rattle.module_meaning.specs.TableRules.{array_at, channel_of, has_only, integer_at, is_table_key, optional_array_at, optional_costs, optional_table_at, partition_of, table_text_of, tables_of, text_at, window_of}
use Rattle.window_table.specs.Answers.{Reads}
use Rattle.window_table.specs.declared.fault.TableFault.{TableFault}
use Rattle.window_table.specs.declared.fault.TableFault.TheVariants as fault

pub none_first : {A B : Type 0} (o : Option A) (k : A → Option B) → o ≡ None → (o >>= k) ≡ None
none_first o k none = ap (λ (p : Option _). p >>= k) none

none_after : {A B : Type 0} (o : Option A) (k : A → Option B) → ((a : A) → k a ≡ None) → (o >>= k) ≡ None
none_after None k none = refl
none_after (Some a) k none = none a

pub no_costs : (ms : Members) → (optional_table_at (codes "cost") ms >>= optional_costs) ≡ None → table_text_of ms ≡ None
unfolding table_text_of
no_costs ms none =
    none_after (integer_at (codes "frame") ms) _ (λ f. none_after (text_at (codes "fault") ms) _ (λ t. none_first (optional_table_at (codes "cost") ms >>= optional_costs) _ none))

pub no_partitions : (ms : Members) → (array_at (codes "partition") ms >>= tables_of partition_of) ≡ None → table_text_of ms ≡ None
unfolding table_text_of
no_partitions ms none =
    none_after (integer_at (codes "frame") ms) _ (λ f. none_after (text_at (codes "fault") ms) _ (λ t. none_after (optional_table_at (codes "cost") ms >>= optional_costs) _ (λ c.
    none_first (array_at (codes "partition") ms >>= tables_of partition_of) _ none)))

pub no_windows : (ms : Members) → (array_at (codes "window") ms >>= tables_of window_of) ≡ None → table_text_of ms ≡ None
unfolding table_text_of
no_windows ms none =
    none_after (integer_at (codes "frame") ms) _ (λ f. none_after (text_at (codes "fault") ms) _ (λ t. none_after (optional_table_at (codes "cost") ms >>= optional_costs) _ (λ c.
    none_after (array_at (codes "partition") ms >>= tables_of partition_of) _ (λ p. none_first (array_at (codes "window") ms >>= tables_of window_of) _ none))))

pub no_channels : (ms : Members) → (optional_array_at (codes "channel") ms >>= tables_of channel_of) ≡ None → table_text_of ms ≡ None
unfolding table_text_of
no_channels ms none =
    none_after (integer_at (codes "frame") ms) _ (λ f. none_after (text_at (codes "fault") ms) _ (λ t. none_after (optional_table_at (codes "cost") ms >>= optional_costs) _ (λ c.
    none_after (array_at (codes "partition") ms >>= tables_of partition_of) _ (λ p. none_after (array_at (codes "window") ms >>= tables_of window_of) _ (λ w.
    none_first (optional_array_at (codes "channel") ms >>= tables_of channel_of) _ none)))))

unless : {A : Type 0} (b : Bool) (x : Option A) → b ≡ false → (if b then x else None) ≡ None
unless b x not = ap (λ (c : Bool). if c then x else None) not

pub other_keys : (ms : Members) → has_only is_table_key ms ≡ false → table_text_of ms ≡ None
unfolding table_text_of
other_keys ms not =
    none_after (integer_at (codes "frame") ms) _ (λ f. none_after (text_at (codes "fault") ms) _ (λ t. none_after (optional_table_at (codes "cost") ms >>= optional_costs) _ (λ c.
    none_after (array_at (codes "partition") ms >>= tables_of partition_of) _ (λ p. none_after (array_at (codes "window") ms >>= tables_of window_of) _ (λ w.
    none_after (optional_array_at (codes "channel") ms >>= tables_of channel_of) _ (λ h. unless (has_only is_table_key ms) _ not))))))

-- a fault of a part is one of the whole
pub part_fault : {A B C D : Type 0} (view : A → B) (whole : C → D) (e : TableFault) (read : Option B) (all : Option D) → Reads view (Err e) read → (read ≡ None → all ≡ None) → Reads whole (Err e) all
part_fault view whole fault.Memory read all h on = tt
part_fault view whole fault.Shape read all h on = on h
part_fault view whole fault.Document read all h on = h
part_fault view whole fault.Limit read all h on = h
part_fault view whole fault.Name read all h on = h
part_fault view whole fault.Overlap read all h on = h
part_fault view whole fault.Period read all h on = h
part_fault view whole fault.Duration read all h on = h
part_fault view whole fault.Release read all h on = h
part_fault view whole fault.Ends read all h on = h
part_fault view whole fault.Health read all h on = h
