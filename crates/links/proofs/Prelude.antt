-- What several files of the proofs import.
pub use Rattle.apex_types.specs.declared.codes.Discipline.{Discipline}
pub use Rattle.apex_types.specs.declared.limits.TheConstants.{MARK_BITS, MOST_PROCESSES}
pub use Rattle.apex_types.specs.declared.process.Entry.{Entry}
pub use Rattle.arrayvec.specs.ArrayVec.{ArrayVec}
pub use Rattle.kernel_laws.proofs.ReadyLists.{length-without}
pub use Rattle.kernel_laws.specs.Ready.{AreBelow, IsListed, times_listed}
pub use Rattle.kernel_meaning.specs.Queues.{behind_equals, joined, list_in, no_entries, without}
pub use Rattle.links.specs.DueOrder.{AreDueBelow, AreFrom, AreInOrder, behind_earlier, due_at}
pub use Rattle.links.specs.Levels.{IsLowest, in_order, one_if_any}
pub use Rattle.links.specs.Lists.{IsInNone, emptied_each, put_in, without_in_each}
pub use Rattle.links.specs.OneHome.{IsHomed, entries_of, once_at}
pub use Rattle.links.specs.Timers.{IsExact, tick_in}
pub use Rattle.links.specs.declared.dues.DueEntry.{DueEntry}
pub use Rattle.links.specs.declared.lists.ListId.{ListId}
pub use Rattle.std.proofs.Common.{Bool, List, None, Option, Some, [], ap, arith, cond, drop, false, get_or, inl, inr, length, length-set, map, nat_eq, nat_lt, not, refl, replicate, rules, slice_get, slice_index, subst, suc, sym, take, true, w64, zero, ℕ, ◌*◌, ◌++◌, ◌+◌, ◌-◌, ◌<◌, ◌∙◌, ◌∷◌, ◌≡◌, ◌≤◌, ◌⊎◌}
pub use Rattle.std.proofs.Math.Seq.{drop-cons}
pub use Rattle.std.proofs.lemmas.Bool.{cases_eq, cases_lt}
pub use Rattle.std.proofs.lemmas.Bool.Decides.{nat_tests}
pub use Rattle.std.proofs.lemmas.List.{get_or-map, get_or_past, length-map, take-append-drop}
pub use Rattle.std.proofs.lemmas.Nat.Bits.{bit_at-zero, bit_at_set_other, bit_at_set_same}
pub use Rattle.std.proofs.lemmas.Option.{get_or_from_slice_get, slice_get_read}
pub use Rattle.std.specs.Int.{bit_at}
pub use Rattle.std.specs.Prelude.{if◌then◌else◌, remove, slice_index_or, slice_set}
