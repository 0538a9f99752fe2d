-- The choices that single bytes mean.
use Rattle.std.proofs.Common.{◌≡◌, ℕ, Bool, true, false, cond, eqb, Option, Some, None, refl, ap, ◌∙◌, lit<}
use Rattle.std.proofs.lemmas.Bool.{eqb-true}
use Rattle.apex_types.specs.declared.codes.Discipline.TheVariants.{Fifo, Priority}
use Rattle.apex_types.specs.declared.codes.ModuleAction.TheVariants as of_module
use Rattle.apex_types.specs.declared.codes.PartitionAction.TheVariants as of_partition
use Rattle.apex_types.specs.declared.row.PortDirection.TheVariants.{Source, Destination}
use Rattle.machine_meaning.specs.ImageSpelling.{u8, discipline, direction, truth, module_action, partition_action}
use Rattle.machine_meaning.specs.ImageReading.{choice_at, discipline_of, direction_of, truth_of, module_action_of, partition_action_of}
use Rattle.machine_laws.proofs.ImageFields.{Reads}
use Rattle.machine_laws.proofs.ImageNames.{Chooses, choice_reads}

chosen_first : {A : Type 0} (number : A → ℕ) (n k : ℕ) (c : A) (o : Option A) (a : A) (b : Bool) → (b ≡ true → n ≡ k) → k ≡ number c → (o ≡ Some a → n ≡ number a) → cond b (Some c) o ≡ Some a → n ≡ number a
chosen_first number n k c o a true is code rest h = let same : c ≡ a = cc in is refl ∙ code ∙ ap number same
chosen_first number n k c o a false is code rest h = rest h

-- one more number of a choice, before the others
next : {A : Type 0} (number : A → ℕ) (n k : ℕ) (c : A) (o : Option A) (a : A) → k ≡ number c → (o ≡ Some a → n ≡ number a) → cond (eqb n k) (Some c) o ≡ Some a → n ≡ number a
next number n k c o a = chosen_first number n k c o a (eqb n k) (eqb-true n k)

none_left : {A : Type 0} (number : A → ℕ) (n : ℕ) (a : A) (o : Option A) → o ≡ None → o ≡ Some a → n ≡ number a
none_left number n a o e h = absurd cc

disciplines : Chooses discipline_of discipline
disciplines = record {
  back = elim [ Fifo ↦ refl | Priority ↦ refl ];
  only = λ n a. next discipline n 0 Fifo _ a refl (next discipline n 1 Priority None a refl (none_left discipline n a None refl));
  small = elim [ Fifo ↦ lit< tt | Priority ↦ lit< tt ];
}

directions : Chooses direction_of direction
directions = record {
  back = elim [ Source ↦ refl | Destination ↦ refl ];
  only = λ n a. next direction n 0 Source _ a refl (next direction n 1 Destination None a refl (none_left direction n a None refl));
  small = elim [ Source ↦ lit< tt | Destination ↦ lit< tt ];
}

truths : Chooses truth_of truth
truths = record {
  back = elim [ false ↦ refl | true ↦ refl ];
  only = λ n a. next truth n 0 false _ a refl (next truth n 1 true None a refl (none_left truth n a None refl));
  small = elim [ false ↦ lit< tt | true ↦ lit< tt ];
}

module_actions : Chooses module_action_of module_action
module_actions = record {
  back = elim [ of_module.Ignore ↦ refl | of_module.Shutdown ↦ refl | of_module.Reset ↦ refl ];
  only = λ n a. next module_action n 0 of_module.Ignore _ a refl (next module_action n 1 of_module.Shutdown _ a refl (next module_action n 2 of_module.Reset None a refl (none_left module_action n a None refl)));
  small = elim [ of_module.Ignore ↦ lit< tt | of_module.Shutdown ↦ lit< tt | of_module.Reset ↦ lit< tt ];
}

partition_actions : Chooses partition_action_of partition_action
partition_actions = record {
  back = elim [ of_partition.Ignore ↦ refl | of_partition.Idle ↦ refl | of_partition.WarmStart ↦ refl | of_partition.ColdStart ↦ refl ];
  only = λ n a. next partition_action n 0 of_partition.Ignore _ a refl (next partition_action n 1 of_partition.Idle _ a refl (next partition_action n 2 of_partition.WarmStart _ a refl (next partition_action n 3 of_partition.ColdStart None a refl (none_left partition_action n a None refl))));
  small = elim [ of_partition.Ignore ↦ lit< tt | of_partition.Idle ↦ lit< tt | of_partition.WarmStart ↦ lit< tt | of_partition.ColdStart ↦ lit< tt ];
}

pub discipline_reads : Reads (choice_at discipline_of) (λ a. u8 (discipline a)) (λ _. Unit {0})
discipline_reads = choice_reads discipline_of discipline disciplines

pub direction_reads : Reads (choice_at direction_of) (λ a. u8 (direction a)) (λ _. Unit {0})
direction_reads = choice_reads direction_of direction directions

pub truth_reads : Reads (choice_at truth_of) (λ a. u8 (truth a)) (λ _. Unit {0})
truth_reads = choice_reads truth_of truth truths

pub module_action_reads : Reads (choice_at module_action_of) (λ a. u8 (module_action a)) (λ _. Unit {0})
module_action_reads = choice_reads module_action_of module_action module_actions

pub partition_action_reads : Reads (choice_at partition_action_of) (λ a. u8 (partition_action a)) (λ _. Unit {0})
partition_action_reads = choice_reads partition_action_of partition_action partition_actions
