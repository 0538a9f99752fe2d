-- The start of the partitions, one after the other.
use Rattle.module.proofs.Prelude.{◌≡◌, ℕ, zero, suc, ◌+◌, ◌<◌, ◌≤◌, List, ◌∷◌, ◌++◌, length, map, take, drop, Option, Some, None, refl, sym, ap, ◌∙◌, arith, slice_get, flat_map, Event, StartCondition, At, Stepped, steps_member, start_lines, Member, members_of, AreFitting, Ghosts}
use Rattle.std.proofs.Common.{[], subst}
use Rattle.module_meaning.specs.Module.{started_member}
use Rattle.kernel_meaning.specs.Partition.{cold_start}
use Rattle.module.proofs.Members.{members_count}
use Rattle.partition.specs.declared.partition.Partition.{Partition}

module _ (at : At) (reason : StartCondition) where
  -- the start of a partition
  abbrev pub starts_member : {C : Type 0} → List (Member C) → ℕ → Option (Member C) → Stepped (List (Member C))
  starts_member members place o = steps_member (cold_start at reason) members place o

  -- the first n members have started, and the others have not
  abbrev pub started_to : {C : Type 0} → ℕ → List (Member C) → List (Member C)
  started_to n xs = map (started_member at reason) (take n xs) ++ drop n xs

  pub none_left : {C : Type 0} (xs : List (Member C)) → flat_map (start_lines at reason) (drop (length xs) xs) ≡ []
  none_left [] = refl
  none_left (x ∷ xs) = none_left xs

  behind_members : {C : Type 0} (y : Member C) (ms : List (Member C)) (n : ℕ) (o : Option (Member C)) → (starts_member (y ∷ ms) (suc n) o).state ≡ y ∷ (starts_member ms n o).state
  behind_members y ms n None = refl
  behind_members y ms n (Some x) = refl

  behind_lines : {C : Type 0} (y : Member C) (ms : List (Member C)) (n : ℕ) (o : Option (Member C)) → (starts_member (y ∷ ms) (suc n) o).lines ≡ (starts_member ms n o).lines
  behind_lines y ms n None = refl
  behind_lines y ms n (Some x) = refl

  pub next_members : {C : Type 0} (xs : List (Member C)) (n : ℕ) → n < length xs → (starts_member (started_to n xs) n (slice_get (started_to n xs) n)).state ≡ started_to (n + 1) xs
  next_members [] n h = absurd (omega arith)
  next_members (x ∷ xs) zero h = refl
  next_members (x ∷ xs) (suc n) h =
      let next : suc (n + 1) ≡ suc n + 1 = omega arith in
      behind_members (started_member at reason x) (started_to n xs) n (slice_get (started_to n xs) n)
      ∙ ap (λ l. started_member at reason x ∷ l) (next_members xs n (omega arith))
      ∙ ap (λ k. started_to k (x ∷ xs)) next

  pub next_lines : {C : Type 0} (xs : List (Member C)) (n : ℕ) → n < length xs → flat_map (start_lines at reason) (drop n xs) ≡ (starts_member (started_to n xs) n (slice_get (started_to n xs) n)).lines ++ flat_map (start_lines at reason) (drop (n + 1) xs)
  next_lines [] n h = absurd (omega arith)
  next_lines (x ∷ xs) zero h = refl
  next_lines (x ∷ xs) (suc n) h =
      let next : suc (n + 1) ≡ suc n + 1 = omega arith in
      next_lines xs n (omega arith)
      ∙ ap (λ (es : List Event). es ++ flat_map (start_lines at reason) (drop (n + 1) xs)) (sym (behind_lines (started_member at reason x) (started_to n xs) n (slice_get (started_to n xs) n)))
      ∙ ap (λ k. (starts_member (started_to (suc n) (x ∷ xs)) (suc n) (slice_get (started_to n xs) n)).lines ++ flat_map (start_lines at reason) (drop k (x ∷ xs))) next

  as_many : {C : Type 0} (n : ℕ) (xs : List (Member C)) → length (started_to n xs) ≡ length xs
  as_many zero [] = refl
  as_many (suc n) [] = refl
  as_many zero (x ∷ xs) = refl
  as_many (suc n) (x ∷ xs) = ap suc (as_many n xs)

  pub within_members : {E X : Type 0} (g : Ghosts E X) (ps : List (Partition E X)) (memory : List X) (n : ℕ) (xs : List (Member g.Control)) → AreFitting g ps memory → members_of g ps memory ≡ started_to n xs → n < length ps → n < length xs
  within_members g ps memory n xs fit so_far h =
      let same : length ps ≡ length xs = sym (members_count g ps memory fit) ∙ ap length so_far ∙ as_many n xs in
      subst (λ k. n < k) same h

  -- after the last one, all have started, and nothing is left
  pub all_past : {C : Type 0} (n : ℕ) (xs : List (Member C)) → length xs ≤ n → started_to n xs ≡ map (started_member at reason) xs
  all_past zero [] h = refl
  all_past (suc n) [] h = refl
  all_past zero (x ∷ xs) h = absurd (omega (arith, h))
  all_past (suc n) (x ∷ xs) h = ap (λ l. started_member at reason x ∷ l) (all_past n xs (omega (arith, h)))

  pub none_past : {C : Type 0} (n : ℕ) (xs : List (Member C)) → length xs ≤ n → flat_map (start_lines at reason) (drop n xs) ≡ []
  none_past zero [] h = refl
  none_past (suc n) [] h = refl
  none_past zero (x ∷ xs) h = absurd (omega (arith, h))
  none_past (suc n) (x ∷ xs) h = none_past n xs (omega (arith, h))

  pub past_members : {E X : Type 0} (g : Ghosts E X) (ps : List (Partition E X)) (memory : List X) (n : ℕ) (xs : List (Member g.Control)) → AreFitting g ps memory → members_of g ps memory ≡ started_to n xs → length ps ≤ n → length xs ≤ n
  past_members g ps memory n xs fit so_far h =
      let same : length ps ≡ length xs = sym (members_count g ps memory fit) ∙ ap length so_far ∙ as_many n xs in
      subst (λ k. k ≤ n) same h

  -- one more has started
  pub step_members : {C : Type 0} (now next xs : List (Member C)) (n : ℕ) → now ≡ started_to n xs → n < length xs → next ≡ (starts_member now n (slice_get now n)).state → next ≡ started_to (n + 1) xs
  step_members now next xs n so_far h e = e ∙ ap (λ ms. (starts_member ms n (slice_get ms n)).state) so_far ∙ next_members xs n h

  -- its lines, and those of the others
  pub step_lines : {C : Type 0} (now xs : List (Member C)) (n : ℕ) → now ≡ started_to n xs → n < length xs
      → flat_map (start_lines at reason) (drop n xs) ≡ (starts_member now n (slice_get now n)).lines ++ flat_map (start_lines at reason) (drop (n + 1) xs)
  step_lines now xs n so_far h =
      let rest = flat_map (start_lines at reason) (drop (n + 1) xs) in
      next_lines xs n h ∙ ap (λ ms. (starts_member ms n (slice_get ms n)).lines ++ rest) (sym so_far)
