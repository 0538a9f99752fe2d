-- The text of a line of inputs is the text written part by part.
use Rattle.module_base.proofs.Prelude.{◌≡◌, ℕ, ℤ, codes, List, ◌∷◌, ◌++◌, map, ◌∙◌, append-nil, words_text, space, Partition, at_number, Input, PartitionFault, InputLine, input_text}
use Rattle.std.proofs.Common.{[], refl, sym, ap}
use Rattle.std.specs.Prelude.{flat_map}
use Rattle.std.specs.Fmt.{decimal, signed_decimal}
use Rattle.std.specs.List.{join_with_byte}
use Rattle.isolation.specs.declared.input.Input.TheVariants.{Arrive, ModuleFault}
use Rattle.isolation.specs.InputText.{input_parts, name_of_port}
use Rattle.module_base.specs.LineText.{behind_tick, line_text}

-- parts, each after a space
spaced : List (List ℕ) → List ℕ
spaced ps = flat_map (λ (p : List ℕ). space ∷ p) ps

join_spaced : (p : List ℕ) (ps : List (List ℕ)) → join_with_byte space (p ∷ ps) ≡ p ++ spaced ps
unfolding spaced
join_spaced p [] = sym (append-nil p)
join_spaced p (q ∷ ps) = ap (λ (xs : List ℕ). p ++ space ∷ xs) (join_spaced q ps)

words_spaced : (ws : List ℤ) → spaced (map signed_decimal ws) ≡ words_text ws
unfolding spaced
words_spaced [] = refl
words_spaced (w ∷ ws) = ap (λ (xs : List ℕ). (space ∷ signed_decimal w) ++ xs) (words_spaced ws)

parts_spaced : (row : Partition) (i : Input) → spaced (input_parts row i) ≡ behind_tick row i
unfolding spaced
parts_spaced row (Arrive port m) = ap (λ (xs : List ℕ). codes " ARRIVE " ++ name_of_port (at_number row.ports port.0) ++ xs) (words_spaced m.items)
parts_spaced row ModuleFault = refl
parts_spaced row PartitionFault = ap (λ (xs : List ℕ). codes " FAULT " ++ xs) (append-nil row.name)

pub line_is : (row : Partition) (l : InputLine) → input_text row l ≡ line_text row l
line_is row l =
    ap (λ (xs : List ℕ). xs ++ 10 ∷ []) (join_spaced (decimal l.tick.0) (input_parts row l.input))
    ∙ ap (λ (xs : List ℕ). decimal l.tick.0 ++ xs ++ 10 ∷ []) (parts_spaced row l.input)
