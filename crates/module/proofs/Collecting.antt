-- Inputs that are collected one part after another.
use Rattle.module.proofs.Prelude.{◌≡◌, ◌≢◌, ℕ, zero, suc, ◌+◌, ◌<◌, ◌≤◌, ◌==◌, ℤ, Bool, true, false, cond, if◌then◌else◌, List, ◌∷◌, ◌++◌, length, map, drop, Option, Some, None, Result, Ok, Err, refl, sym, ap, ◌∙◌, append_assoc, append-nil, length-append, arith, length-map, map-append, none-some, same_Some, ArrayVec, DeviceLine, PartitionId, ChannelEnd, Channel, at_number, Plan, messages_to_move, Port, is_source, Input, InputLine, brought_by, brought_in, brought_in_all, brought_to, held_port, held_ports, line_in, message_behind, AreCollected, HasNoRoom, brought_found, held_found, InputsFault}
use Rattle.std.proofs.Common.{[], slice_get, flat_map, subst}
use Rattle.apex_types.specs.declared.row.ChannelEnd.TheVariants as ends
use Rattle.isolation.specs.declared.input.Input.TheVariants.{Arrive}
use Rattle.isolation.specs.Brought.{shuts_down}
use Rattle.module.specs.declared.inputs_fault.InputsFault.TheVariants as fault

-- ---- no input, and one

pub none_collected : {X : Type 0} (tick : ℕ) (old : List InputLine) (x : X) → AreCollected tick [] old old (Ok x)
none_collected tick old x = sym (append-nil old)

-- if there is no room for some inputs, there is none when others follow them
pub no_room_for_more : (count more : ℕ) (f : InputsFault) → count ≤ more → HasNoRoom count f → HasNoRoom more f
no_room_for_more count more fault.TooMany above h = omega (arith, above, h)
no_room_for_more count more fault.Memory above h = tt
no_room_for_more count more fault.Ticks above h = absurd h
no_room_for_more count more (fault.Image f) above h = absurd h
no_room_for_more count more fault.Partition above h = absurd h
no_room_for_more count more (fault.Device f) above h = absurd h
no_room_for_more count more fault.Write above h = absurd h

-- the result if there is no room
pub collected_err : {X : Type 0} (tick : ℕ) (inputs : List Input) (old new : List InputLine) (f : InputsFault) (r : Result X InputsFault) → r ≡ Err f → HasNoRoom (length old + length inputs) f → AreCollected tick inputs old new r
collected_err tick inputs old new f r e h = subst (AreCollected tick inputs old new) (sym e) h

pub ruleset collecting = (none_collected)

-- ---- one part after another

-- Some of the inputs of a tick are collected, and the rest is still to come.
pub record IsPartly (tick : ℕ) (whole rest : List Input) (old now : List InputLine) : Type 0 where
  pub done : List Input
  pub parts : whole ≡ done ++ rest
  pub collected : now ≡ old ++ map (line_in tick) done

pub begins : (tick : ℕ) (whole : List Input) (old : List InputLine) → IsPartly tick whole whole old old
begins tick whole old = record { done = []; parts = refl; collected = sym (append-nil old) }

-- one more part
pub goes_on : {tick : ℕ} {whole now : List Input} {old mid new : List InputLine} (a rest : List Input) → now ≡ a ++ rest → IsPartly tick whole now old mid → new ≡ mid ++ map (line_in tick) a → IsPartly tick whole rest old new
goes_on {tick = tick} {old = old} a rest split w h = record {
  done = w.done ++ a;
  parts = w.parts ∙ ap (λ (is : List Input). w.done ++ is) split ∙ sym (append_assoc w.done a rest);
  collected = h ∙ ap (λ (ls : List InputLine). ls ++ map (line_in tick) a) w.collected ∙ append_assoc old (map (line_in tick) w.done) (map (line_in tick) a) ∙ ap (λ (ls : List InputLine). old ++ ls) (sym (map-append (line_in tick) w.done a));
}

-- nothing is left
pub is_over : {tick : ℕ} {whole now : List Input} {old new : List InputLine} → now ≡ [] → IsPartly tick whole now old new → new ≡ old ++ map (line_in tick) whole
is_over {tick = tick} {old = old} none w =
    w.collected ∙ ap (λ (is : List Input). old ++ map (line_in tick) is) (sym (w.parts ∙ ap (λ (is : List Input). w.done ++ is) none ∙ append-nil w.done))

-- without room for the next part there is none for the whole
pub no_room_left : {tick : ℕ} {whole now : List Input} {old mid : List InputLine} (a rest : List Input) (f : InputsFault) → now ≡ a ++ rest → IsPartly tick whole now old mid → HasNoRoom (length mid + length a) f → HasNoRoom (length old + length whole) f
no_room_left {tick = tick} {whole = whole} {now = now} {old = old} {mid = mid} a rest f split w h =
    let all : length whole ≡ length w.done + (length a + length rest) = ap length w.parts ∙ length-append w.done now ∙ ap (λ (k : ℕ). length w.done + k) (ap length split ∙ length-append a rest) in
    let so_far : length mid ≡ length old + length w.done = ap length w.collected ∙ length-append old (map (line_in tick) w.done) ∙ ap (λ (k : ℕ). length old + k) (length-map w.done (line_in tick)) in
    no_room_for_more (length mid + length a) (length old + length whole) f (omega (arith, all, so_far)) h

-- two parts
pub both_collected : {X : Type 0} (tick : ℕ) (a b : List Input) (old mid new : List InputLine) (r : Result X InputsFault) → mid ≡ old ++ map (line_in tick) a → AreCollected tick b mid new r → AreCollected tick (a ++ b) old new r
both_collected tick a b old mid new (Ok x) first h = is_over {now = []} refl (goes_on b [] (sym (append-nil b)) (goes_on a b refl (begins tick (a ++ b) old) first) h)
both_collected tick a b old mid new (Err f) first h = no_room_left b [] f (sym (append-nil b)) (goes_on a b refl (begins tick (a ++ b) old) first) h

-- ---- the parts

either_end : (b : Bool) (i : Input) (rest : List Input) → (if b then i ∷ rest else rest) ≡ (if b then i ∷ [] else []) ++ rest
either_end true i rest = refl
either_end false i rest = refl

-- a message to one more end
pub one_end : (p : ℕ) (m : ArrayVec ℤ) (e : ChannelEnd) (es : List ChannelEnd) → brought_to p m (e ∷ es) ≡ brought_to p m (e ∷ []) ++ brought_to p m es
one_end p m ends.Device es = refl
one_end p m (ends.Port q port) es = either_end (q.0 == p) (Arrive port m) (brought_to p m es)

-- one more line, which shuts nothing down
pub one_line : (plan : Plan) (p : ℕ) (l : DeviceLine) (ls : List DeviceLine) → shuts_down plan.fault l.input ≡ false → brought_in_all plan p (l ∷ ls) ≡ brought_in plan p l.input ++ brought_in_all plan p ls
one_line plan p l ls e = ap (λ (b : Bool). brought_in plan p l.input ++ (if b then [] else brought_in_all plan p ls)) e

-- a line that shuts the module down is the last
pub last_line : (plan : Plan) (p : ℕ) (l : DeviceLine) (ls : List DeviceLine) → shuts_down plan.fault l.input ≡ true → brought_in_all plan p (l ∷ ls) ≡ brought_in plan p l.input ++ []
last_line plan p l ls e = ap (λ (b : Bool). brought_in plan p l.input ++ (if b then [] else brought_in_all plan p ls)) e

drop_get : {A : Type 0} (xs : List A) (n : ℕ) (x : A) → slice_get xs n ≡ Some x → drop n xs ≡ x ∷ drop (n + 1) xs
drop_get [] n x e = absurd (none-some x e)
drop_get (y ∷ ys) zero x e = ap (λ z. z ∷ ys) (same_Some y x e)
drop_get (y ∷ ys) (suc n) x e =
    let next : suc n + 1 ≡ suc (n + 1) = omega arith in
    drop_get ys n x e ∙ ap (λ k. x ∷ drop k (y ∷ ys)) (sym next)

there_is : {A : Type 0} (xs : List A) (n : ℕ) → n < length xs → (x : A) × (slice_get xs n ≡ Some x)
there_is [] n h = absurd (omega (arith, h))
there_is (x ∷ xs) zero h = (x, refl)
there_is (x ∷ xs) (suc n) h = there_is xs n (omega (arith, h))

-- ---- the messages of a port

-- the inputs that a port with this message and those after it brings
abbrev pub messages_bring : ℕ → Option Channel → List (ArrayVec ℤ) → List Input
messages_bring p channel ms = flat_map (λ m. brought_by p m channel) ms

abbrev pub held_messages : Option Port → List (ArrayVec ℤ)
held_messages None = []
held_messages (Some x) = x.messages

-- one more message of the port
pub one_message : (p : ℕ) (channel : Option Channel) (o : Option Port) (n : ℕ) → n < length (held_messages o)
    → messages_bring p channel (drop n (held_messages o)) ≡ brought_found p channel (message_behind n o) ++ messages_bring p channel (drop (n + 1) (held_messages o))
one_message p channel None n h = absurd (omega (arith, h))
one_message p channel (Some x) n h =
    let r = there_is x.messages n h in
    ap (messages_bring p channel) (drop_get x.messages n r.0 r.1)
    ∙ ap (λ (m : Option (ArrayVec ℤ)). brought_found p channel m ++ messages_bring p channel (drop (n + 1) x.messages)) (sym r.1)

-- a port that has `count` messages to move holds `count` messages, and brings them all
pub so_many_held : (o : Option Port) (count : ℕ) → Some count ≡ messages_to_move o → count ≡ length (held_messages o)
so_many_held None count e = absurd (none-some count (sym e))
so_many_held (Some x) count e = source (is_source x) e
  where
    source : (b : Bool) → Some count ≡ (if b then Some (length x.messages) else None) → count ≡ length x.messages
    source true h = same_Some count (length x.messages) h
    source false h = absurd (none-some count (sym h))

-- ---- the ports of a partition

-- one more port
pub one_port : (channels : List Channel) (p : ℕ) (q : PartitionId) (ports : List Port) (place : ℕ) → place < length ports
    → held_ports channels p q (place + 1) (drop place ports) ≡ held_found channels p q (place + 1) (at_number ports (place + 1)) ++ held_ports channels p q (place + 1 + 1) (drop (place + 1) ports)
one_port channels p q ports place h =
    let r = there_is ports place h in
    let number : place + 1 ≡ suc place = omega arith in
    ap (held_ports channels p q (place + 1)) (drop_get ports place r.0 r.1)
    ∙ ap (λ (o : Option Port). held_found channels p q (place + 1) o ++ held_ports channels p q (place + 1 + 1) (drop (place + 1) ports)) (sym (ap (at_number ports) number ∙ r.1))
