-- A field that is read is read the same with any bytes after it, and a fault that is found is found again; only what ends within
-- a field may be read differently.
use Rattle.finding_laws.proofs.Prelude.{◌≡◌, ℕ, suc, ◌≤◌, Bool, cond, ◌∷◌, ◌++◌, take, drop, Option, Some, Ok, Err, ◌∙◌, subst, nat_lt, w32, ltb-false, ltb-true, length-append, Truncated, Foreign, Limit, Order, Trailing, Read, number_at}
use Rattle.std.proofs.Common.{arith, zero, true, false, List, [], length, None, refl, sym, ap}
use Rattle.std.specs.Prelude.{◌||◌}
use Rattle.std.specs.Int.{Width, byte_len, from_le_bytes}
use Rattle.machine_meaning.specs.ImageReading.{◌>>=◌, byte_at, bytes_at, choice_at, chosen, items_at, limited_at, list_at, small_at, within}

-- the same, with more bytes following
unfoldable pub Goes : {A : Type 0} → List ℕ → Read A → Read A → Type 0
Goes more (Ok x) other = other ≡ Ok (x.0, x.1 ++ more)
Goes more (Err Truncated) other = Unit {0}
Goes more (Err Foreign) other = other ≡ Err Foreign
Goes more (Err Limit) other = other ≡ Err Limit
Goes more (Err Order) other = other ≡ Err Order
Goes more (Err Trailing) other = other ≡ Err Trailing

abbrev pub Steady : {A : Type 0} → (List ℕ → Read A) → Type 0
Steady read = (bytes more : List ℕ) → Goes more (read bytes) (read (bytes ++ more))

-- ---- one field after another

module _ {A B : Type 0} (more : List ℕ) (F : A × List ℕ → Read B) (next : (x : A) → Steady (λ rest. F (x, rest))) where
  goes_then : (a b : Read A) → Goes more a b → Goes more (a >>= F) (b >>= F)
  unfolding Goes
  goes_then (Ok x) b h = subst (λ c. Goes more (F x) (c >>= F)) (sym h) (next x.0 x.1 more)
  goes_then (Err Truncated) b h = tt
  goes_then (Err Foreign) b h = ap (λ c. c >>= F) h
  goes_then (Err Limit) b h = ap (λ c. c >>= F) h
  goes_then (Err Order) b h = ap (λ c. c >>= F) h
  goes_then (Err Trailing) b h = ap (λ c. c >>= F) h

pub then_steady : {A B : Type 0} (read : List ℕ → Read A) (F : A × List ℕ → Read B) → Steady read → ((x : A) → Steady (λ rest. F (x, rest))) → Steady (λ bytes. read bytes >>= F)
then_steady read F steady next bytes more = goes_then more F next (read bytes) (read (bytes ++ more)) (steady bytes more)

pub ok_steady : {A : Type 0} (x : A) → Steady (λ rest. Ok (x, rest))
unfolding Goes
ok_steady x bytes more = refl

pub limit_steady : (A : Type 0) → Steady {A = A} (λ rest. Err Limit)
unfolding Goes
limit_steady A bytes more = refl

pub order_steady : (A : Type 0) → Steady {A = A} (λ rest. Err Order)
unfolding Goes
order_steady A bytes more = refl

pub foreign_steady : (A : Type 0) → Steady {A = A} (λ rest. Err Foreign)
unfolding Goes
foreign_steady A bytes more = refl

pub either_steady : {A : Type 0} (t : Bool) (F G : List ℕ → Read A) → Steady F → Steady G → Steady (λ bytes. cond t (F bytes) (G bytes))
either_steady true F G f g = f
either_steady false F G f g = g

-- ---- bytes and numbers

enough : (n : ℕ) (bytes more : List ℕ) → n ≤ length bytes → (take n (bytes ++ more) ≡ take n bytes) × (drop n (bytes ++ more) ≡ drop n bytes ++ more)
enough zero bytes more few = (refl, refl)
enough (suc n) [] more few = absurd (omega (arith, few))
enough (suc n) (b ∷ bytes) more few = let rest = enough n bytes more (omega (arith, few)) in (ap (λ (bs : List ℕ). b ∷ bs) rest.0, rest.1)

not_below : (n m : ℕ) → n ≤ m → nat_lt m n ≡ false
not_below n m few = no (nat_lt m n) refl
  where
    no : (t : Bool) → nat_lt m n ≡ t → t ≡ false
    no true is = absurd (omega (arith, few, ltb-true m n is))
    no false is = refl

module _ {A : Type 0} (n : ℕ) (value : List ℕ → A) where
  some_steady : Steady (λ bytes. cond (nat_lt (length bytes) n) (Err Truncated) (Ok (value (take n bytes), drop n bytes)))
  unfolding Goes
  some_steady bytes more = by (nat_lt (length bytes) n) refl
    where
      by : (t : Bool) → nat_lt (length bytes) n ≡ t
          → Goes more (cond t (Err Truncated) (Ok (value (take n bytes), drop n bytes))) (cond (nat_lt (length (bytes ++ more)) n) (Err Truncated) (Ok (value (take n (bytes ++ more)), drop n (bytes ++ more))))
      by true is = tt
      by false is =
          let few : n ≤ length bytes = ltb-false (length bytes) n is in
          let parts = enough n bytes more few in
          let long : nat_lt (length (bytes ++ more)) n ≡ false = not_below n (length (bytes ++ more)) (omega (arith, few, length-append bytes more)) in
          ap (λ t. cond t (Err Truncated) (Ok (value (take n (bytes ++ more)), drop n (bytes ++ more)))) long ∙ ap (λ v. Ok (value v, drop n (bytes ++ more))) parts.0 ∙ ap (λ v. Ok (value (take n bytes), v)) parts.1

pub number_steady : (w : Width) → Steady (number_at w)
number_steady w = some_steady (byte_len w) (from_le_bytes w)

pub bytes_steady : (size : ℕ) → Steady (bytes_at size)
unfolding bytes_at
bytes_steady size = some_steady size (λ bytes. bytes)

pub byte_steady : Steady byte_at
unfolding Goes
byte_steady [] more = tt
byte_steady (b ∷ bytes) more = refl

pub within_steady : (low high n : ℕ) → Steady (λ rest. within low high (n, rest))
within_steady low high n = either_steady (nat_lt n low || nat_lt high n) _ _ (limit_steady ℕ) (ok_steady n)

pub limited_steady : (w : Width) (low high : ℕ) → Steady (limited_at w low high)
unfolding limited_at
limited_steady w low high = then_steady (number_at w) _ (number_steady w) (λ n. within_steady low high n)

pub small_steady : (low high : ℕ) → Steady (small_at low high)
unfolding small_at
small_steady low high = then_steady byte_at _ byte_steady (λ n. within_steady low high n)

-- ---- choices and lists

pub chosen_steady : {A : Type 0} (choice : Option A) → Steady (λ rest. chosen rest choice)
chosen_steady {A} None = limit_steady A
chosen_steady (Some x) = ok_steady x

pub choice_steady : {A : Type 0} (choose : ℕ → Option A) → Steady (choice_at choose)
unfolding choice_at
choice_steady choose = then_steady byte_at _ byte_steady (λ n. chosen_steady (choose n))

pub items_steady : {A : Type 0} (item : List A → List ℕ → Read A) → ((before : List A) → Steady (item before)) → (n : ℕ) (before : List A) → Steady (items_at item n before)
unfolding items_at
items_steady item steady zero before = ok_steady before
items_steady item steady (suc n) before = then_steady (item before) _ (steady before) (λ x. items_steady item steady n (before ++ x ∷ []))

pub list_steady : {A : Type 0} (low high : ℕ) (item : List A → List ℕ → Read A) → ((before : List A) → Steady (item before)) → Steady (list_at low high item)
unfolding list_at
list_steady low high item steady = then_steady (limited_at w32 low high) _ (limited_steady w32 low high) (λ count. items_steady item steady count [])
