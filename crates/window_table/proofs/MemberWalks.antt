-- Walking through the members of a table.
use Rattle.std.proofs.Common.{◌≡◌, ℕ, Bool, true, false, List, [], ◌∷◌, String, Global, string_bytes, is_some, refl}
use Rattle.toml.specs.Data.{as_str}
use Rattle.toml.specs.View.{view, members_view}
use Rattle.toml.specs.declared.value.Value.{Value}
use Rattle.module_meaning.specs.TableRules.{has_only, has_texts_only}

abbrev Entry : Type 0
Entry = String Global × Value

pub only-stops : (known : List ℕ → Bool) (all : Bool) (es : List Entry) (e : Entry) (rest : List Entry) (text : List ℕ) → all ≡ has_only known (members_view es) → es ≡ e ∷ rest → text ≡ string_bytes e.0 → false ≡ known text → false ≡ all
unfolding has_only
only-stops known all es e rest text inv step key wrong = rw (inv, step, ← key, ← wrong) refl

pub only-goes : (known : List ℕ → Bool) (all : Bool) (es : List Entry) (e : Entry) (rest : List Entry) (text : List ℕ) → all ≡ has_only known (members_view es) → es ≡ e ∷ rest → text ≡ string_bytes e.0 → true ≡ known text → all ≡ has_only known (members_view rest)
unfolding has_only
only-goes known all es e rest text inv step key right = rw (inv, step, ← key, ← right) refl

pub only-ends : (known : List ℕ → Bool) (all : Bool) (es : List Entry) → all ≡ has_only known (members_view es) → es ≡ [] → true ≡ all
unfolding has_only
only-ends known all es inv end = rw (inv, end) refl

pub texts-stop : (all : Bool) (es : List Entry) (e : Entry) (rest : List Entry) → all ≡ has_texts_only (members_view es) → es ≡ e ∷ rest → false ≡ is_some (as_str (view e.1)) → false ≡ all
unfolding has_texts_only
texts-stop all es e rest inv step wrong = rw (inv, step, ← wrong) refl

pub texts-go : (all : Bool) (es : List Entry) (e : Entry) (rest : List Entry) → all ≡ has_texts_only (members_view es) → es ≡ e ∷ rest → true ≡ is_some (as_str (view e.1)) → all ≡ has_texts_only (members_view rest)
unfolding has_texts_only
texts-go all es e rest inv step right = rw (inv, step, ← right) refl

pub texts-end : (all : Bool) (es : List Entry) → all ≡ has_texts_only (members_view es) → es ≡ [] → true ≡ all
unfolding has_texts_only
texts-end all es inv end = rw (inv, end) refl
