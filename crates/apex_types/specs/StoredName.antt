-- How a name lies in its bytes.
use Rattle.std.specs.Prelude.{◌≡◌, ℕ, ◌-◌, List, ◌++◌, length, take, IsTrue, replicate}
use Rattle.apex_types.specs.Limits.{MOST_NAME_BYTES}
use Rattle.apex_types.specs.NameText.{is_name}

-- the bytes of a text: after its end they are 0
abbrev pub stored : List ℕ → List ℕ
stored text = text ++ replicate (MOST_NAME_BYTES - length text) 0

pub record IsStored (text : List ℕ) (len : ℕ) : Type 0 where
  pub form : IsTrue (is_name (take len text))
  pub rest : stored (take len text) ≡ text
  pub len_is : length (take len text) ≡ len
