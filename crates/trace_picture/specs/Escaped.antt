-- Text as XML writes it.
use Rattle.std.specs.Prelude.{ℕ, List, [], ◌∷◌, true, false, flat_map, codes, chars, Bool, ◌||◌, ◌&&◌, ◌==◌, nat_le, not, cond, encode_utf8}

-- XML allows the characters from the space on but two, and the tab, the line feed and the carriage return
abbrev pub is_allowed : ℕ → Bool
is_allowed c = (c == 9) || (c == 10) || (c == 13) || (nat_le 32 c && not (c == 65534) && not (c == 65535))

-- a character that XML does not allow is written as the replacement character
abbrev pub shown : ℕ → ℕ
shown c = cond (is_allowed c) c 65533

-- the bytes of a character: the five that have a meaning in XML are written as their entities
abbrev pub character_text : ℕ → List ℕ
character_text c = cond (c == 38) (codes "&amp;")
    (cond (c == 60) (codes "&lt;")
    (cond (c == 62) (codes "&gt;")
    (cond (c == 34) (codes "&quot;")
    (cond (c == 39) (codes "&apos;")
    (encode_utf8 (shown c))))))

-- the bytes of a text, character by character
abbrev pub escaped : List ℕ → List ℕ
escaped text = flat_map character_text (chars text)

-- the text begins with these bytes
abbrev pub begins : List ℕ → List ℕ → Bool
begins [] text = true
begins (b ∷ bs) [] = false
begins (b ∷ bs) (c ∷ cs) = (b == c) && begins bs cs

-- after an ampersand: the rest of one of the five entities
abbrev pub is_entity : List ℕ → Bool
is_entity text = begins (codes "amp;") text || begins (codes "lt;") text || begins (codes "gt;") text || begins (codes "quot;") text || begins (codes "apos;") text

-- The bytes may be written between quotes and between tags: there is no `<`, `>`, `"` or `'`, and each `&` begins an entity.
abbrev pub is_plain : List ℕ → Bool
is_plain [] = true
is_plain (c ∷ cs) = not (c == 60) && not (c == 62) && not (c == 34) && not (c == 39) && (not (c == 38) || is_entity cs) && is_plain cs
