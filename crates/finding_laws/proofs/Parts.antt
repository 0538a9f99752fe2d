-- What is found at the keys of a part, and of what types its values are.
use Rattle.finding_laws.proofs.Prelude.{◌≡◌, ℕ, ◌||◌, Bool, ◌∷◌, Option, Some, ◌∙◌, codes, or_parts, is_none, Data, Members, array, as_array, as_bool, as_integer, as_str, as_table, boolean, datetime, float, get_member, integer, member, members_are_sorted, string, table, is_one_of, keys, needed, of_part, of_type, one, Subject}
use Rattle.std.proofs.Common.{true, false, not, List, [], None, refl, sym, ap}
use Rattle.std.specs.List.{list_any}
use Rattle.toml.specs.Data.{no_members}
use Rattle.module_meaning.specs.TableRules.{has_only, same}
use Rattle.finding_laws.specs.Any.{has_any}
use Rattle.finding_laws.proofs.Found.{any_if, two}
use Rattle.finding_laws.proofs.Keys.{any_member, at_key, by_keys, or_unknown}
use Rattle.table_findings.specs.Fields.{wanted}
use Rattle.table_findings.specs.Findings.{Unknown}
use Rattle.table_findings.specs.Shape.{members, missing, one_member}
use Rattle.table_findings.specs.declared.fields.Part.{Part}
use Rattle.table_findings.specs.declared.fields.Part.TheVariants as part

-- a key that is not there
abbrev pub is_missing : Members → List ℕ → Bool
is_missing ms k = is_none (get_member k ms)

-- what is wrong with a member of a part
abbrev pub is_wrong_member : Subject → Part → List ℕ → Data → Bool
is_wrong_member s p k d = has_any (one_member s p k d)

missing_any : (s : Subject) (p : Part) (ms : Members) (ks : List (List ℕ)) → list_any (is_missing ms) ks ≡ has_any (missing s p ms ks)
missing_any s p ms [] = refl
missing_any s p ms (k ∷ ks) = two _ _ _ _ (sym (any_if (is_none (get_member k ms)) _ _ refl refl)) (missing_any s p ms ks)

members_any : (s : Subject) (p : Part) (ms : Members) → any_member (is_wrong_member s p) ms ≡ has_any (members s p ms)
members_any s p no_members = refl
members_any s p (member k d ms) = two _ _ _ _ refl (members_any s p ms)

module _ (k : List ℕ) where
  -- a key that is none of a part's has no type there
  no_type : (p : Part) → is_one_of (keys p) k ≡ false → wanted p k ≡ None
  no_type part.Module h =
      let a = or_parts (same k (codes "frame")) _ h in
      let b = or_parts (same k (codes "fault")) _ a.1 in
      let c = or_parts (same k (codes "partition")) _ b.1 in
      let d = or_parts (same k (codes "window")) _ c.1 in
      let e = or_parts (same k (codes "cost")) _ d.1 in
      let f = or_parts (same k (codes "channel")) _ e.1 in
      rw (a.0, b.0, c.0, d.0, e.0, f.0) refl
  no_type part.Costs h = rw h refl
  no_type part.Partition h =
      let a = or_parts (same k (codes "name")) _ h in
      let b = or_parts (same k (codes "period")) _ a.1 in
      let c = or_parts (same k (codes "duration")) _ b.1 in
      let d = or_parts (same k (codes "hm")) _ c.1 in
      let e = or_parts (same k (codes "port")) _ d.1 in
      rw (a.0, b.0, c.0, d.0, e.0) refl
  no_type part.Health h = rw h refl
  no_type part.SamplingPort h =
      let a = or_parts (same k (codes "name")) _ h in
      let b = or_parts (same k (codes "kind")) _ a.1 in
      let c = or_parts (same k (codes "direction")) _ b.1 in
      let d = or_parts (same k (codes "words")) _ c.1 in
      let e = or_parts (same k (codes "refresh")) _ d.1 in
      rw (a.0, b.0, c.0, d.0, e.0) refl
  no_type part.QueuingPort h =
      let a = or_parts (same k (codes "name")) _ h in
      let b = or_parts (same k (codes "kind")) _ a.1 in
      let c = or_parts (same k (codes "direction")) _ b.1 in
      let d = or_parts (same k (codes "words")) _ c.1 in
      let e = or_parts (same k (codes "depth")) _ d.1 in
      let f = or_parts (same k (codes "discipline")) _ e.1 in
      rw (a.0, b.0, c.0, d.0, e.0, f.0) refl
  no_type part.Port h =
      let a = or_parts (same k (codes "name")) _ h in
      let b = or_parts (same k (codes "kind")) _ a.1 in
      let c = or_parts (same k (codes "direction")) _ b.1 in
      let d = or_parts (same k (codes "words")) _ c.1 in
      let r = or_parts (same k (codes "refresh")) _ d.1 in
      let e = or_parts (same k (codes "depth")) _ r.1 in
      let f = or_parts (same k (codes "discipline")) _ e.1 in
      rw (a.0, b.0, c.0, d.0, r.0, e.0, f.0) refl
  no_type part.Window h =
      let a = or_parts (same k (codes "partition")) _ h in
      let b = or_parts (same k (codes "offset")) _ a.1 in
      let c = or_parts (same k (codes "length")) _ b.1 in
      let d = or_parts (same k (codes "release")) _ c.1 in
      rw (a.0, b.0, c.0, d.0) refl
  no_type part.Channel h =
      let a = or_parts (same k (codes "name")) _ h in
      let b = or_parts (same k (codes "source")) _ a.1 in
      let c = or_parts (same k (codes "destinations")) _ b.1 in
      rw (a.0, b.0, c.0) refl

unknown_found : (s : Subject) (p : Part) (k : List ℕ) (d : Data) → is_one_of (keys p) k ≡ false → is_wrong_member s p k d ≡ true
unknown_found s p k d h = ap (λ (o : Option (List ℕ)). has_any (elim o [ None ↦ one s (Some k) (Unknown p) | Some type ↦ of_type s (Some k) type d ])) (no_type k p h)

-- a part: a key that is missing or not known, or a value of another type at one that is
pub part_any : (s : Subject) (p : Part) (ms : Members) → members_are_sorted ms ≡ true
    → list_any (is_missing ms) (needed p) || (not (has_only (is_one_of (keys p)) ms) || list_any (at_key (is_wrong_member s p) ms) (keys p)) ≡ has_any (of_part s p ms)
part_any s p ms sorted =
    two _ _ _ _ (missing_any s p ms (needed p))
    (sym (by_keys (is_wrong_member s p) (keys p) ms sorted) ∙ or_unknown (is_wrong_member s p) (keys p) ms (unknown_found s p) ∙ members_any s p ms)

-- ---- a value that is missing or of another type

module _ (s : Subject) (key : Option (List ℕ)) where
  pub is_text : (d : Data) → is_none (as_str d) ≡ has_any (of_type s key (codes "string") d)
  is_text (string x) = refl
  is_text (integer x) = refl
  is_text (float x) = refl
  is_text (boolean x) = refl
  is_text (datetime x) = refl
  is_text (array x) = refl
  is_text (table x) = refl

  pub is_integer : (d : Data) → is_none (as_integer d) ≡ has_any (of_type s key (codes "integer") d)
  is_integer (string x) = refl
  is_integer (integer x) = refl
  is_integer (float x) = refl
  is_integer (boolean x) = refl
  is_integer (datetime x) = refl
  is_integer (array x) = refl
  is_integer (table x) = refl

  pub is_boolean : (d : Data) → is_none (as_bool d) ≡ has_any (of_type s key (codes "boolean") d)
  is_boolean (string x) = refl
  is_boolean (integer x) = refl
  is_boolean (float x) = refl
  is_boolean (boolean x) = refl
  is_boolean (datetime x) = refl
  is_boolean (array x) = refl
  is_boolean (table x) = refl

  pub is_array : (d : Data) → is_none (as_array d) ≡ has_any (of_type s key (codes "array") d)
  is_array (string x) = refl
  is_array (integer x) = refl
  is_array (float x) = refl
  is_array (boolean x) = refl
  is_array (datetime x) = refl
  is_array (array x) = refl
  is_array (table x) = refl

  pub is_table : (d : Data) → is_none (as_table d) ≡ has_any (of_type s key (codes "table") d)
  is_table (string x) = refl
  is_table (integer x) = refl
  is_table (float x) = refl
  is_table (boolean x) = refl
  is_table (datetime x) = refl
  is_table (array x) = refl
  is_table (table x) = refl
