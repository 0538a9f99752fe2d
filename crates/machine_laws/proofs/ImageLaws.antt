-- An image that is read has these bytes as its spelling, and a lawful image is read again from its
-- spelling.
use Rattle.std.proofs.Common.{◌≡◌, ℕ, ◌^◌, Bool, true, false, cond, eqb, List, [], ◌++◌, length, Result, Ok, Err, refl, sym, ap, subst, ◌∙◌, arith, lit<}
use Rattle.std.specs.Prelude.{◌||◌, ◌<◌}
use Rattle.std.specs.Int.{w16, w32}
use Rattle.std.specs.Str.{bytes_eq}
use Rattle.std.proofs.lemmas.Bool.{eqb-true}
use Rattle.std.proofs.lemmas.List.{append-nil, nil_from_length}
use Rattle.std.proofs.lemmas.Slice.Eq.{bytes_eq-Decides}
use Rattle.apex_types.specs.declared.version.TheConstants.{FIRST_VERSION, SECOND_VERSION, THIRD_VERSION}
use Rattle.apex_types.specs.declared.limits.TheConstants.{MOST_CHANNELS, MOST_FRAME_TICKS, MOST_WINDOWS}
use Rattle.machine_meaning.specs.Image.{Image}
use Rattle.machine_meaning.specs.ImageSpelling.{u8, u16, u32, list, module_action, item, window, channel, own_fields, front, head, spelling}
use Rattle.apex_types.specs.Versions.{limits_of, number_of}
use Rattle.machine_laws.proofs.VersionLimits.{limits_small}
use Rattle.machine_meaning.specs.Image.{magic}
use Rattle.machine_meaning.specs.ImageReading.{Fault, Foreign, Limit, Trailing, Read, ◌>>=◌, number_at, limited_at, bytes_at, choice_at, module_action_of, list_at, item_at, window_at, channel_at, magic_at, version_at, own_fields_at, fields_at, keeps_table_rules, image_at}
use Rattle.machine_meaning.specs.ImageLimits.{IsFrom, IsItem, IsWindow, IsChannel, IsWithinLimits, IsLawful}
use Rattle.machine_laws.proofs.ImageFields.{IsBytes, bind_ok, ok_is, Takes, Takes-then, Reads, said, first, last, assoc4}
use Rattle.machine_laws.proofs.ImageNumbers.{wide16, wide32, number_reads, limited_reads}
use Rattle.machine_laws.proofs.ImageNames.{bytes_reads, held}
use Rattle.machine_laws.proofs.ImageChoices.{module_action_reads}
use Rattle.machine_laws.proofs.ImageCosts.{is_version, own_fields_reads, numbered_known}
use Rattle.machine_laws.proofs.ImageLists.{list_reads}
use Rattle.machine_laws.proofs.ImageTables.{item_reads, window_reads, channel_reads}

magic_is : (text : List ℕ) → bytes_eq text magic ≡ true → text ≡ magic
magic_is text h = (bytes_eq-Decides text magic).0 h

-- a number of a version has 16 bits
version_low : (n : ℕ) → is_version n ≡ true → n < 2 ^ 16
version_low n known = either (eqb n FIRST_VERSION) (eqb n SECOND_VERSION) (eqb n THIRD_VERSION) refl refl refl known
  where
    either : (a b c : Bool) → eqb n FIRST_VERSION ≡ a → eqb n SECOND_VERSION ≡ b → eqb n THIRD_VERSION ≡ c → (a || b || c) ≡ true → n < 2 ^ 16
    either true b c e f g h = omega (arith, eqb-true n FIRST_VERSION e)
    either false true c e f g h = omega (arith, eqb-true n SECOND_VERSION f)
    either false false true e f g h = omega (arith, eqb-true n THIRD_VERSION g)
    either false false false e f g h = absurd cc

version_reads : Reads version_at (λ n. magic ++ u16 n) (λ n. is_version n ≡ true)
unfolding version_at magic_at
version_reads = record {
  takes = λ bytes x fits e.
      let a = bind_ok (magic_at bytes) (λ text. number_at w16 text.1 >>= λ number. cond (is_version number.0) (Ok number) (Err Foreign)) x e in
      let b = bind_ok (bytes_at 8 bytes) (λ text. cond (bytes_eq text.0 magic) (Ok text) (Err Foreign)) a.0 a.1 in
      let c = bind_ok (number_at w16 a.0.1) (λ number. cond (is_version number.0) (Ok number) (Err Foreign)) x a.2 in
      let m = held (bytes_eq b.0.0 magic) Foreign b.0 a.0 b.2 in
      let v = held (is_version c.0.0) Foreign c.0 x c.2 in
      let p = (bytes_reads 8).takes bytes b.0 fits b.1 in
      let p1 : Takes bytes magic a.0.1 = subst (λ (t : List ℕ). Takes bytes t a.0.1) (ap (λ (y : List ℕ × List ℕ). y.0) (sym m.1) ∙ magic_is b.0.0 m.0) (subst (λ (y : List ℕ × List ℕ). Takes bytes y.0 y.1) m.1 p.0) in
      let q = (number_reads w16 (2 ^ 16) wide16).takes a.0.1 c.0 p1.rest_fits c.1 in
      let both = Takes-then bytes magic a.0.1 (u16 c.0.0) c.0.1 p1 q.0 in
      subst (λ (y : ℕ × List ℕ). Takes bytes (magic ++ u16 y.0) y.1 × (is_version y.0 ≡ true)) v.1 (both, v.0);
  again = λ n rest good.
      ap (λ (y : Read (List ℕ)). (y >>= λ text. cond (bytes_eq text.0 magic) (Ok text) (Err Foreign)) >>= λ text. number_at w16 text.1 >>= λ number. cond (is_version number.0) (Ok number) (Err Foreign)) ((bytes_reads 8).again magic (u16 n ++ rest) refl)
      ∙ ap (λ (y : Read ℕ). y >>= λ number. cond (is_version number.0) (Ok number) (Err Foreign)) ((number_reads w16 (2 ^ 16) wide16).again n rest (version_low n good))
      ∙ ap (λ (b : Bool). cond b (Ok (n, rest)) (Err Foreign)) good;
}

pub fields_reads : Reads fields_at spelling IsWithinLimits
unfolding fields_at spelling head front
fields_reads = said fields_at _ spelling _ IsWithinLimits
    (first version_at _ (λ (image : Image). number_of image.version) (λ n. magic ++ u16 n) (λ image. u32 image.schedule.frame ++ (u8 (module_action image.fault) ++ (own_fields image.version ++ (list item image.items ++ (list window image.schedule.windows ++ list channel image.channels))))) _ _
    version_reads
    (λ number o. first (limited_at w32 1 MOST_FRAME_TICKS) _ (λ (image : Image). image.schedule.frame) u32 (λ image. u8 (module_action image.fault) ++ (own_fields image.version ++ (list item image.items ++ (list window image.schedule.windows ++ list channel image.channels)))) (IsFrom 1 MOST_FRAME_TICKS) _
    (limited_reads w32 (2 ^ 32) wide32 1 MOST_FRAME_TICKS (lit< tt))
    (λ frame p. first (choice_at module_action_of) _ (λ (image : Image). image.fault) (λ a. u8 (module_action a)) (λ image. own_fields image.version ++ (list item image.items ++ (list window image.schedule.windows ++ list channel image.channels))) _ _
    module_action_reads
    (λ fault q. first (own_fields_at number) _ (λ (image : Image). image.version) own_fields (λ image. list item image.items ++ (list window image.schedule.windows ++ list channel image.channels)) _ _
    (own_fields_reads number o)
    (λ version v. first (list_at 1 (limits_of version).partitions (item_at (limits_of version) frame)) _ (λ (image : Image). image.items) (list item) (λ image. list window image.schedule.windows ++ list channel image.channels) _ _
    (list_reads (item_at (limits_of version) frame) item (IsItem (limits_of version) frame) 1 (limits_of version).partitions (omega (arith, (limits_small version).partitions)) (item_reads (limits_of version) (limits_small version) frame (omega (arith, p.most))))
    (λ items r. first (list_at 1 MOST_WINDOWS window_at) _ (λ (image : Image). image.schedule.windows) (list window) (λ image. list channel image.channels) _ _
    (list_reads window_at window IsWindow 1 MOST_WINDOWS (lit< tt) window_reads)
    (λ windows s. last (list_at 0 MOST_CHANNELS channel_at) (λ channels. record { schedule = record { frame = frame; windows = windows }; fault = fault; version = version; items = items; channels = channels }) (λ (image : Image). image.channels) (list channel) _
    (list_reads channel_at channel IsChannel 0 MOST_CHANNELS (lit< tt) channel_reads) (λ a. refl))
    (λ windows image s g. ap (λ (image : Image). image.schedule.windows) g.1))
    (λ items image r g. ap (λ (image : Image). image.items) g.1.1))
    (λ version image v g. ap (λ (image : Image). image.version) g.1.1.1))
    (λ fault image q g. ap (λ (image : Image). image.fault) g.1.1.1.1))
    (λ frame image p g. ap (λ (image : Image). image.schedule.frame) g.1.1.1.1.1))
    (λ number image o g. g.1.1.0))
    (λ image. ap (λ (t : List ℕ). magic ++ u16 (number_of image.version) ++ u32 image.schedule.frame ++ u8 (module_action image.fault) ++ t) (assoc4 (own_fields image.version) (list item image.items) (list window image.schedule.windows) (list channel image.channels)))
    (λ image g. record { frame = g.1.0; item_count = g.1.1.1.1.0.0; items = g.1.1.1.1.0.1; window_count = g.1.1.1.1.1.0.0; windows = g.1.1.1.1.1.0.1; channel_count = g.1.1.1.1.1.1.0.0; channels = g.1.1.1.1.1.1.0.1 })
    (λ image g. (numbered_known image.version, (g.frame, (tt, (refl, ((g.item_count, g.items), ((g.window_count, g.windows), ((g.channel_count, g.channels), refl))))))))

abbrev ok_image : Image → Result Image Fault
ok_image x = Ok x

image_same : (x y : Image) → ok_image x ≡ ok_image y → x ≡ y
image_same x y e = cc

ended : (t b : Bool) (x y : Image) → cond t (cond b (Ok x) (Err Limit)) (Err Trailing) ≡ Ok y → (t ≡ true) × (b ≡ true) × (x ≡ y)
ended true true x y e = (refl, refl, image_same x y e)
ended true false x y e = absurd cc
ended false b x y e = absurd cc

-- an image that is read is lawful, and the bytes are its spelling
pub read_is_spelled : (bytes : List ℕ) (image : Image) → IsBytes bytes → image_at bytes ≡ Ok image → IsLawful image × (bytes ≡ spelling image)
unfolding image_at
read_is_spelled bytes image fits e =
    let a = bind_ok (fields_at bytes) (λ x. cond (eqb (length x.1) 0) (cond (keeps_table_rules x.0) (Ok x.0) (Err Limit)) (Err Trailing)) image e in
    let g = ended (eqb (length a.0.1) 0) (keeps_table_rules a.0.0) a.0.0 image a.2 in
    let p = fields_reads.takes bytes a.0 fits a.1 in
    let whole : bytes ≡ spelling a.0.0 = p.0.parts ∙ ap (λ (r : List ℕ). spelling a.0.0 ++ r) (nil_from_length a.0.1 (eqb-true _ _ g.0)) ∙ append-nil (spelling a.0.0) in
    subst (λ (v : Image). IsLawful v × (bytes ≡ spelling v)) g.2 (record { limits = p.1; rules = g.1 }, whole)

-- a lawful image is read again from its spelling
pub spelled_is_read : (image : Image) → IsLawful image → image_at (spelling image) ≡ Ok image
unfolding image_at
spelled_is_read image good =
    ap image_at (sym (append-nil (spelling image)))
    ∙ ap (λ (y : Read Image). y >>= λ x. cond (eqb (length x.1) 0) (cond (keeps_table_rules x.0) (Ok x.0) (Err Limit)) (Err Trailing)) (fields_reads.again image [] good.limits)
    ∙ ap (λ (b : Bool). cond b (Ok image) (Err Limit)) good.rules

abbrev ok_read : Image × List ℕ → Read Image
ok_read x = Ok x

both_read : (one other : Image) (rest : List ℕ) → ok_read (other, []) ≡ ok_read (one, rest) → (one ≡ other) × (rest ≡ [])
both_read one other rest e = let i = ok_is (other, []) (one, rest) e in (ap (λ (y : Image × List ℕ). y.0) (sym i), ap (λ (y : Image × List ℕ). y.1) (sym i))

-- no spelling begins another
pub none_begins_another : (one other : Image) (rest : List ℕ) → IsLawful one → IsLawful other → spelling other ≡ spelling one ++ rest → (one ≡ other) × (rest ≡ [])
none_begins_another one other rest a b e =
    both_read one other rest (sym (fields_reads.again other [] b.limits) ∙ ap fields_at (append-nil (spelling other) ∙ e) ∙ fields_reads.again one rest a.limits)
