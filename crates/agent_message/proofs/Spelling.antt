-- What bytes spell, and that they spell it: the fields that stand at the offsets.
use Rattle.std.proofs.Common.{◌≡◌, ℕ, ◌+◌, ◌-◌, ◌^◌, ◌<◌, ◌≤◌, ◌⊎◌, zero, suc, ℤ, true, List, ◌++◌, length, take, drop, replicate, get_or, slice_range, Ok, refl, sym, ap, ◌∙◌, arith, length-append, length-take, length-drop, inl, inr}
use Rattle.std.specs.Int.{w32, w64, to_be_bytes, from_be_bytes, cast_signed, cast_unsigned}
use Rattle.std.specs.List.{list_all}
use Rattle.std.proofs.Math.Facts.{Fits-of_z, sfits_to_z}
use Rattle.std.proofs.lemmas.Bool.{cases_lt}
use Rattle.std.proofs.lemmas.Int.{to_z-of_z, of_z-to_z}
use Rattle.std.proofs.lemmas.List.{take-append-drop, take_at, drop_at, take_all, length-replicate, get_or-take, get_or-drop, get_or_past}
use Rattle.std.proofs.lemmas.Nat.{be_bytes_4, be_bytes_8, from_be_bytes-to_be_bytes_4, from_be_bytes-to_be_bytes_8}
use Rattle.sha2.specs.Sha256.{sha256}
use Rattle.sha2.proofs.Facts256.{length-sha256}
use Rattle.agent_message.specs.Decoding.{Decodes}
use Rattle.agent_message.specs.Fields.{number_at, header_length, name_field, digest_field, payload_length, payload_in, message_in}
use Rattle.agent_message.specs.Layout.{IsMessage, IsEncodable, canonical, Spells, IsSound}
use Rattle.agent_message.specs.Names.{IsName, IsPublication, is_filler_byte, name_of, filler_of}
use Rattle.agent_message.specs.declared.message.Message.{Message}
use Rattle.agent_message.proofs.NameLemmas.{name_of-append, list_all-take_while}
use Rattle.agent_message.proofs.Parts.{AreFields, StandIn, stand, parts, same_parts, length-part}

-- the first eight bytes of an id and the last eight are the id
halves : (id : List ℕ) → length id ≡ 16 → slice_range id 0 8 ++ slice_range id 8 16 ≡ id
halves id len = rw (take_all 8 (drop 8 id) (omega (arith, length-drop 8 id)))
    (take-append-drop 8 id)

-- a message's parts at their offsets
pub spelled_parts : (m : Message) (bytes : List ℕ) (s : Spells m bytes)
    → StandIn bytes (to_be_bytes w32 116) (m.name ++ s.filler) (to_be_bytes w32 m.schema)
    (to_be_bytes w64 m.date) (to_be_bytes w64 (cast_unsigned w64 m.seq)) (to_be_bytes w64 m.flags)
    (slice_range m.id 8 16) (slice_range m.id 0 8) s.digest (to_be_bytes w32 m.ptype)
    (to_be_bytes w32 (length m.payload)) m.payload
spelled_parts m bytes s =
    let are : AreFields (to_be_bytes w32 116) (m.name ++ s.filler) (to_be_bytes w32 m.schema)
    (to_be_bytes w64 m.date) (to_be_bytes w64 (cast_unsigned w64 m.seq))
    (to_be_bytes w64 m.flags) (slice_range m.id 8 16) (slice_range m.id 0 8) s.digest
    (to_be_bytes w32 m.ptype) (to_be_bytes w32 (length m.payload)) = record {
      header = refl;
      name = omega (arith, length-append m.name s.filler, s.filled);
      schema = refl;
      date = refl;
      seq = refl;
      flags = refl;
      id_end = length-part m.id 8 8 (omega (arith, s.message.id));
      id_start = length-part m.id 0 8 (omega (arith, s.message.id));
      digest = s.hashed;
      ptype = refl;
      size = refl;
    } in
    stand bytes _ _ _ _ _ _ _ _ _ _ _ m.payload are s.laid_out

-- the first half of an id, and the second
half_front : (front back : List ℕ) → length front ≡ 8 → front ≡ slice_range (front ++ back) 0 8
half_front front back len = sym (take_at front back 8 len)

half_back : (front back : List ℕ) → length front ≡ 8 → length back ≡ 8
    → back ≡ slice_range (front ++ back) 8 16
half_back front back len rest = rw (drop_at front back 8 len) (sym (take_all 8 back (omega arith)))

-- a message of these fields
abbrev pub made : List ℕ → ℕ → ℕ → ℤ → ℕ → List ℕ → ℕ → List ℕ → Message
made name schema date seq flags id ptype payload = record {
  name = name;
  schema = schema;
  date = date;
  seq = seq;
  flags = flags;
  id = id;
  ptype = ptype;
  payload = payload;
}

-- a message is its fields
pub same_message : (m : Message) (name : List ℕ) (schema date : ℕ) (seq : ℤ) (flags : ℕ)
    (id : List ℕ) (ptype : ℕ) (payload : List ℕ)
    → m.name ≡ name → m.schema ≡ schema → m.date ≡ date → m.seq ≡ seq → m.flags ≡ flags → m.id ≡ id
    → m.ptype ≡ ptype → m.payload ≡ payload
    → m ≡ made name schema date seq flags id ptype payload
same_message m name schema date seq flags id ptype payload e1 e2 e3 e4 e5 e6 e7 e8 =
    let fields : m ≡ made m.name m.schema m.date m.seq m.flags m.id m.ptype m.payload = refl in
    cc

-- the message that bytes spell is the one whose fields stand at the offsets
pub only_message : (m : Message) (bytes : List ℕ) → Spells m bytes → m ≡ message_in bytes
only_message m bytes s =
    let p = spelled_parts m bytes s in
    let fits = s.message in
    let name : m.name ≡ name_of (name_field bytes) =
    rw p.name (sym (name_of-append m.name s.filler fits.name.2 s.fills)) in
    let schema : m.schema ≡ number_at w32 36 bytes =
    sym (ap (from_be_bytes w32) p.schema ∙ from_be_bytes-to_be_bytes_4 m.schema fits.schema) in
    let date : m.date ≡ number_at w64 40 bytes =
    sym (ap (from_be_bytes w64) p.date ∙ from_be_bytes-to_be_bytes_8 m.date fits.date) in
    let bits_fit : cast_unsigned w64 m.seq < 2 ^ 64 = omega (arith, Fits-of_z fits.seq) in
    let seq : m.seq ≡ cast_signed w64 (number_at w64 48 bytes) =
    sym (ap (cast_signed w64) (ap (from_be_bytes w64) p.seq
    ∙ from_be_bytes-to_be_bytes_8 (cast_unsigned w64 m.seq) bits_fit)
    ∙ to_z-of_z w64 m.seq fits.seq) in
    let flags : m.flags ≡ number_at w64 56 bytes =
    sym (ap (from_be_bytes w64) p.flags ∙ from_be_bytes-to_be_bytes_8 m.flags fits.flags) in
    let id : m.id ≡ slice_range bytes 72 80 ++ slice_range bytes 64 72 =
    rw (p.id_start, p.id_end) (sym (halves m.id fits.id)) in
    let ptype : m.ptype ≡ number_at w32 112 bytes =
    sym (ap (from_be_bytes w32) p.ptype ∙ from_be_bytes-to_be_bytes_4 m.ptype fits.ptype) in
    let payload : m.payload ≡ payload_in bytes = sym p.payload in
    same_message m _ _ _ _ _ _ _ _ name schema date seq flags id ptype payload

-- ---- the canonical spelling

-- spaces are filler
spaces_fill : (n : ℕ) → list_all is_filler_byte (replicate n 32) ≡ true
spaces_fill zero = refl
spaces_fill (suc n) = spaces_fill n

-- it is a spelling
pub Spells-canonical : (m : Message) → IsMessage m → length m.payload ≤ 65536
    → Spells m (canonical m)
Spells-canonical m fits sized = record {
  message = fits;
  sized = omega arith;
  filler = replicate (32 - length m.name) 32;
  filled = omega (arith, length-replicate {A = ℕ} (32 - length m.name) 32, fits.name.1);
  fills = spaces_fill (32 - length m.name);
  digest = sha256 m.payload;
  hashed = length-sha256 m.payload;
  laid_out = refl;
}

-- and it is sound
pub IsSound-canonical : (m : Message) → IsMessage m → length m.payload ≤ 65536 → (0 < m.date)
    ⊎ IsPublication m.name → IsSound m (canonical m)
unfolding Spells-canonical
IsSound-canonical m fits sized dated = record {
  sized = sized;
  dated = dated;
  hashed = inl (spelled_parts m (canonical m) (Spells-canonical m fits sized)).digest;
}

-- so what can be written is read again
pub Decodes-canonical : (m : Message) → IsEncodable m → Decodes (canonical m) (Ok m)
Decodes-canonical m can =
    (Spells-canonical m can.message can.sized, IsSound-canonical m can.message can.sized can.dated)

-- ---- the fields of any bytes

-- each element is a byte
abbrev pub IsBytes : List ℕ → Type 0
IsBytes bytes = (i : ℕ) → get_or bytes i 0 < 256

-- so is each of a part
pub IsBytes-part : (bytes : List ℕ) (at n : ℕ) → IsBytes bytes → IsBytes (take n (drop at bytes))
IsBytes-part bytes at n fits i =
    elim (cases_lt i n) [
      | inl within ↦ rw (
        get_or-take n (drop at bytes) i 0 within,
        get_or-drop at bytes i 0,
      ) (fits (at + i))
      | inr past ↦ rw (get_or_past (take n (drop at bytes)) i 0
          (omega (arith, length-take n (drop at bytes)))) (omega arith)
    ]

-- a number of four bytes
below_32 : (bytes : List ℕ) → IsBytes bytes → from_be_bytes w32 bytes < 2 ^ 32
below_32 bytes fits = omega (arith, fits 0, fits 1, fits 2, fits 3)

-- a number of eight bytes
below_64 : (bytes : List ℕ) → IsBytes bytes → from_be_bytes w64 bytes < 2 ^ 64
below_64 bytes fits = omega (arith, fits 0, fits 1, fits 2, fits 3, fits 4, fits 5, fits 6, fits 7)

-- what the fields hold is a message, where the name is one
IsMessage-message_in : (bytes : List ℕ) → IsBytes bytes → 120 ≤ length bytes
    → IsName (name_of (name_field bytes)) → IsMessage (message_in bytes)
IsMessage-message_in bytes fits long valid = record {
  name = valid;
  schema = below_32 _ (IsBytes-part bytes 36 4 fits);
  date = below_64 _ (IsBytes-part bytes 40 8 fits);
  seq = sfits_to_z (record { fits = below_64 _ (IsBytes-part bytes 48 8 fits) });
  flags = below_64 _ (IsBytes-part bytes 56 8 fits);
  id = omega (
    arith,
    length-append (slice_range bytes 72 80) (slice_range bytes 64 72),
    length-part bytes 72 8 (omega arith),
    length-part bytes 64 8 (omega arith),
  );
  ptype = below_32 _ (IsBytes-part bytes 112 4 fits);
}

-- four bytes are those of their number
pub four : (bytes : List ℕ) (at : ℕ) → IsBytes bytes → at + 4 ≤ length bytes
    → slice_range bytes at (at + 4) ≡ to_be_bytes w32 (number_at w32 at bytes)
four bytes at fits within =
    sym (be_bytes_4 (slice_range bytes at (at + 4)) _ (length-part bytes at 4 within)
    (IsBytes-part bytes at (at + 4 - at) fits) refl)

-- so are eight
eight : (bytes : List ℕ) (at : ℕ) → IsBytes bytes → at + 8 ≤ length bytes
    → slice_range bytes at (at + 8) ≡ to_be_bytes w64 (number_at w64 at bytes)
eight bytes at fits within =
    sym (be_bytes_8 (slice_range bytes at (at + 8)) _ (length-part bytes at 8 within)
    (IsBytes-part bytes at (at + 8 - at) fits) refl)

-- bytes spell what their fields hold, where nothing speaks against it
pub Spells-message_in : (bytes : List ℕ) → IsBytes bytes → 120 ≤ length bytes
    → header_length bytes ≡ 116
    → IsName (name_of (name_field bytes))
    → name_of (name_field bytes) ++ filler_of (name_field bytes) ≡ name_field bytes
    → payload_length bytes ≡ length (payload_in bytes) → Spells (message_in bytes) bytes
Spells-message_in bytes fits long header valid named sized = record {
  message = IsMessage-message_in bytes fits long valid;
  sized = rw (← sized) (below_32 _ (IsBytes-part bytes 116 4 fits));
  filler = filler_of (name_field bytes);
  filled = omega (
    arith,
    length-append (name_of (name_field bytes)) (filler_of (name_field bytes)),
    ap length named,
    length-part bytes 4 32 (omega arith),
  );
  fills = list_all-take_while is_filler_byte
      (drop (length (name_of (name_field bytes))) (name_field bytes));
  digest = digest_field bytes;
  hashed = length-part bytes 80 32 (omega arith);
  laid_out =
      let seq_fits : number_at w64 48 bytes < 2 ^ 64 = below_64 _ (IsBytes-part bytes 48 8 fits) in
      parts bytes ∙ same_parts
      (four bytes 0 fits (omega arith) ∙ ap (to_be_bytes w32) header)
      (sym named)
      (four bytes 36 fits (omega arith))
      (eight bytes 40 fits (omega arith))
      (eight bytes 48 fits (omega arith)
      ∙ ap (to_be_bytes w64) (sym (of_z-to_z w64 (number_at w64 48 bytes) seq_fits)))
      (eight bytes 56 fits (omega arith))
      (half_back (slice_range bytes 72 80) (slice_range bytes 64 72)
      (length-part bytes 72 8 (omega arith)) (length-part bytes 64 8 (omega arith)))
      (half_front (slice_range bytes 72 80) (slice_range bytes 64 72)
      (length-part bytes 72 8 (omega arith)))
      refl
      (four bytes 112 fits (omega arith))
      (four bytes 116 fits (omega arith) ∙ ap (to_be_bytes w32) sized)
      refl;
}
