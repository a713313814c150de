-- The pieces at the front of a list of bytes.
use Rattle.std.proofs.Common.{◌≡◌, ℕ, ◌+◌, ◌-◌, ◌≤◌, List, [], ◌∷◌, ◌++◌, length, take, drop, Ok, refl, sym, ap, subst, ◌∙◌, append_assoc, arith, length-append, length-take, length-drop}
use Rattle.std.specs.Int.{w32, to_be_bytes, from_be_bytes}
use Rattle.std.specs.List.{sum_by}
use Rattle.std.proofs.lemmas.List.{take-append-le}
use Rattle.std.proofs.lemmas.List.Sums.{sum_by-cons}
use Rattle.std.proofs.lemmas.Nat.{from_be_bytes-to_be_bytes_4}
use Rattle.agent_message.specs.Captures.{Pieces, max_message, piece, piece_length, said_length}
use Rattle.agent_message.specs.Decoding.{Decodes}
use Rattle.agent_message.specs.Layout.{IsEncodable, canonical}
use Rattle.agent_message.specs.declared.message.Message.{Message}
use Rattle.agent_message.proofs.Parts.{part}
use Rattle.agent_message.proofs.Spelling.{IsBytes, Spells-canonical, four, spelled_parts}

-- ---- one piece

-- a message has 120 bytes beside its payload
pub length-canonical : (m : Message) → IsEncodable m → length (canonical m) ≡ 120 + length m.payload
length-canonical m can =
    (spelled_parts m (canonical m) (Spells-canonical m can.message can.sized)).long

-- so has each sound spelling, and no more than the longest message
pub sound_is_short : (m : Message) (spelled : List ℕ) → Decodes spelled (Ok m)
    → length spelled ≤ max_message
sound_is_short m spelled is = omega (arith, (spelled_parts m spelled is.0).long, is.1.sized)

-- the length at the front of a piece is that of its message
pub said_length-piece : (spelled more : List ℕ) → length spelled ≤ max_message
    → said_length (piece spelled ++ more) ≡ length spelled
said_length-piece spelled more short =
    from_be_bytes-to_be_bytes_4 (length spelled) (omega arith)

-- a piece is its length and its message
pub length-piece : (spelled more : List ℕ)
    → length (piece spelled ++ more) ≡ 4 + length spelled + length more
length-piece spelled more =
    omega (
      arith,
      length-append (piece spelled) more,
      length-append (to_be_bytes w32 (length spelled)) spelled,
    )

-- more bytes leave the length at the front as it is
pub said_length-append : (bytes more : List ℕ) → 4 ≤ length bytes
    → said_length (bytes ++ more) ≡ said_length bytes
said_length-append bytes more there =
    ap (from_be_bytes w32) (take-append-le 4 bytes more there)

-- bytes in which a whole piece is are the piece and what is behind it
pub split_piece : (bytes : List ℕ) (size : ℕ) → IsBytes bytes → size ≡ said_length bytes
    → 4 + size ≤ length bytes
    → bytes ≡ piece (take (4 + size - 4) (drop 4 bytes)) ++ drop (4 + size) bytes
split_piece bytes size fits said whole =
    let sized : length (take (4 + size - 4) (drop 4 bytes)) ≡ size =
    omega (arith, length-take (4 + size - 4) (drop 4 bytes), length-drop 4 bytes) in
    let size_bytes : take 4 bytes ≡ to_be_bytes w32 (length (take (4 + size - 4) (drop 4 bytes))) =
    four bytes 0 fits (omega arith) ∙ ap (to_be_bytes w32) (sym (sized ∙ said)) in
    let more = drop (4 + size) bytes in
    part bytes 0 4
    ∙ ap (λ behind. take 4 bytes ++ behind) (part bytes 4 size)
    ∙ sym (append_assoc (take 4 bytes) (take (4 + size - 4) (drop 4 bytes)) more)
    ∙ ap (λ front. front ++ take (4 + size - 4) (drop 4 bytes) ++ more) size_bytes

-- ---- many pieces

-- more bytes belong to the rest
pub Pieces-append : (messages : List Message) (bytes rest more : List ℕ)
    → Pieces messages bytes rest
    → Pieces messages (bytes ++ more) (rest ++ more)
Pieces-append [] bytes rest more are = ap (λ front. front ++ more) are
Pieces-append (m ∷ messages) bytes rest more are = (
  are.0,
  are.1 ++ more,
  ap (λ front. front ++ more) are.2 ∙ append_assoc (piece are.0) are.1 more,
  are.3,
  Pieces-append messages are.1 rest more are.4,
)

-- a whole piece at the front of the rest is the next one
pub Pieces-push : (messages : List Message) (m : Message) (bytes spelled more : List ℕ)
    → Pieces messages bytes (piece spelled ++ more) → Decodes spelled (Ok m)
    → Pieces (messages ++ m ∷ []) bytes more
Pieces-push [] m bytes spelled more are is = (spelled, more, are, is, refl)
Pieces-push (n ∷ messages) m bytes spelled more are is =
    (are.0, are.1, are.2, are.3, Pieces-push messages m are.1 spelled more are.4 is)

-- the rest is no longer than the bytes
pub rest_is_short : (messages : List Message) (bytes rest : List ℕ) → Pieces messages bytes rest
    → length rest ≤ length bytes
rest_is_short [] bytes rest are = omega (arith, ap length are)
rest_is_short (m ∷ messages) bytes rest are =
    omega (
      arith,
      ap length are.2,
      length-append (piece are.0) are.1,
      rest_is_short messages are.1 rest are.4,
    )

-- pieces and what is behind them are as long as they say
pub length-Pieces : (messages : List Message) (bytes rest : List ℕ) → Pieces messages bytes rest
    → length bytes ≡ sum_by piece_length messages + length rest
length-Pieces [] bytes rest are = omega (arith, ap length are)
length-Pieces (m ∷ messages) bytes rest are =
    omega (
      arith,
      sum_by-cons piece_length m messages,
      ap length are.2,
      length-piece are.0 are.1,
      (spelled_parts m are.0 are.3.0).long,
      length-Pieces messages are.1 rest are.4,
    )

-- pieces behind pieces
pub Pieces-join : (messages more : List Message) (bytes middle rest : List ℕ)
    → Pieces messages bytes middle → Pieces more middle rest → Pieces (messages ++ more) bytes rest
Pieces-join [] more bytes middle rest first second =
    subst (λ bytes. Pieces more bytes rest) (sym first) second
Pieces-join (m ∷ messages) more bytes middle rest first second =
    let others = Pieces-join messages more first.1 middle rest first.4 second in
    (first.0, first.1, first.2, first.3, others)

-- the rest stands at the end
pub rest_behind : (messages : List Message) (bytes rest : List ℕ) → Pieces messages bytes rest
    → (front : List ℕ) × (bytes ≡ front ++ rest)
rest_behind [] bytes rest are = ([], are)
rest_behind (m ∷ messages) bytes rest are =
    let behind = rest_behind messages are.1 rest are.4 in (
      piece are.0 ++ behind.0,
      are.2 ∙ ap (λ more. piece are.0 ++ more) behind.1
          ∙ sym (append_assoc (piece are.0) behind.0 rest),
    )
