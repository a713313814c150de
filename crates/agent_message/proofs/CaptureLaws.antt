-- A capture is read, and in one way: its pieces, and what stands behind them.
use Rattle.std.proofs.Common.{◌≡◌, ℕ, ◌+◌, ◌-◌, ◌≤◌, ◌⊎◌, inl, inr, zero, suc, Option, Some, None, List, [], ◌∷◌, ◌++◌, length, take, drop, Ok, Err, refl, sym, ap, subst, ◌∙◌, arith, length-take, length-drop, Result}
use Rattle.std.specs.Prelude.{MatchOption}
use Rattle.std.specs.List.{All, flat_map}
use Rattle.std.proofs.lemmas.Bool.{cases_lt}
use Rattle.std.proofs.lemmas.List.{take_at, drop_at, get_or-drop, nil_from_length}
use Rattle.std.proofs.lemmas.List.Elements.{All-head, All-tail}
use Rattle.agent_message.specs.CaptureReading.{Pending, StandsFor}
use Rattle.agent_message.specs.Captures.{HasCause, IsCapture, IsUnfinished, Pieces, ShowsFault, max_message, piece, place_of, said_length}
use Rattle.agent_message.specs.Decoding.{Decodes}
use Rattle.agent_message.specs.Layout.{IsEncodable, canonical}
use Rattle.agent_message.specs.declared.capture_fault.CaptureCause.{CaptureCause}
use Rattle.agent_message.specs.declared.capture_fault.CaptureCause.TheVariants.{Size, Message as Refused, Cut}
use Rattle.agent_message.specs.declared.capture_fault.CaptureFault.{CaptureFault}
use Rattle.agent_message.specs.declared.message.Message.{Message}
use Rattle.agent_message.specs.declared.refusal.Refusal.{Refusal}
use Rattle.agent_message.proofs.SoundSpelling.{one_answer}
use Rattle.agent_message.proofs.OneAnswer.{an_answer}
use Rattle.agent_message.proofs.PieceLemmas.{Pieces-append, Pieces-join, length-piece, rest_behind, said_length-piece, sound_is_short, split_piece}
use Rattle.agent_message.proofs.Spelling.{Decodes-canonical, IsBytes, IsBytes-part}

-- ---- what is written is read

-- the pieces of messages that can be written
pub Pieces-canonical : (messages : List Message) → All IsEncodable messages
    → Pieces messages (flat_map (λ m. piece (canonical m)) messages) []
Pieces-canonical [] can = refl
Pieces-canonical (m ∷ messages) can = (
  canonical m,
  flat_map (λ m. piece (canonical m)) messages,
  refl,
  Decodes-canonical m (All-head IsEncodable m messages can),
  Pieces-canonical messages (All-tail IsEncodable m messages can),
)

pub written_is_read : (messages : List Message) → All IsEncodable messages
    → IsCapture (flat_map (λ m. piece (canonical m)) messages) messages None
written_is_read messages can =
    record { rest = []; pieces = Pieces-canonical messages can; ended = refl }

-- ---- there is one reading at most

-- one piece is at the front of bytes at most
same_piece : (a b x y : List ℕ) → piece a ++ x ≡ piece b ++ y → length a ≤ max_message
    → length b ≤ max_message → (a ≡ b) × (x ≡ y)
same_piece a b x y same a_short b_short =
    let long : length a ≡ length b =
    sym (said_length-piece a x a_short) ∙ ap said_length same ∙ said_length-piece b y b_short in
    let behind : a ++ x ≡ b ++ y = ap (drop 4) same in (
      sym (take_at a x (length b) long) ∙ ap (take (length b)) behind ∙ take_at b y (length b) refl,
      sym (drop_at a x (length b) long) ∙ ap (drop (length b)) behind ∙ drop_at b y (length b) refl,
    )

-- no sound piece is at the front
abbrev Stops : List ℕ → Type 0
Stops rest = (m : Message) (spelled more : List ℕ) → rest ≡ piece spelled ++ more
    → Decodes spelled (Ok m) → ⊥

-- no piece is unfinished
not_unfinished : (rest spelled more : List ℕ) → rest ≡ piece spelled ++ more
    → length spelled ≤ max_message → ¬ IsUnfinished rest
not_unfinished rest spelled more is short unfinished =
    let long = ap length is ∙ length-piece spelled more in
    let said : said_length rest ≡ length spelled =
    ap said_length is ∙ said_length-piece spelled more short in
    elim unfinished [ inl less ↦ omega arith | inr less ↦ omega arith ]

-- messages that decode are not refused
not_both : (spelled : List ℕ) (m : Message) (refusal : Refusal) → Decodes spelled (Ok m)
    → Decodes spelled (Err refusal) → ⊥
not_both spelled m refusal is refused =
    let same = one_answer spelled (Ok m) (Err refusal) is refused in cc

-- a fault stops
HasCause-stops : (rest : List ℕ) (cause : CaptureCause) → HasCause rest cause → Stops rest
HasCause-stops rest (Size said) has m spelled more is sound =
    omega (
      arith,
      has.1,
      has.2,
      ap said_length is,
      said_length-piece spelled more (sound_is_short m spelled sound),
      sound_is_short m spelled sound,
    )
HasCause-stops rest (Refused refusal) has m spelled more is sound =
    let same = same_piece has.0 spelled has.1 more (sym has.2
    ∙ is) has.3 (sound_is_short m spelled sound) in
    not_both spelled m refusal sound (subst (λ bytes. Decodes bytes (Err refusal)) same.0 has.4)
HasCause-stops rest (Cut have) has m spelled more is sound =
    not_unfinished rest spelled more is (sound_is_short m spelled sound) has.2

-- so does the end
end_stops : (rest : List ℕ) → rest ≡ [] → Stops rest
end_stops rest none m spelled more is sound =
    omega (arith, ap length none, ap length is, length-piece spelled more)

-- and so each end of a capture
ended_stops : (bytes rest : List ℕ) (fault : Option CaptureFault)
    → MatchOption fault (rest ≡ []) (ShowsFault bytes rest) → Stops rest
ended_stops bytes rest None none = end_stops rest none
ended_stops bytes rest (Some fault) shown = HasCause-stops rest fault.cause shown.1

-- pieces in front of what stops are the same
same_pieces : (ms ns : List Message) (bytes x y : List ℕ) → Pieces ms bytes x → Pieces ns bytes y
    → Stops x → Stops y → (ms ≡ ns) × (x ≡ y)
same_pieces [] [] bytes x y p q x_stops y_stops = (refl, sym p ∙ q)
same_pieces [] (b ∷ ns) bytes x y p q x_stops y_stops = absurd (x_stops b q.0 q.1 (sym p ∙ q.2) q.3)
same_pieces (a ∷ ms) [] bytes x y p q x_stops y_stops = absurd (y_stops a p.0 p.1 (sym q ∙ p.2) p.3)
same_pieces (a ∷ ms) (b ∷ ns) bytes x y p q x_stops y_stops =
    let parts = same_piece p.0 q.0 p.1 q.1 (sym p.2
    ∙ q.2) (sound_is_short a p.0 p.3) (sound_is_short b q.0 q.3) in
    let one =
    one_answer q.0 (Ok a) (Ok b) (subst (λ spelled. Decodes spelled (Ok a)) parts.0 p.3) q.3 in
    let more = same_pieces ms ns q.1 x y (subst (λ rest. Pieces ms rest x) parts.1 p.4) q.4 x_stops
    y_stops in
    let first : a ≡ b = cc in
    let others = more.0 in
    (cc, more.1)

-- bytes have one cause at most
one_cause : (rest : List ℕ) (a b : CaptureCause) → HasCause rest a → HasCause rest b → a ≡ b
one_cause rest (Size said) (Size other) p q = ap Size (p.1 ∙ sym q.1)
one_cause rest (Size said) (Refused refusal) p q =
    absurd (omega (arith, p.1, p.2, ap said_length q.2, said_length-piece q.0 q.1 q.3, q.3))
one_cause rest (Size said) (Cut have) p q =
    absurd (elim q.2 [ inl less ↦ omega (arith, p.0) | inr less ↦ omega (arith, p.1, p.2, less.0) ])
one_cause rest (Refused refusal) (Size said) p q =
    absurd (omega (arith, q.1, q.2, ap said_length p.2, said_length-piece p.0 p.1 p.3, p.3))
one_cause rest (Refused refusal) (Refused other) p q =
    let same = same_piece p.0 q.0 p.1 q.1 (sym p.2 ∙ q.2) p.3 q.3 in
    let one = one_answer q.0 (Err refusal) (Err other)
    (subst (λ spelled. Decodes spelled (Err refusal)) same.0 p.4) q.4 in
    let first : refusal ≡ other = cc in
    ap Refused first
one_cause rest (Refused refusal) (Cut have) p q = absurd (not_unfinished rest p.0 p.1 p.2 p.3 q.2)
one_cause rest (Cut have) (Size said) p q =
    absurd (elim p.2 [ inl less ↦ omega (arith, q.0) | inr less ↦ omega (arith, q.1, q.2, less.0) ])
one_cause rest (Cut have) (Refused refusal) p q = absurd (not_unfinished rest q.0 q.1 q.2 q.3 p.2)
one_cause rest (Cut have) (Cut other) p q = ap Cut (p.0 ∙ sym q.0)

-- no bytes have no cause
none_has_cause : (rest : List ℕ) (cause : CaptureCause) → rest ≡ [] → HasCause rest cause → ⊥
none_has_cause rest (Size said) none has = omega (arith, ap length none, has.0)
none_has_cause rest (Refused refusal) none has =
    omega (arith, ap length none, ap length has.2, length-piece has.0 has.1)
none_has_cause rest (Cut have) none has = omega (arith, ap length none, has.0, has.1)

-- one fault at most
one_fault : (bytes rest : List ℕ) (f g : Option CaptureFault)
    → MatchOption f (rest ≡ []) (ShowsFault bytes rest)
    → MatchOption g (rest ≡ []) (ShowsFault bytes rest) → f ≡ g
one_fault bytes rest None None p q = refl
one_fault bytes rest None (Some g) p q = absurd (none_has_cause rest g.cause p q.1)
one_fault bytes rest (Some f) None p q = absurd (none_has_cause rest f.cause q p.1)
one_fault bytes rest (Some f) (Some g) p q =
    let at : f.at ≡ g.at = p.0 ∙ sym q.0 in
    let cause : f.cause ≡ g.cause = one_cause rest f.cause g.cause p.1 q.1 in
    ap Some (same_fault f g at cause)
  where
    same_fault : (f g : CaptureFault) → f.at ≡ g.at → f.cause ≡ g.cause → f ≡ g
    same_fault f g at cause =
        ap (λ n. let x : CaptureFault = record { at = n; cause = f.cause } in x) at
        ∙ ap (λ c. let x : CaptureFault = record { at = g.at; cause = c } in x) cause

-- bytes are a capture in one way
pub one_reading : (bytes : List ℕ) (ms ns : List Message) (f g : Option CaptureFault)
    → IsCapture bytes ms f → IsCapture bytes ns g → (ms ≡ ns) × (f ≡ g)
one_reading bytes ms ns f g p q =
    let same = same_pieces ms ns bytes p.rest q.rest p.pieces q.pieces
    (ended_stops bytes p.rest f p.ended) (ended_stops bytes q.rest g q.ended) in (
      same.0,
      one_fault bytes q.rest f g
          (subst (λ rest. MatchOption f (rest ≡ []) (ShowsFault bytes rest)) same.1 p.ended)
          q.ended,
    )

-- ---- there is one

-- the pieces of bytes, and how they end
abbrev Read : List ℕ → Type 0
Read bytes = (messages : List Message) × (rest : List ℕ) × Pieces messages bytes rest
    × ((rest ≡ []) ⊎ ((cause : CaptureCause) × HasCause rest cause))

-- what is behind a place are bytes too
IsBytes-drop : (bytes : List ℕ) (n : ℕ) → IsBytes bytes → IsBytes (drop n bytes)
IsBytes-drop bytes n fits i = rw (get_or-drop n bytes i 0) (fits (n + i))

-- what is behind a piece is read too, unless the message of the piece is refused
piece_read : (bytes spelled more : List ℕ) → bytes ≡ piece spelled ++ more
    → length spelled ≤ max_message → (answer : Result Message Refusal) → Decodes spelled answer
    → Read more → Read bytes
piece_read bytes spelled more parts short (Ok m) is later =
    (m ∷ later.0, later.1, (spelled, more, parts, is, later.2), later.3)
piece_read bytes spelled more parts short (Err refusal) is later =
    ([], bytes, refl, inr (Refused refusal, (spelled, more, parts, short, is)))

-- by the number of bytes
read_from : (fuel : ℕ) (bytes : List ℕ) → length bytes ≤ fuel → IsBytes bytes → Read bytes
read_from zero bytes short fits =
    ([], bytes, refl, inl (nil_from_length bytes (omega arith)))
read_from (suc fuel) bytes short fits =
    elim (cases_lt (length bytes) 4) [
      | inl less ↦ elim (cases_lt 0 (length bytes)) [
        | inl some ↦ ([], bytes, refl, inr (Cut (length bytes), (refl, some, inl less)))
        | inr none ↦ ([], bytes, refl, inl (nil_from_length bytes (omega arith)))
      ]
      | inr there ↦ elim (cases_lt max_message (said_length bytes)) [
        | inl more ↦ ([], bytes, refl, inr (Size (said_length bytes), (there, refl, more)))
        | inr allowed ↦ elim (cases_lt (length bytes) (4 + said_length bytes)) [
          | inl less ↦ (
            [],
            bytes,
            refl,
            inr (Cut (length bytes), (refl, omega arith, inr (allowed, less))),
          )
          | inr whole ↦
              let size = said_length bytes in
              let spelled = take (4 + size - 4) (drop 4 bytes) in
              let more = drop (4 + size) bytes in
              let sized : length spelled ≤ max_message =
              omega (arith, length-take (4 + size - 4) (drop 4 bytes)) in
              let answer = an_answer spelled (IsBytes-part bytes 4 (4 + size - 4) fits) in
              let later : Read more =
              read_from fuel more (omega (arith, length-drop (4 + size) bytes))
              (IsBytes-drop bytes (4 + size) fits) in
              piece_read bytes spelled more (split_piece bytes size fits refl whole) sized answer.0
              answer.1 later
        ]
      ]
    ]

pub a_reading : (bytes : List ℕ) → IsBytes bytes
    → (messages : List Message) × (fault : Option CaptureFault) × IsCapture bytes messages fault
a_reading bytes fits =
    let r = read_from (length bytes) bytes (omega arith) fits in
    elim r.3 [
      | inl none ↦ (r.0, None, record { rest = r.1; pieces = r.2; ended = none })
      | inr has ↦ (
        r.0,
        Some (record { at = place_of bytes r.1; cause = has.0 }),
        record { rest = r.1; pieces = r.2; ended = (refl, has.1) },
      )
    ]

-- ---- what was given stays

-- what is behind pieces are bytes
rest_is_bytes : (messages : List Message) (bytes rest : List ℕ) → Pieces messages bytes rest
    → IsBytes bytes → IsBytes rest
rest_is_bytes messages bytes rest are fits =
    let behind = rest_behind messages bytes rest are in
    subst IsBytes (ap (drop (length behind.0)) behind.1 ∙ drop_at behind.0 rest _ refl)
    (IsBytes-drop bytes (length behind.0) fits)

-- the messages that were given of the first bytes are the first messages
pub given_first : (p : Pending) (bytes more : List ℕ) (given messages : List Message)
    (fault : Option CaptureFault) → IsBytes (bytes ++ more) → StandsFor p bytes given
    → IsCapture (bytes ++ more) messages fault
    → (others : List Message) × (messages ≡ given ++ others)
given_first p bytes more given messages fault fits stands is =
    let rest = stands.rest ++ more in
    let front : Pieces given (bytes ++ more) rest =
    Pieces-append given bytes stands.rest more stands.pieces in
    let later = read_from (length rest) rest (omega arith)
    (rest_is_bytes given (bytes ++ more) rest front fits) in
    let stops : Stops later.1 =
    elim later.3 [
      | inl none ↦ end_stops later.1 none
      | inr has ↦ HasCause-stops later.1 has.0 has.1
    ] in
    let all : Pieces (given ++ later.0) (bytes ++ more) later.1 =
    Pieces-join given later.0 (bytes ++ more) rest later.1 front later.2 in (
      later.0,
      (same_pieces messages (given ++ later.0) (bytes ++ more) is.rest later.1 is.pieces all
          (ended_stops (bytes ++ more) is.rest fault is.ended) stops).0,
    )
