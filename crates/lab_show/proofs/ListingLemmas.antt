-- The lines of the messages that a part of a capture gives.
use Rattle.std.proofs.Common.{◌≡◌, ℕ, ◌+◌, true, eqb, Option, List, [], ◌∷◌, ◌++◌, refl, sym, ap, subst, ◌∙◌, append_assoc, append-nil, arith, ◌<◌, ◌≤◌, length, take, get_or}
use Rattle.std.specs.List.{sum_by}
use Rattle.std.proofs.lemmas.Bool.{eqb-true}
use Rattle.std.proofs.lemmas.List.{nil_from_length, take_more}
use Rattle.std.proofs.lemmas.List.Sums.{sum_by-append, sum_by-cons, sum_by_more}
use Rattle.chan_io.specs.declared.failed.IoFault.{IoFault}
use Rattle.chan_io.specs.Sinks.{Output, Writes, WritesPart}
use Rattle.agent_message.specs.CaptureReading.{Pending, StandsFor}
use Rattle.agent_message.specs.Captures.{IsCapture, piece_length}
use Rattle.agent_message.specs.declared.message.Message.{Message}
use Rattle.agent_message.proofs.CaptureLaws.{a_reading, given_first}
use Rattle.agent_message.proofs.PieceLemmas.{length-Pieces}
use Rattle.agent_message.proofs.Spelling.{IsBytes}
use Rattle.lab_show.specs.Lines.{show_line, show_lines}
use Rattle.lab_show.specs.Listings.{ShowsPart, stop_of}
use Rattle.lab_show.specs.declared.stop.ShowStop.TheVariants as ShowStop
use Rattle.lab_show.proofs.WritingLemmas.{WritesPart-append, WritesPart-longer}

-- the lines of more messages stand behind those before them
pub show_lines-append : (at : ℕ) (messages more : List Message)
    → show_lines at (messages ++ more)
    ≡ show_lines at messages ++ show_lines (at + sum_by piece_length messages) more
show_lines-append at [] more = ap (λ n. show_lines n more) (omega arith)
show_lines-append at (m ∷ messages) more =
    ap (λ rest. show_line at m ++ rest) (show_lines-append (at + piece_length m) messages more)
    ∙ sym (append_assoc (show_line at m) (show_lines (at + piece_length m) messages)
    (show_lines (at + piece_length m + sum_by piece_length messages) more))
    ∙ ap (λ n. show_line at m ++ show_lines (at + piece_length m) messages ++ show_lines n more)
    (omega (arith, sum_by-cons piece_length m messages))

-- the line of the next message
pub show_lines-more : (at : ℕ) (messages : List Message) (i : ℕ) (m : Message)
    → i < length messages → m ≡ get_or messages i m
    → show_lines at (take (i + 1) messages)
    ≡ show_lines at (take i messages)
    ++ show_line (at + sum_by piece_length (take i messages)) m
show_lines-more at messages i m within is =
    let behind = at + sum_by piece_length (take i messages) in
    ap (show_lines at) (take_more messages i m within)
    ∙ show_lines-append at (take i messages) (get_or messages i m ∷ [])
    ∙ ap (λ n. show_lines at (take i messages) ++ (show_line behind n ++ [])) (sym is)
    ∙ ap (λ line. show_lines at (take i messages) ++ line) (append-nil (show_line behind m))

-- put behind the lines so far
pub next_line : (at next : ℕ) (messages : List Message) (i : ℕ) (m : Message) (lines new : List ℕ)
    → i < length messages → m ≡ get_or messages i m
    → lines ≡ show_lines at (take i messages)
    → next ≡ at + sum_by piece_length (take i messages)
    → new ≡ lines ++ show_line next m
    → new ≡ show_lines at (take (i + 1) messages)
next_line at next messages i m lines new within is so_far place put =
    put
    ∙ ap (λ text. text ++ show_line next m) so_far
    ∙ ap (λ n. show_lines at (take i messages) ++ show_line n m) place
    ∙ sym (show_lines-more at messages i m within is)

-- and its length
pub place-more : (messages : List Message) (i : ℕ) (m : Message)
    → i < length messages → m ≡ get_or messages i m
    → sum_by piece_length (take (i + 1) messages)
    ≡ sum_by piece_length (take i messages) + piece_length m
place-more messages i m within is =
    sum_by_more piece_length messages i m within
    ∙ ap (λ n. sum_by piece_length (take i messages) + piece_length n) (sym is)

-- the lines of the next messages, where the place of their first piece is known
pub show_lines-at : (at : ℕ) (given more : List Message) → at ≡ sum_by piece_length given
    → show_lines 0 (given ++ more) ≡ show_lines 0 given ++ show_lines at more
show_lines-at at given more is =
    show_lines-append 0 given more
    ∙ ap (λ n. show_lines 0 given ++ show_lines n more) (omega arith)

-- the pieces of what was given are no longer than the bytes
pub place_fits : (p : Pending) (bytes : List ℕ) (given more : List Message)
    → StandsFor p bytes (given ++ more)
    → sum_by piece_length given + sum_by piece_length more ≤ length bytes
place_fits p bytes given more stands =
    omega (
      arith,
      length-Pieces (given ++ more) bytes stands.rest stands.pieces,
      sum_by-append piece_length given more,
    )

-- which fault of writing it was
pub Failed-from_stop : (fault : IoFault) → stop_of fault ≡ ShowStop.Write → fault ≡ IoFault.Failed
Failed-from_stop IoFault.Failed is = refl
Failed-from_stop IoFault.NoMemory is = absurd (cc)

-- a part of the lines of the messages given so far is a part of all lines
pub part_of_all : (capture : List ℕ) (p : Pending) (taken coming : List ℕ) (given : List Message)
    (before now : Option Output) → IsBytes capture → taken ++ coming ≡ capture
    → StandsFor p taken given → WritesPart (show_lines 0 given) before now
    → ShowsPart capture before now
part_of_all capture p taken coming given before now fits parts stands written =
    let all = a_reading capture fits in
    let is : IsCapture (taken ++ coming) all.0 all.1 =
    subst (λ bytes. IsCapture bytes all.0 all.1) (sym parts) all.2 in
    let others = given_first p taken coming given all.0 all.1
    (subst IsBytes (sym parts) fits) stands is in
    let lines : show_lines 0 all.0
    ≡ show_lines 0 given ++ show_lines (0 + sum_by piece_length given) others.0 =
    ap (show_lines 0) others.1 ∙ show_lines-append 0 given others.0 in
    let P : List ℕ → Type 0 = λ text. WritesPart text before now in (
      all.0,
      all.1,
      all.2,
      subst P (sym lines) (WritesPart-longer (show_lines 0 given) _ before now written),
    )

-- so are the lines of what was given before and a part of the lines of what a further part gave
pub part_of_more : (capture : List ℕ) (p : Pending) (taken part behind coming : List ℕ)
    (given more : List Message) (at : ℕ) (before middle now : Option Output)
    → IsBytes capture → taken ++ coming ≡ capture → part ++ behind ≡ coming
    → at ≡ sum_by piece_length given → StandsFor p (taken ++ part) (given ++ more)
    → Writes (show_lines 0 given) before middle → WritesPart (show_lines at more) middle now
    → ShowsPart capture before now
part_of_more capture p taken part behind coming given more at before middle now fits parts cut is
    stands first second =
    let whole : (taken ++ part) ++ behind ≡ capture =
    append_assoc taken part behind ∙ ap (λ bytes. taken ++ bytes) cut ∙ parts in
    let P : List ℕ → Type 0 = λ text. WritesPart text before now in
    let written = subst P (sym (show_lines-at at given more is))
    (WritesPart-append (show_lines 0 given) (show_lines at more) before middle now first second) in
    part_of_all capture p (taken ++ part) behind (given ++ more) before now fits whole stands
    written

-- bytes that were all taken are the capture
pub all_taken : (capture taken coming : List ℕ) → taken ++ coming ≡ capture
    → true ≡ eqb (length coming) 0 → taken ≡ capture
all_taken capture taken coming parts empty =
    let none : coming ≡ [] = nil_from_length coming (eqb-true (length coming) 0 (sym empty)) in
    sym (append-nil taken) ∙ ap (λ bytes. taken ++ bytes) (sym none) ∙ parts
