-- What a reader of a capture stands for after one more part.
use Rattle.std.proofs.Common.{◌≡◌, ℕ, ◌+◌, ◌-◌, ◌^◌, ◌<◌, ◌≤◌, inl, inr, min, true, false, Option, Some, None, List, [], ◌∷◌, ◌++◌, length, Ok, refl, sym, ap, subst, ◌∙◌, append_assoc, arith, length-append}
use Rattle.std.specs.Prelude.{MatchOption, is_some}
use Rattle.std.proofs.lemmas.Bool.{cases_lt}
use Rattle.std.proofs.lemmas.Bool.Decides.{nat_tests}
use Rattle.std.proofs.lemmas.List.{nil_from_length}
use Rattle.agent_message.specs.CaptureReading.{Pending, StandsFor, missing}
use Rattle.agent_message.specs.Captures.{HasCause, IsUnfinished, Pieces, ShowsFault, max_message, piece, place_of, said_length}
use Rattle.agent_message.specs.Decoding.{Decodes}
use Rattle.agent_message.specs.declared.capture_fault.CaptureCause.{CaptureCause}
use Rattle.agent_message.specs.declared.capture_fault.CaptureCause.TheVariants.{Size, Message as Refused, Cut}
use Rattle.agent_message.specs.declared.capture_fault.CaptureFault.{CaptureFault}
use Rattle.agent_message.specs.declared.message.Message.{Message}
use Rattle.agent_message.proofs.PieceLemmas.{Pieces-append, Pieces-push, length-piece, rest_is_short, said_length-append, said_length-piece, sound_is_short}

-- the rest begins where it began
place_stays : (bytes rest more : List ℕ) → length rest ≤ length bytes
    → place_of (bytes ++ more) (rest ++ more) ≡ place_of bytes rest
place_stays bytes rest more short =
    ap (λ n. min n (2 ^ 64 - 1)) (omega (arith, length-append bytes more, length-append rest more))

-- where no fault was shown the rest is unfinished, and kept
pub unfinished : (p : Pending) (bytes : List ℕ) (given : List Message) → StandsFor p bytes given
    → p.fault ≡ None → IsUnfinished p.rest
unfinished p bytes given s sound =
    let shown : MatchOption None (IsUnfinished s.rest) (λ fault. ShowsFault bytes s.rest fault
    × ¬ IsUnfinished s.rest) =
    subst (λ fault. MatchOption fault (IsUnfinished s.rest) (λ f. ShowsFault bytes s.rest f
    × ¬ IsUnfinished s.rest)) sound s.shown in
    subst IsUnfinished (sym (s.kept sound)) shown

-- what is unfinished lacks bytes
pub lacks : (rest : List ℕ) → IsUnfinished rest → 0 < missing rest
lacks rest is = elim is
    [ inl few ↦ grind (arith, nat_tests) | inr short ↦ grind (arith, nat_tests) ]

-- what is missing of a length, and of a piece
missing_length : (rest : List ℕ) → length rest < 4 → missing rest ≡ 4 - length rest
missing_length rest less = grind (arith, nat_tests)

missing_bytes : (rest : List ℕ) → 4 ≤ length rest
    → missing rest ≡ 4 + said_length rest - length rest
missing_bytes rest there = grind (arith, nat_tests)

-- an unfinished piece with a length is shorter than the length says
said_is_short : (rest : List ℕ) → IsUnfinished rest → 4 ≤ length rest
    → (said_length rest ≤ max_message) × (length rest < 4 + said_length rest)
said_is_short rest is there = elim is [ inl less ↦ absurd (omega arith) | inr short ↦ short ]

-- fewer bytes than are missing leave a piece unfinished
pub still_unfinished : (rest part : List ℕ) → IsUnfinished rest → length part < missing rest
    → IsUnfinished (rest ++ part)
still_unfinished rest part is few =
    let long = length-append rest part in
    elim (cases_lt (length rest) 4) [
      | inl less ↦ inl (let m = missing_length rest less in omega arith)
      | inr there ↦
          let m = missing_bytes rest there in
          let said = said_length-append rest part there in
          let short = said_is_short rest is there in
          inr (omega arith, omega arith)
    ]

-- fewer bytes than are missing leave so many less missing
pub missing-append : (rest part : List ℕ) → length part < missing rest
    → missing (rest ++ part) ≡ missing rest - length part
missing-append rest part few =
    let long = length-append rest part in
    elim (cases_lt (length rest) 4) [
      | inl less ↦
          let m = missing_length rest less in
          let n = missing_length (rest ++ part) (omega arith) in
          omega arith
      | inr there ↦
          let m = missing_bytes rest there in
          let n = missing_bytes (rest ++ part) (omega arith) in
          let said = said_length-append rest part there in
          omega arith
    ]

-- fewer bytes of it are unfinished too
front_unfinished : (rest part : List ℕ) → IsUnfinished (rest ++ part) → IsUnfinished rest
front_unfinished rest part is =
    let long = length-append rest part in
    elim (cases_lt (length rest) 4) [
      | inl less ↦ inl less
      | inr there ↦
          let said = said_length-append rest part there in
          let short = said_is_short (rest ++ part) is (omega arith) in
          inr (omega arith, omega arith)
    ]

-- what is wrong stays so, whatever follows
HasCause-append : (rest part : List ℕ) (cause : CaptureCause) → HasCause rest cause
    → ¬ IsUnfinished rest → HasCause (rest ++ part) cause
HasCause-append rest part (Size said) has broken = (
  omega (arith, length-append rest part),
  has.1
      ∙ sym (said_length-append rest part has.0),
  has.2,
)
HasCause-append rest part (Refused refusal) has broken = (
  has.0,
  has.1 ++ part,
  ap (λ front. front ++ part) has.2 ∙ append_assoc (piece has.0) has.1 part,
  has.3,
  has.4,
)
HasCause-append rest part (Cut have) has broken = absurd (broken has.2)

-- a part that leaves the piece unfinished
pub goes_on : (p q : Pending) (bytes part : List ℕ) (given : List Message) → StandsFor p bytes given
    → p.fault ≡ None → IsUnfinished (p.rest ++ part)
    → q.rest ≡ p.rest ++ part → q.start ≡ p.start → q.fault ≡ None
    → StandsFor q (bytes ++ part) given
goes_on p q bytes part given s sound is rest start still =
    let same : p.rest ++ part ≡ s.rest ++ part = ap (λ rest. rest ++ part) (s.kept sound) in
    record {
      rest = s.rest ++ part;
      pieces = Pieces-append given bytes s.rest part s.pieces;
      start = start ∙ s.start
          ∙ sym (place_stays bytes s.rest part (rest_is_short given bytes s.rest s.pieces));
      kept = λ none. rest ∙ same;
      shown =
          subst
          (λ shown. MatchOption shown (IsUnfinished (s.rest ++ part))
          (λ f. ShowsFault (bytes ++ part) (s.rest ++ part) f × ¬ IsUnfinished (s.rest ++ part)))
          (sym still) (subst IsUnfinished same is);
    }

-- a part with which a fault is shown
pub breaks : (p q : Pending) (bytes part : List ℕ) (given : List Message) (cause : CaptureCause)
    → StandsFor p bytes given → p.fault ≡ None
    → HasCause (p.rest ++ part) cause × ¬ IsUnfinished (p.rest ++ part)
    → q.start ≡ p.start → q.fault ≡ Some (record { at = p.start; cause = cause })
    → StandsFor q (bytes ++ part) given
breaks p q bytes part given cause s sound is start fault =
    let same : p.rest ++ part ≡ s.rest ++ part = ap (λ rest. rest ++ part) (s.kept sound) in
    let place : p.start ≡ place_of (bytes ++ part) (s.rest ++ part) =
    s.start ∙ sym (place_stays bytes s.rest part (rest_is_short given bytes s.rest s.pieces)) in
    record {
      rest = s.rest ++ part;
      pieces = Pieces-append given bytes s.rest part s.pieces;
      start = start ∙ place;
      kept = λ none. absurd (cc);
      shown =
          subst
          (λ shown. MatchOption shown (IsUnfinished (s.rest ++ part))
          (λ f. ShowsFault (bytes ++ part) (s.rest ++ part) f × ¬ IsUnfinished (s.rest ++ part)))
          (sym fault) (
            (place, subst (λ rest. HasCause rest cause) same is.0),
            subst (λ rest. ¬ IsUnfinished rest) same is.1,
          );
    }

-- a fault stays, whatever follows
pub stays_broken : (p : Pending) (bytes part : List ℕ) (given : List Message)
    → StandsFor p bytes given
    → is_some p.fault ≡ true → StandsFor p (bytes ++ part) given
stays_broken p bytes part given s broken =
    let place : place_of (bytes ++ part) (s.rest ++ part) ≡ place_of bytes s.rest =
    place_stays bytes s.rest part (rest_is_short given bytes s.rest s.pieces) in
    record {
      rest = s.rest ++ part;
      pieces = Pieces-append given bytes s.rest part s.pieces;
      start = s.start ∙ sym place;
      kept = λ none. absurd (no_none p.fault broken none);
      shown = still p.fault broken s.shown place;
    }
  where
    no_none : (o : Option CaptureFault) → is_some o ≡ true → o ≡ None → ⊥
    no_none None some none = cc
    no_none (Some f) some none = cc

    still : (o : Option CaptureFault) → is_some o ≡ true
        → MatchOption o (IsUnfinished s.rest) (λ f. ShowsFault bytes s.rest f
        × ¬ IsUnfinished s.rest)
        → place_of (bytes ++ part) (s.rest ++ part) ≡ place_of bytes s.rest
        → MatchOption o (IsUnfinished (s.rest ++ part))
        (λ f. ShowsFault (bytes ++ part) (s.rest ++ part) f × ¬ IsUnfinished (s.rest ++ part))
    still None some shown place = absurd (cc)
    still (Some f) some shown place = (
      (shown.0.0 ∙ sym place, HasCause-append s.rest part f.cause shown.0.1 shown.1),
      λ is. shown.1 (front_unfinished s.rest part is),
    )

-- no fault where there is none
pub no_fault : (o : Option CaptureFault) → is_some o ≡ false → o ≡ None
no_fault None none = refl
no_fault (Some f) none = absurd (cc)

-- parts and messages are grouped as one likes
pub regroup : (p : Pending) (before taken part : List ℕ) (given now new : List Message)
    → StandsFor p ((before ++ taken) ++ part) ((given ++ now) ++ new)
    → StandsFor p (before ++ (taken ++ part)) (given ++ (now ++ new))
regroup p before taken part given now new s =
    subst (λ bytes. StandsFor p bytes (given ++ (now ++ new))) (append_assoc before taken part)
    (subst (λ messages. StandsFor p ((before ++ taken) ++ part) messages)
    (append_assoc given now new) s)

-- a part that goes no further than the piece leaves nothing behind the piece
nothing_behind : (rest part spelled more : List ℕ) → IsUnfinished rest
    → length part ≤ missing rest → length spelled ≤ max_message
    → rest ++ part ≡ piece spelled ++ more → more ≡ []
nothing_behind rest part spelled more is within short parts =
    let long : length rest + length part ≡ 4 + length spelled + length more =
    sym (length-append rest part) ∙ ap length parts ∙ length-piece spelled more in
    elim (cases_lt (length rest) 4) [
      | inl less ↦ nil_from_length more (let m = missing_length rest less in omega arith)
      | inr there ↦
          let m = missing_bytes rest there in
          let said : said_length rest ≡ length spelled =
          sym (said_length-append rest part there) ∙ ap said_length parts
          ∙ said_length-piece spelled more short in
          let shorter = said_is_short rest is there in
          nil_from_length more (omega arith)
    ]

-- a part with which a piece is whole
pub is_whole : (p q : Pending) (bytes part : List ℕ) (given : List Message) (m : Message)
    (spelled more : List ℕ)
    → StandsFor p bytes given → p.fault ≡ None → length part ≤ missing p.rest
    → p.rest ++ part ≡ piece spelled ++ more → Decodes spelled (Ok m)
    → q.rest ≡ [] → q.start ≡ min (p.start + length (p.rest ++ part)) (2 ^ 64 - 1) → q.fault ≡ None
    → StandsFor q (bytes ++ part) (given ++ m ∷ [])
is_whole p q bytes part given m spelled more s sound within parts is empty start still =
    let none : more ≡ [] =
    nothing_behind p.rest part spelled more (unfinished p bytes given s sound) within
    (sound_is_short m spelled is) parts in
    let same : s.rest ++ part ≡ piece spelled ++ more =
    ap (λ rest. rest ++ part) (sym (s.kept sound)) ∙ parts in
    let before : Pieces given (bytes ++ part) (piece spelled ++ more) =
    subst (Pieces given (bytes ++ part)) same (Pieces-append given bytes s.rest part s.pieces) in
    let begins = s.start in
    let kept = ap length (s.kept sound) in
    record {
      rest = [];
      pieces = subst (Pieces (given ++ m ∷ []) (bytes ++ part)) none
          (Pieces-push given m (bytes ++ part) spelled more before is);
      start = omega (
        arith,
        length-append p.rest part,
        length-append bytes part,
        rest_is_short given bytes s.rest s.pieces,
      );
      kept = λ sound. empty;
      shown =
          subst
          (λ shown. MatchOption shown (IsUnfinished [])
          (λ f. ShowsFault (bytes ++ part) [] f × ¬ IsUnfinished []))
          (sym still) (inl (omega arith));
    }
