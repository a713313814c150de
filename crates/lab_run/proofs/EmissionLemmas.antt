-- Emissions and the bytes that are kept of them.
use Rattle.std.proofs.Common.{◌≡◌, ℕ, ◌-◌, Option, Some, None, List, length, map, refl, ap, subst, ◌∙◌, slice_get}
use Rattle.std.specs.List.{All}
use Rattle.std.specs.Option.{option_map}
use Rattle.std.proofs.lemmas.List.{length-map}
use Rattle.std.proofs.lemmas.Option.{slice_get-map, slice_get_within, get_or_from_slice_get}
use Rattle.chan_values.specs.declared.side.Side.{Side}
use Rattle.channel_core.specs.declared.message.Outgoing.{Outgoing}
use Rattle.channel_core.specs.Wire.{encoding}
use Rattle.lab_script.specs.declared.word.Which.{Which}
use Rattle.lab_script.specs.declared.word.Which.TheVariants.{Number, Last}
use Rattle.lab_run.specs.Ends.{IsSendable}
use Rattle.lab_run.specs.Steps.{emission_at}

-- what holds of each element holds of the one at a place
pub All-at : {X : Type 0} (P : X → Type 0) (xs : List X) (k : ℕ) (x : X) → All P xs
    → slice_get xs k ≡ Some x → P x
All-at P xs k x all is = subst P (get_or_from_slice_get xs k x x is)
    (all k x (slice_get_within xs k x is))

emission_at-map : {X Y : Type 0} (f : X → Y) (xs : List X) (which : Which)
    → emission_at (map f xs) which ≡ option_map f (emission_at xs which)
emission_at-map f xs (Number k) = slice_get-map f xs k
emission_at-map f xs Last = rw (length-map xs f) (slice_get-map f xs (length xs - 1))

-- the place that a line means holds for each list of this length
pub All-emission : {X : Type 0} (P : X → Type 0) (xs : List X) (which : Which) (x : X)
    → All P xs → emission_at xs which ≡ Some x → P x
All-emission P xs (Number k) x all is = All-at P xs k x all is
All-emission P xs Last x all is = All-at P xs (length xs - 1) x all is

-- the bytes that a line means are those of an emission, which has an encoding
pub record IsEmission (side : Side) (emitted : List Outgoing) (which : Which) (bytes : List ℕ)
    : Type 0 where
  pub out : Outgoing
  pub found : emission_at emitted which ≡ Some out
  pub sendable : IsSendable side out
  pub encoded : bytes ≡ encoding side out

emission_of : (side : Side) (emitted : List Outgoing) (which : Which) (bytes : List ℕ)
    (o : Option Outgoing)
    → emission_at emitted which ≡ o
    → All (IsSendable side) emitted
    → Some bytes ≡ option_map (encoding side) o
    → IsEmission side emitted which bytes
emission_of side emitted which bytes None found sendable is = absurd (cc)
emission_of side emitted which bytes (Some out) found sendable is =
    record {
      out = out;
      found = found;
      sendable = All-emission (IsSendable side) emitted which out sendable found;
      encoded = cc;
    }

pub IsEmission-found : (side : Side) (sent : List (List ℕ)) (emitted : List Outgoing)
    (which : Which) (bytes : List ℕ)
    → sent ≡ map (encoding side) emitted
    → All (IsSendable side) emitted
    → Some bytes ≡ emission_at sent which
    → IsEmission side emitted which bytes
IsEmission-found side sent emitted which bytes kept sendable is =
    emission_of side emitted which bytes (emission_at emitted which) refl sendable
    (is ∙ ap (λ xs. emission_at xs which) kept ∙ emission_at-map (encoding side) emitted which)

-- no bytes are kept where the other end emitted no such message
pub emission_at-none : (side : Side) (sent : List (List ℕ)) (emitted : List Outgoing)
    (which : Which)
    → sent ≡ map (encoding side) emitted
    → None ≡ emission_at sent which
    → emission_at emitted which ≡ None
emission_at-none side sent emitted which kept none =
    absent (emission_at emitted which)
    (none ∙ ap (λ xs. emission_at xs which) kept ∙ emission_at-map (encoding side) emitted which)
  where
    absent : (o : Option Outgoing) → None ≡ option_map (encoding side) o → o ≡ None
    absent None is = refl
    absent (Some out) is = absurd (cc)
