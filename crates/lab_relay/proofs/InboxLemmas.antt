-- The letter that a line means, and the end of a side.
use Rattle.std.proofs.Common.{◌≡◌, ℕ, ◌-◌, Option, Some, None, List, length, map, refl, ap, ◌∙◌}
use Rattle.std.specs.List.{slice_get}
use Rattle.std.specs.Option.{option_map}
use Rattle.std.proofs.lemmas.List.{length-map}
use Rattle.std.proofs.lemmas.Option.{slice_get-map}
use Rattle.chan_values.specs.declared.side.Side.{Side}
use Rattle.chan_values.specs.declared.side.Side.TheVariants.{Plugin, Agent}
use Rattle.channel_core.specs.World.{Event, history_of}
use Rattle.lab_script.specs.declared.word.Which.{Which}
use Rattle.lab_run.specs.declared.pair.Pair.{Pair}
use Rattle.lab_run.specs.Ends.{IsEndpoint, IsPair, endpoint_of}
use Rattle.lab_run.specs.Steps.{emission_at}
use Rattle.lab_relay.specs.Scene.{Letter}

-- the end of a side did all that happened at it
pub endpoint-at : (w : ℕ) (world : List Event) (pair : Pair) → IsPair w world pair → (side : Side)
    → IsEndpoint w side (history_of side world) (endpoint_of side pair)
endpoint-at w world pair is Plugin = is.plugin
endpoint-at w world pair is Agent = is.agent

letter_at-map : (letters : List Letter) (which : Which)
    → emission_at (map (λ (l : Letter). l.bytes) letters) which
    ≡ option_map (λ l. l.bytes) (emission_at letters which)
letter_at-map letters (Which.Number k) = slice_get-map (λ (l : Letter). l.bytes) letters k
letter_at-map letters Which.Last =
    ap (λ n. slice_get (map (λ (l : Letter). l.bytes) letters) (n - 1))
    (length-map letters (λ (l : Letter). l.bytes))
    ∙ slice_get-map (λ (l : Letter). l.bytes) letters (length letters - 1)

-- these bytes are kept of a letter
pub record IsKeptOf (letters : List Letter) (which : Which) (bytes : List ℕ) : Type 0 where
  pub letter : Letter
  pub found : emission_at letters which ≡ Some letter
  pub same : bytes ≡ letter.bytes

module _ (kept : List (List ℕ)) (letters : List Letter) (which : Which)
    (is : kept ≡ map (λ (l : Letter). l.bytes) letters) where
  at : emission_at kept which ≡ option_map (λ l. l.bytes) (emission_at letters which)
  at = ap (λ xs. emission_at xs which) is ∙ letter_at-map letters which

  pub letter-none : None ≡ emission_at kept which → emission_at letters which ≡ None
  letter-none none = absent (emission_at letters which) (none ∙ at)
    where
      absent : (o : Option Letter) → None ≡ option_map (λ l. l.bytes) o → o ≡ None
      absent None e = refl
      absent (Some letter) e = absurd (cc)

  pub letter-found : (bytes : List ℕ) → Some bytes ≡ emission_at kept which
      → IsKeptOf letters which bytes
  letter-found bytes found = there (emission_at letters which) refl (found ∙ at)
    where
      there : (o : Option Letter) → emission_at letters which ≡ o
          → Some bytes ≡ option_map (λ l. l.bytes) o
          → IsKeptOf letters which bytes
      there None e some = absurd (cc)
      there (Some letter) e some = record { letter = letter; found = e; same = cc }
