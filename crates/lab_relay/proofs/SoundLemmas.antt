-- The laws of scripts.
use Rattle.std.proofs.Common.{◌≡◌, ℕ, true, List, ◌++◌, map, sym, ap, subst, ◌∙◌}
use Rattle.std.proofs.lemmas.List.Elements.{filter_map-append}
use Rattle.chan_values.specs.declared.side.Side.{Side}
use Rattle.channel_core.specs.History.{PutMessage, has_ended, put_items}
use Rattle.channel_core.specs.Legal.{IsLegal}
use Rattle.channel_core.specs.World.{Event as WorldEvent, entry_at, history_of}
use Rattle.channel_core.proofs.DeliveryLemmas.{each_number_is_taken_once, released_is_prefix}
use Rattle.channel_core.proofs.FinishLemmas.{finished_is_once, nothing_follows_the_last}
use Rattle.channel_core.proofs.WholeLemmas.{finished_is_whole}
use Rattle.channel_core.proofs.WithinLemmas.{nothing_is_past_the_end}
use Rattle.lab_script.specs.declared.relay_command.RelayCommand.{RelayCommand}
use Rattle.lab_relay.specs.Laws.{IsFaithful, RelayLaws, world_of}
use Rattle.lab_relay.proofs.GrowthLemmas.{scene-front}
use Rattle.lab_relay.proofs.RunLemmas.{run-front}
use Rattle.lab_relay.proofs.LineLemmas.{sound-progress}
use Rattle.lab_relay.proofs.TrueLemmas.{inboxes_are_true}

-- after the last item of a direction nothing is put in there, whatever lines follow
puts-end : (w : ℕ) (commands rest : List RelayCommand) (side : Side)
    → let h = history_of side (world_of w commands) in
    has_ended h ≡ true
    → put_items (history_of side (world_of w (commands ++ rest))) ≡ put_items h
unfolding history_of
puts-end w commands rest side over =
    let h = history_of side (world_of w commands) in
    let front = (scene-front w commands rest).world in
    let more = history_of side front.0 in
    let joined : history_of side (world_of w (commands ++ rest)) ≡ h ++ more =
    ap (history_of side) (sym front.1)
    ∙ filter_map-append (λ (x : WorldEvent). entry_at side x.side x.entry) (world_of w commands)
    front.0 in
    let legal : IsLegal w (h ++ more) =
    subst (IsLegal w) joined ((sound-progress w (commands ++ rest)).right.legal side) in
    ap put_items joined
    ∙ ap (λ (l : List PutMessage). map (λ m. m.item) l)
    (nothing_follows_the_last w h more legal over)

-- every script is faithful
pub script_is_faithful : (w : ℕ) (commands : List RelayCommand) → IsFaithful w commands
script_is_faithful w commands =
    let right = (sound-progress w commands).right in
    let world = world_of w commands in
    record {
      legal = right.legal;
      honest = right.honest;
      once = λ side. each_number_is_taken_once w (history_of side world) (right.legal side);
      prefix = λ side. released_is_prefix w world side right.legal right.honest;
      whole = λ side. finished_is_whole w world side right.legal right.honest;
      within = λ n. nothing_is_past_the_end w world n right.legal right.honest;
      finished = λ side. finished_is_once w (history_of side world) (right.legal side);
      ended = puts-end w commands;
      begins = λ rest. let more = run-front w commands rest in (more.0, sym more.1);
    }

pub relay_laws : RelayLaws
relay_laws = record { faithful = script_is_faithful; inboxes = inboxes_are_true }
