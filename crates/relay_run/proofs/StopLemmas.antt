-- An output that is shut before its connection is over.
use Rattle.std.proofs.Common.{◌≡◌, ℕ, true, false, Option, Some, None, List, ◌++◌, sym, subst}
use Rattle.std.specs.Prelude.{IfSome}
use Rattle.chan_io.specs.LinksOut.{Departures, Shuts}
use Rattle.chan_io.specs.declared.got.Got.{Got}
use Rattle.relay_switch.specs.Outlets.{IsOutlet, SwitchEntry, messages_taken}

still : (taken missing : List Got) (told after : Option Departures)
    → Shuts told after
    → IfSome told (λ t. t.sent ++ missing ≡ taken)
    → IfSome after (λ t. t.sent ++ missing ≡ taken)
still taken missing None after shuts sent =
    subst (λ a. IfSome a (λ t. t.sent ++ missing ≡ taken)) (sym shuts) tt
still taken missing (Some t) after shuts sent =
    subst (λ a. IfSome a (λ t. t.sent ++ missing ≡ taken)) (sym shuts) sent

-- what was sent before it stays what the takes were answered
pub outlet-shut : (conn : ℕ) (told after : Option Departures) (mine : List SwitchEntry)
    → IsOutlet conn false told mine
    → Shuts told after
    → IsOutlet conn true after mine
outlet-shut conn told after mine kept shuts = record {
  takes = kept.takes;
  missing = kept.missing;
  one_missing = kept.one_missing;
  none_missing = λ h. cc;
  sent = still (messages_taken mine) kept.missing told after shuts kept.sent;
}
