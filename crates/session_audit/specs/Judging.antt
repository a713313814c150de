-- What is told of two ends that came to a halt.
use Rattle.std.specs.Prelude.{◌≡◌, Option, Some}
use Rattle.channel_core.specs.declared.answer.Look.{Look}
use Rattle.channel_core.specs.declared.call.EndAnswer.TheVariants as EndAnswer
use Rattle.channel_core.specs.declared.call.EndCall.TheVariants as EndCall
use Rattle.channel_core.specs.Stands.{EndState, Follows}
use Rattle.session_audit.specs.declared.act.Act.{Act}
use Rattle.session_audit.specs.declared.verdict.Totals.{Totals}
use Rattle.session_audit.specs.declared.verdict.Why.{Why}

-- why what a record says can't be done, by its kind
abbrev pub why_of : Option Act → Why
why_of (Some (Act.Hears incoming)) = Why.Unheard
why_of act = Why.NotEmitted

-- the end answers a look so
abbrev pub LooksSo : EndState → Look → Type 0
LooksSo end look = Follows end end EndCall.Look (EndAnswer.Look look)

-- the totals are those that the ends show
pub record IsTotals (plugin agent : EndState) (totals : Totals) : Type 0 where
  pub plugin_look : Look
  pub agent_look : Look
  pub plugin_shows : LooksSo plugin plugin_look
  pub agent_shows : LooksSo agent agent_look
  pub are : totals
      ≡ record {
        sent_p = plugin_look.next;
        sent_a = agent_look.next;
        released_a = agent_look.expected;
        released_p = plugin_look.expected;
      }
