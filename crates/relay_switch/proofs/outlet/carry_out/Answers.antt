use Rattle.std.proofs.Common.{Some, ap, sym, ◌∙◌}
use Rattle.chan_io.specs.declared.got.Got.{Got}
use Rattle.relay_switch.specs.Outlets.{message_in}
use Rattle.relay_switch.specs.declared.switch_call.SwitchAnswer.{SwitchAnswer}
use Rattle.relay_switch.proofs.OutletLemmas.{sent-turn}
use Rattle.relay_switch.proofs.outlet.carry_out.Goals as goal

pub returns-in-Next-Text : goal.returns-in-Next-Text
returns-in-Next-Text g c =
    let arm = c.in-Next-Text in
    let sent = c.send_text-sent in
    sent-turn c.args.answer (Got.Text c.as_slice.result.now) sent.result c.end_send.result
    _ _ _ _ _ _
    (ap message_in arm.is ∙ ap (λ a. message_in (SwitchAnswer.Next a)) arm.field-0-is
    ∙ ap (λ b. Some (Got.Text b)) (sym c.as_slice.ensures))
    sent.ensures.sends sent.ensures.failed sent.ensures.steady
    c.end_send.ensures.ends c.end_send.ensures.steady

pub returns-in-Next-Send : goal.returns-in-Next-Send
returns-in-Next-Send g c =
    let arm = c.in-Next-Send in
    let sent = c.send-sent in
    let shuts = c.end_send-in-Next-Send in
    sent-turn c.args.answer (Got.Binary c.as_slice-in-Next-Send.result.now) sent.result
    shuts.result _ _ _ _ _ _
    (ap message_in arm.is ∙ ap (λ a. message_in (SwitchAnswer.Next a)) arm.field-0-is
    ∙ ap (λ b. Some (Got.Binary b)) (sym c.as_slice-in-Next-Send.ensures))
    sent.ensures.sends sent.ensures.failed sent.ensures.steady
    shuts.ensures.ends shuts.ensures.steady
