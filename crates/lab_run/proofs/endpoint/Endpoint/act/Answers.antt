use Rattle.std.proofs.Common.{◌≡◌, ◌∙◌, ℕ, [], List, Some, Result, Ok, IfOk, length, refl, sym, ap}
use Rattle.std.proofs.lemmas.List.{length-map}
use Rattle.chan_values.specs.declared.no_memory.NoMemory.{NoMemory}
use Rattle.chan_values.specs.Sides.{other}
use Rattle.channel_core.specs.declared.call.EndCall.{EndCall}
use Rattle.channel_core.specs.declared.message.Incoming.TheVariants as Incoming
use Rattle.channel_core.specs.Exchange.{incoming_of}
use Rattle.channel_core.specs.History.{emissions}
use Rattle.channel_core.specs.Stands.{EndState}
use Rattle.channel_core.specs.Wire.{encoding}
use Rattle.channel_core.specs.World.{Event, IsLegalWorld, history_of}
use Rattle.lab_script.specs.declared.outcome.Outcome.{Outcome}
use Rattle.lab_script.specs.declared.verb.Verb.{Verb}
use Rattle.lab_script.specs.declared.verb.Verb.TheVariants as verbs
use Rattle.lab_run.specs.declared.context.Context.{Context}
use Rattle.lab_run.specs.declared.endpoint.Endpoint.{Endpoint}
use Rattle.lab_run.specs.Ends.{IsCalled, IsEndpoint, Makes}
use Rattle.lab_run.specs.Steps.{called, id_of}
use Rattle.lab_run.proofs.EmissionLemmas.{IsEmission, IsEmission-found, emission_at-none}
use Rattle.lab_run.proofs.StepLemmas.{Makes-called, Makes-hurt, Makes-quiet}
use Rattle.lab_run.proofs.endpoint.Endpoint.act.Goals as goal

-- the end was called, and the rest of the endpoint stays
made : (w : ℕ) (world : List Event) (context : Context) (verb : Verb) (call : EndCall)
    (old : Endpoint) (end : EndState) (r : Result Outcome NoMemory)
    → IsLegalWorld w world
    → IsEndpoint w old.side (history_of old.side world) old
    → IfOk r
    (IsCalled old.side (length (emissions (history_of old.side world))) call old.end end)
    → IfOk r
    (Makes w world (called w world context.line verb old.side call) (record old { end = end }))
made w world context verb call old end r legal here told =
    Makes-called w world context.line verb old.side call old (record old { end = end }) r legal
    here told refl refl

pub returns-in-Put : goal.returns-in-Put
returns-in-Put c w world legal here there =
    rw c.in-Put.is
    (made w world c.args.context.now verbs.Put
    (EndCall.Put c.in-Put.item (id_of c.args.context.now.line) c.args.context.now.moment)
    c.args.self.now _ (Ok c.put.result) legal here (c.put.ensures _ _))

pub returns-in-PutLast : goal.returns-in-PutLast
returns-in-PutLast c w world legal here there =
    rw c.in-PutLast.is
    (made w world c.args.context.now verbs.Last
    (EndCall.PutLast c.in-PutLast.item (id_of c.args.context.now.line) c.args.context.now.moment)
    c.args.self.now _ (Ok c.put_last.result) legal here (c.put_last.ensures _ _))

pub returns-in-Tick : goal.returns-in-Tick
returns-in-Tick c w world legal here there =
    rw c.in-Tick.is
    (made w world c.args.context.now verbs.Tick
    (EndCall.Tick c.args.context.now.moment)
    c.args.self.now _ (Ok c.tick.result) legal here (c.tick.ensures _ _))

pub returns-in-Close : goal.returns-in-Close
returns-in-Close c w world legal here there =
    rw c.in-Close.is
    (made w world c.args.context.now verbs.Close
    (EndCall.Close)
    c.args.self.now _ (Ok c.close.result) legal here (c.close.ensures _ _))

pub returns-in-Lost : goal.returns-in-Lost
returns-in-Lost c w world legal here there =
    rw c.in-Lost.is
    (made w world c.args.context.now verbs.Lost
    (EndCall.Lost)
    c.args.self.now _ (Ok c.disconnect.result) legal here (c.disconnect.ensures _ _))

pub returns-in-Open : goal.returns-in-Open
returns-in-Open c w world legal here there =
    rw c.in-Open.is
    (made w world c.args.context.now verbs.Open
    (EndCall.Opened c.args.context.now.moment)
    c.args.self.now _ (Ok c.connect.result) legal here (c.connect.ensures _ _))

pub returns-in-Pause : goal.returns-in-Pause
returns-in-Pause c w world legal here there =
    rw c.in-Pause.is
    (made w world c.args.context.now verbs.Pause
    (EndCall.Heard c.args.context.now.moment Incoming.Pause)
    c.args.self.now _ c.hear_message.result legal here (c.hear_message.ensures _ _))

pub returns-in-Start : goal.returns-in-Start
returns-in-Start c w world legal here there =
    rw c.in-Start.is
    (made w world c.args.context.now verbs.Start
    (EndCall.Heard c.args.context.now.moment Incoming.Start)
    c.args.self.now _ c.hear_message-in-Start.result legal here
    (c.hear_message-in-Start.ensures _ _))

pub returns-in-End : goal.returns-in-End
returns-in-End c w world legal here there =
    rw c.in-End.is
    (made w world c.args.context.now verbs.End
    (EndCall.Heard c.args.context.now.moment (Incoming.Closing []))
    c.args.self.now _ c.hear_closing.result legal here (c.hear_closing.ensures _ _))

-- the number of an emission is how many were kept before
pub returns-in-Pull : goal.returns-in-Pull
returns-in-Pull c w world legal here there =
    let side = c.args.self.now.side in
    let out = emissions (history_of side world) in
    let number : c.len-number.result ≡ length out =
    c.len-number.ensures ∙ c.args.self.now.sent.ok.0 ∙ ap length here.sent.encoded
    ∙ length-map out (encoding side) in
    rw c.in-Pull.is
    (made w world c.args.context.now verbs.Pull (EndCall.Pull c.args.context.now.moment)
    c.args.self.now _ c.pull.result legal here (rw number at c.pull.ensures))

-- what is kept at the other end is what it emitted
pub returns-in-Some : goal.returns-in-Some
returns-in-Some c w world legal here there =
    let far = other c.args.self.now.side in
    let e : IsEmission far (emissions (history_of far world)) c.in-Hear.which c.in-Some.bytes.now =
    IsEmission-found far c.deref.result.now _ c.in-Hear.which c.in-Some.bytes.now
    (c.deref.ensures.value ∙ there.sent.encoded) there.sent.sendable c.in-Some.ensures in
    rw (c.in-Hear.is, e.found)
    (made w world c.args.context.now verbs.Hear
    (EndCall.Heard c.args.context.now.moment (incoming_of e.out))
    c.args.self.now _ c.hear.result legal here
    (c.hear.ensures _ e.out e.sendable (c.as_slice.ensures ∙ e.encoded)))

pub returns-in-None : goal.returns-in-None
returns-in-None c w world legal here there =
    let none =
    emission_at-none (other c.args.self.now.side) c.deref.result.now _ c.in-Hear.which
    (c.deref.ensures.value ∙ there.sent.encoded) c.in-None.ensures in
    rw (c.in-Hear.is, none) (Makes-quiet w world _ c.args.self.now _ refl here refl refl)

pub returns-in-Some-emission : goal.returns-in-Some-emission
returns-in-Some-emission c w world legal here there =
    let far = other c.args.self.now.side in
    let e : IsEmission far (emissions (history_of far world))
    c.in-Hurt.which c.in-Some-emission.bytes.now =
    IsEmission-found far c.deref-in-Hurt.result.now _ c.in-Hurt.which c.in-Some-emission.bytes.now
    (c.deref-in-Hurt.ensures.value ∙ there.sent.encoded) there.sent.sendable
    c.in-Some-emission.ensures in
    rw (c.in-Hurt.is, e.found)
    (Makes-hurt w world c.args.context.now.line c.args.self.now.side c.in-Hurt.place (Some e.out)
    c.args.self.now c.hurt.result here
    (c.hurt.ensures e.out e.sendable (c.as_slice-in-Some-emission.ensures ∙ e.encoded)))

pub returns-in-None-emission : goal.returns-in-None-emission
returns-in-None-emission c w world legal here there =
    let none =
    emission_at-none (other c.args.self.now.side) c.deref-in-Hurt.result.now _ c.in-Hurt.which
    (c.deref-in-Hurt.ensures.value ∙ there.sent.encoded) c.in-None-emission.ensures in
    rw (c.in-Hurt.is, none) (Makes-quiet w world _ c.args.self.now _ refl here refl refl)
