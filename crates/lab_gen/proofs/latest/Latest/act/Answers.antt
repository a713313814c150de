use Rattle.std.proofs.Common.{◌≡◌, ◌∙◌, ℕ, List, Result, Ok, IfOk, sym, refl}
use Rattle.chan_values.specs.declared.no_memory.NoMemory.{NoMemory}
use Rattle.chan_values.specs.declared.side.Side.{Side}
use Rattle.chan_values.specs.Sides.{other}
use Rattle.channel_core.specs.declared.call.EndCall.{EndCall}
use Rattle.channel_core.specs.Exchange.{incoming_of}
use Rattle.channel_core.specs.History.{emissions}
use Rattle.channel_core.specs.Stands.{EndState}
use Rattle.channel_core.specs.World.{Event, IsLegalWorld, history_of}
use Rattle.lab_script.specs.declared.outcome.Outcome.{Outcome}
use Rattle.lab_script.specs.declared.verb.Verb.{Verb}
use Rattle.lab_script.specs.declared.verb.Verb.TheVariants as verbs
use Rattle.lab_script.specs.declared.word.Which.{Which}
use Rattle.lab_run.specs.declared.context.Context.{Context}
use Rattle.lab_run.specs.Ends.{IsCalled}
use Rattle.lab_run.specs.Steps.{called, id_of}
use Rattle.lab_run.proofs.EmissionLemmas.{IsEmission, IsEmission-found, emission_at-none}
use Rattle.lab_gen.specs.declared.latest.Latest.{Latest}
use Rattle.lab_gen.specs.Ends.{IsLatest, MakesLatest}
use Rattle.lab_gen.proofs.LatestLemmas.{MakesLatest-absent, MakesLatest-called}
use Rattle.lab_gen.proofs.latest.Latest.act.Goals as goal

-- the end was called, and what was kept stays
made : (w : ℕ) (world : List Event) (context : Context) (verb : Verb) (side : Side)
    (call : EndCall) (old : Latest) (end : EndState) (r : Result Outcome NoMemory)
    → IsLegalWorld w world
    → IsLatest w side (history_of side world) old
    → IfOk r (IsCalled side 0 call old.end end)
    → IfOk r
    (MakesLatest w world (called w world context.line verb side call) (record old { end = end }))
made w world context verb side call old end r legal here told =
    MakesLatest-called w world context.line verb side call 0 old (record old { end = end }) r
    legal here told refl

pub returns-in-Put : goal.returns-in-Put
returns-in-Put c w world legal here there =
    rw c.in-Put.is
    (made w world c.args.context.now verbs.Put c.args.side
    (EndCall.Put c.in-Put.item (id_of c.args.context.now.line) c.args.context.now.moment)
    c.args.self.now _ (Ok c.put.result) legal here (c.put.ensures _ _))

pub returns-in-Pull : goal.returns-in-Pull
returns-in-Pull c w world legal here there =
    rw c.in-Pull.is
    (made w world c.args.context.now verbs.Pull c.args.side
    (EndCall.Pull c.args.context.now.moment)
    c.args.self.now _ c.pull.result legal here c.pull.ensures)

pub returns-in-Tick : goal.returns-in-Tick
returns-in-Tick c w world legal here there =
    rw c.in-Tick.is
    (made w world c.args.context.now verbs.Tick c.args.side
    (EndCall.Tick c.args.context.now.moment)
    c.args.self.now _ (Ok c.tick.result) legal here (c.tick.ensures _ _))

pub returns-in-Lost : goal.returns-in-Lost
returns-in-Lost c w world legal here there =
    rw c.in-Lost.is
    (made w world c.args.context.now verbs.Lost c.args.side EndCall.Lost
    c.args.self.now _ (Ok c.disconnect.result) legal here (c.disconnect.ensures _ _))

pub returns-in-Open : goal.returns-in-Open
returns-in-Open c w world legal here there =
    rw c.in-Open.is
    (made w world c.args.context.now verbs.Open c.args.side
    (EndCall.Opened c.args.context.now.moment)
    c.args.self.now _ (Ok c.connect.result) legal here (c.connect.ensures _ _))

-- what is kept at the other end is the latest of what it emitted
pub returns-in-Some : goal.returns-in-Some
returns-in-Some c w world legal here there =
    let far = other c.args.side in
    let last : c.in-Hear.which ≡ Which.Last = rw c.in-Hear.is at c.requires in
    let e : IsEmission far (emissions (history_of far world)) Which.Last c.in-Some.bytes =
    IsEmission-found far there.sent _ Which.Last c.in-Some.bytes there.done.encoded
    there.done.sendable (sym c.in-Some.is ∙ there.kept) in
    rw (c.in-Hear.is, last, e.found)
    (made w world c.args.context.now verbs.Hear c.args.side
    (EndCall.Heard c.args.context.now.moment (incoming_of e.out))
    c.args.self.now _ c.hear.result legal here
    (c.hear.ensures _ e.out e.sendable (c.as_slice.ensures ∙ e.encoded)))

pub returns-in-None : goal.returns-in-None
returns-in-None c w world legal here there =
    let last : c.in-Hear.which ≡ Which.Last = rw c.in-Hear.is at c.requires in
    let none =
    emission_at-none (other c.args.side) there.sent _ Which.Last there.done.encoded
    (sym c.in-None.is ∙ there.kept) in
    rw (c.in-Hear.is, last, none)
    (MakesLatest-absent w world c.args.context.now.moment c.args.context.now.line c.args.side
    c.args.self.now here)
