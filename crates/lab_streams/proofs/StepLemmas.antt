-- A step of an end and its feed, of ends and link together.
use Rattle.std.proofs.Common.{◌≡◌, ℕ, Option, None, Bool, true, false, not, cond, refl, List, [], ◌∷◌, ◌++◌, length, sym, ap, subst, ◌∙◌, Result, Ok, Err, OnOk}
use Rattle.std.specs.Prelude.{nat_lt}
use Rattle.chan_values.specs.declared.side.Side.{Side}
use Rattle.lab_script.specs.declared.outcome.Outcome.{Outcome}
use Rattle.lab_script.specs.declared.verb.Verb.{Verb}
use Rattle.lab_script.specs.Report.{report_line}
use Rattle.lab_run.specs.declared.stop.Stop.{Stop}
use Rattle.lab_run.specs.Printing.{Adds, Printout, Stops}
use Rattle.lab_run.specs.Steps.{Step}
use Rattle.lab_streams.specs.declared.link.Link.{Link}
use Rattle.lab_streams.specs.declared.streams.Streams.{Streams}
use Rattle.lab_streams.specs.Ends.{IsLink, IsStreams, MakesStep}
use Rattle.lab_streams.specs.Outcomes.{items_in}
use Rattle.lab_streams.specs.Run.{stream_report}
use Rattle.lab_streams.specs.Steps.{Past, StreamStep, after, bytes_of, feed_step, feed_steps, fed_steps, plain_step}
use Rattle.lab_streams.proofs.PastLemmas.{after-then, fed_steps-one}
use Rattle.lab_streams.proofs.PushLemmas.{IsStreams-mux}
use Rattle.lab_streams.proofs.ReportLemmas.{Adds-steps, report-once, Stops-before, Stops-steps}

-- whether bytes of the streams came by a step
abbrev pub brings : Step → Bool
brings s = nat_lt 0 (length (bytes_of (items_in s.outcome)))

pub came_none : (b : Bool) → not b ≡ true → b ≡ false
came_none true is = cc
came_none false is = refl

pub came_some : (b : Bool) → not b ≡ false → b ≡ true
came_some true is = refl
came_some false is = cc

-- what happened once an end made its step
abbrev pub past_plain : Past → Step → Past
past_plain past s = after past (plain_step s ∷ [])

-- nothing came
pub fed-none : (past : Past) (s : Step) → brings s ≡ false
    → fed_steps past (s ∷ []) ≡ plain_step s ∷ []
fed-none past s none =
    fed_steps-one past s
    ∙ ap
    (λ (b : Bool).
    plain_step s ∷ cond b (feed_step (past_plain past s) s.line s.side ∷ []) [])
    none

-- bytes came
pub fed-some : (past : Past) (s : Step) (line : ℕ) (side : Side)
    → s.line ≡ line
    → s.side ≡ side
    → brings s ≡ true
    → fed_steps past (s ∷ [])
    ≡ (plain_step s ∷ []) ++ (feed_step (past_plain past s) line side ∷ [])
fed-some past s line side number at some =
    fed_steps-one past s
    ∙ ap
    (λ (b : Bool).
    plain_step s ∷ cond b (feed_step (past_plain past s) s.line s.side ∷ []) [])
    some
    ∙ ap (λ n. plain_step s ∷ feed_step (past_plain past s) n s.side ∷ []) number
    ∙ ap (λ z. plain_step s ∷ feed_step (past_plain past s) line z ∷ []) at

pub made-none : (w : ℕ) (past : Past) (s : Step) (new : Streams)
    → brings s ≡ false
    → IsStreams w (past_plain past s) new
    → IsStreams w (after past (fed_steps past (s ∷ []))) new
made-none w past s new none made =
    subst (λ (l : List StreamStep). IsStreams w (after past l) new) (sym (fed-none past s none)) made

pub made-some : (w : ℕ) (past : Past) (s : Step) (line : ℕ) (side : Side) (new : Streams)
    → s.line ≡ line
    → s.side ≡ side
    → brings s ≡ true
    → let one = past_plain past s in
    IsStreams w (after one (feed_step one line side ∷ [])) new
    → IsStreams w (after past (fed_steps past (s ∷ []))) new
made-some w past s line side new number at some made =
    let one = past_plain past s in
    subst (λ (l : List StreamStep). IsStreams w (after past l) new)
    (sym (fed-some past s line side number at some))
    (subst (λ (p : Past). IsStreams w p new)
    (after-then past (plain_step s ∷ []) (feed_step one line side ∷ [])) made)

pub adds-none : (past : Past) (s : Step) (old new : Printout)
    → brings s ≡ false
    → Adds (stream_report (plain_step s ∷ [])) old new
    → Adds (stream_report (fed_steps past (s ∷ []))) old new
adds-none past s old new none printed =
    subst (λ (l : List StreamStep). Adds (stream_report l) old new) (sym (fed-none past s none))
    printed

pub adds-some : (past : Past) (s : Step) (line : ℕ) (side : Side) (old mid new : Printout)
    → s.line ≡ line
    → s.side ≡ side
    → brings s ≡ true
    → Adds (stream_report (plain_step s ∷ [])) old mid
    → Adds (stream_report (feed_step (past_plain past s) line side ∷ [])) mid new
    → Adds (stream_report (fed_steps past (s ∷ []))) old new
adds-some past s line side old mid new number at some first second =
    subst (λ (l : List StreamStep). Adds (stream_report l) old new)
    (sym (fed-some past s line side number at some))
    (Adds-steps (plain_step s ∷ []) (feed_step (past_plain past s) line side ∷ []) old mid new
    first second)

pub stops-some : (past : Past) (s : Step) (line : ℕ) (side : Side) (stop : Stop)
    (old mid new : Printout)
    → s.line ≡ line
    → s.side ≡ side
    → brings s ≡ true
    → Adds (stream_report (plain_step s ∷ [])) old mid
    → Stops (stream_report (feed_step (past_plain past s) line side ∷ [])) stop mid new
    → Stops (stream_report (fed_steps past (s ∷ []))) stop old new
stops-some past s line side stop old mid new number at some first second =
    subst (λ (l : List StreamStep). Stops (stream_report l) stop old new)
    (sym (fed-some past s line side number at some))
    (Stops-steps (plain_step s ∷ []) (feed_step (past_plain past s) line side ∷ []) stop
    old mid new first second)

-- the step of the end stops
pub stops-plain : (past : Past) (s : Step) (stop : Stop) (old new : Printout)
    → Stops (stream_report (plain_step s ∷ [])) stop old new
    → Stops (stream_report (fed_steps past (s ∷ []))) stop old new
stops-plain past s stop old new stops =
    let more = feed_steps (past_plain past s) s.line s.side (bytes_of (items_in s.outcome)) in
    subst (λ (l : List StreamStep). Stops (stream_report l) stop old new)
    (sym (fed_steps-one past s))
    (Stops-before (plain_step s ∷ []) more stop old new stops)

-- the ends beside a call of a Mux
pub IsStreams-called : {T E : Type 0} (w : ℕ) (past : Past) (s : StreamStep) (old : Streams)
    (new : Link) (r : Result T E)
    → s.event ≡ None
    → IsStreams w past old
    → IsLink (after past (s ∷ [])) new
    → OnOk r (IsStreams w (after past (s ∷ [])) (record old { link = new }))
IsStreams-called w past s old new (Ok x) none is link = IsStreams-mux w past s old new none is link
IsStreams-called w past s old new (Err e) none is link = tt

-- its line of the report
pub report-called : (past : Past) (s : StreamStep) (line : ℕ) (verb : Verb) (side : Option Side)
    (link : Link) (outcome : Outcome)
    → s.line ≡ line
    → MakesStep past s verb side link outcome
    → stream_report (s ∷ []) ≡ report_line line verb side outcome
report-called past s line verb side link outcome number makes =
    report-once s line verb side outcome number makes.told
