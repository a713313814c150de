-- What a script makes of the two ends.
use Rattle.std.proofs.Common.{◌≡◌, ◌≢◌, ℕ, ◌+◌, ◌-◌, false, Option, Some, None, List, [], ◌∷◌, ◌++◌, length, refl, sym, ap, subst, ◌∙◌, append_assoc, append-nil, add-zero, arith, map, true}
use Rattle.std.specs.List.{fold}
use Rattle.std.proofs.lemmas.List.Elements.{filter_map-append}
use Rattle.std.proofs.lemmas.Grind.{flat_map-append}
use Rattle.std.proofs.lemmas.List.Sums.{fold-append}
use Rattle.chan_values.specs.Sides.{other}
use Rattle.channel_core.specs.declared.call.EndCall.{EndCall}
use Rattle.channel_core.specs.declared.message.Incoming.TheVariants as Incoming
use Rattle.channel_core.specs.declared.message.Outgoing.{Outgoing}
use Rattle.channel_core.specs.History.{PutMessage, has_ended, is_closed, put_items, released_items}
use Rattle.channel_core.specs.Legal.{IsLegal}
use Rattle.channel_core.specs.World.{Event, entry_at, history_of}
use Rattle.channel_core.proofs.WorldLemmas.{IsRight}
use Rattle.lab_script.specs.Report.{report_line}
use Rattle.chan_values.specs.declared.side.Side.{Side}
use Rattle.lab_script.specs.declared.command.Action.{Action}
use Rattle.lab_script.specs.declared.command.Command.{Command}
use Rattle.lab_script.specs.declared.outcome.Outcome.{Outcome}
use Rattle.lab_script.specs.Command.{verb_of}
use Rattle.lab_script.specs.declared.word.Which.{Which}
use Rattle.channel_core.proofs.DeliveryLemmas.{each_number_is_taken_once, released_is_prefix}
use Rattle.channel_core.proofs.FinishLemmas.{finished_is_once, nothing_follows_the_last}
use Rattle.channel_core.proofs.WholeLemmas.{finished_is_whole}
use Rattle.channel_core.proofs.WithinLemmas.{nothing_is_past_the_end}
use Rattle.channel_core.proofs.ExchangeLemmas.{exchange_releases_all}
use Rattle.lab_run.specs.declared.pair.Pair.{Pair}
use Rattle.lab_run.specs.declared.stop.Stop.{Stop}
use Rattle.lab_run.specs.Laws.{IsFaithful, IsSettled}
use Rattle.lab_run.specs.Run.{Progress, progress, progress_after, report, run}
use Rattle.lab_run.specs.Steps.{Step, events_of, settle_steps, start, step_of, steps_of, world_of}
use Rattle.lab_run.proofs.RightLemmas.{IsOf-step_of, IsRight-start, IsRight-steps}
use Rattle.lab_run.proofs.SettleLemmas.{IsRight-settle, settle_has_lines, settle_is_exchange}

-- more steps are more of the world
pub world_of-append : (a b : List Step) → world_of (a ++ b) ≡ world_of a ++ events_of b
world_of-append a b =
    ap (λ (xs : List Event). start ++ xs) (filter_map-append (λ (s : Step). s.event) a b)
    ∙ sym (append_assoc start (events_of a) (events_of b))

-- and more of the report
pub report-append : (a b : List Step) → report (a ++ b) ≡ report a ++ report b
unfolding report
report-append a b = flat_map-append _ a b

pub report-none : report [] ≡ []
unfolding report
report-none = refl

-- the step of an end is one line
pub report-step_of : (w : ℕ) (world : List Event) (now line : ℕ) (side : Side) (action : Action)
    (outcome : Outcome)
    → let s = step_of w world now line side action in
    outcome ≡ s.outcome
    → report (s ∷ []) ≡ report_line line (verb_of action) (Some side) outcome
unfolding report
report-step_of w world now line side action outcome told =
    let s = step_of w world now line side action in
    let of = IsOf-step_of w world now line side action in
    append-nil _
    ∙ ap (λ n. report_line n s.verb (Some s.side) s.outcome) of.number
    ∙ ap (λ v. report_line line v (Some s.side) s.outcome) of.word
    ∙ ap (λ z. report_line line (verb_of action) (Some z) s.outcome) of.at
    ∙ ap (λ o. report_line line (verb_of action) (Some side) o) (sym told)

-- one line more
pub progress-push : (w : ℕ) (commands : List Command) (command : Command)
    → progress w (commands ++ command ∷ []) ≡ progress_after w (progress w commands) command
unfolding progress
progress-push w commands command = fold-append (progress_after w) _ commands (command ∷ [])

-- the line's number
pub line-progress : (w : ℕ) (commands : List Command)
    → (progress w commands).line ≡ length commands + 1
unfolding progress
line-progress w commands = lines (record { steps = []; now = 0; line = 1 }) commands ∙ omega arith
  where
    lines : (p : Progress) (commands : List Command)
        → (fold (progress_after w) p commands).line ≡ p.line + length commands
    lines p [] = sym (add-zero p.line)
    lines p (c ∷ cs) = lines (progress_after w p c) cs ∙ omega arith

-- the steps of a front of a script are a front of its steps
pub run-front : (w : ℕ) (front rest : List Command)
    → (more : List Step) × (run w (front ++ rest) ≡ run w front ++ more)
unfolding progress
run-front w front rest =
    let g = grows (fold (progress_after w) (record { steps = []; now = 0; line = 1 }) front) rest in
    (g.0, ap (λ (p : Progress). p.steps) (fold-append (progress_after w) _ front rest) ∙ g.1)
  where
    grows : (p : Progress) (rest : List Command)
        → (more : List Step) × ((fold (progress_after w) p rest).steps ≡ p.steps ++ more)
    grows p [] = ([], sym (append-nil p.steps))
    grows p (c ∷ cs) =
        let g = grows (progress_after w p c) cs in
        let steps = steps_of w (world_of p.steps) p.now p.line c in
        (steps ++ g.0, g.1 ∙ append_assoc p.steps steps g.0)

-- the world of a script is legal and honest
pub IsRight-run : (w : ℕ) (commands : List Command) → IsRight w (world_of (run w commands))
unfolding progress
IsRight-run w commands = goes (record { steps = []; now = 0; line = 1 }) commands
    (rw append-nil (IsRight-start w))
  where
    goes : (p : Progress) (commands : List Command) → IsRight w (world_of p.steps)
        → IsRight w (world_of (fold (progress_after w) p commands).steps)
    goes p [] r = r
    goes p (c ∷ cs) r =
        goes (progress_after w p c) cs
        (subst (IsRight w) (sym (world_of-append p.steps
        (steps_of w (world_of p.steps) p.now p.line c)))
        (IsRight-steps w (world_of p.steps) p.now p.line c r))

-- before the first line
pub world_of-none : (w : ℕ) → world_of (run w []) ≡ start
unfolding progress
world_of-none w = append-nil start

pub now-none : (w : ℕ) → 0 ≡ (progress w []).now
unfolding progress
now-none w = refl

pub report-run-none : (w : ℕ) → report (run w []) ≡ []
unfolding progress report
report-run-none w = refl

-- the steps of one line more
pub run-push : (w : ℕ) (commands : List Command) (command : Command) (now line : ℕ)
    → now ≡ (progress w commands).now
    → line ≡ length commands + 1
    → run w (commands ++ command ∷ []) ≡ run w commands ++ steps_of w (world_of (run w commands))
    now line command
run-push w commands command now line at number =
    ap (λ (p : Progress). p.steps) (progress-push w commands command)
    ∙ ap
    (λ n. run w commands ++ steps_of w (world_of (run w commands)) n
    (progress w commands).line command)
    (sym at)
    ∙ ap
    (λ n. run w commands ++ steps_of w (world_of (run w commands)) now n command)
    (line-progress w commands ∙ sym number)

-- more steps are more of what happened at an end
history-append : (side : Side) (a b : List Step)
    → history_of side (world_of (a ++ b))
    ≡ history_of side (world_of a) ++ history_of side (events_of b)
unfolding history_of
history-append side a b =
    ap (history_of side) (world_of-append a b)
    ∙ filter_map-append (λ (x : Event). entry_at side x.side x.entry) (world_of a) (events_of b)

-- after the last item of a direction nothing is put in there, whatever lines follow
puts-end : (w : ℕ) (commands rest : List Command) (side : Side)
    → let h = history_of side (world_of (run w commands)) in
    has_ended h ≡ true
    → put_items (history_of side (world_of (run w (commands ++ rest)))) ≡ put_items h
puts-end w commands rest side over =
    let h = history_of side (world_of (run w commands)) in
    let front = run-front w commands rest in
    let more = history_of side (events_of front.0) in
    let joined : history_of side (world_of (run w (commands ++ rest))) ≡ h ++ more =
    ap (λ (s : List Step). history_of side (world_of s)) front.1
    ∙ history-append side (run w commands) front.0 in
    let legal : IsLegal w (h ++ more) =
    subst (IsLegal w) joined ((IsRight-run w (commands ++ rest)).legal side) in
    ap put_items joined
    ∙ ap
    (λ (l : List PutMessage). map (λ m. m.item) l)
    (nothing_follows_the_last w h more legal over)

-- the world of a script is legal and honest, each number is taken once there, what was released is a
-- prefix of what was put in, the whole where its last item was released, none is past an end, none is
-- put in after it, and a script that goes on has the same beginning
pub run_is_faithful : (w : ℕ) (commands : List Command) → IsFaithful w commands
run_is_faithful w commands =
    let r = IsRight-run w commands in
    record {
      legal = r.legal;
      honest = r.honest;
      once = λ side. each_number_is_taken_once w (history_of side (world_of (run w commands)))
          (r.legal side);
      prefix = λ side. released_is_prefix w (world_of (run w commands)) side r.legal r.honest;
      whole = λ side. finished_is_whole w (world_of (run w commands)) side r.legal r.honest;
      within = λ n. nothing_is_past_the_end w (world_of (run w commands)) n r.legal r.honest;
      finished = λ side. finished_is_once w (history_of side (world_of (run w commands)))
          (r.legal side);
      ended = puts-end w commands;
      begins = λ rest. let more = run-front w commands rest in (more.0, sym more.1);
    }

-- a settle is an exchange with the steps of its lines, after which all that was put in is released where neither end is closed
pub run_is_settled : (w : ℕ) (commands : List Command) → IsSettled w commands
run_is_settled w commands =
    record {
      exchange = λ now line. settle_is_exchange w before now line right;
      lines = λ now line. settle_has_lines w before now line right;
      released = λ unclosed side.
          let all : released_items (history_of (other side) (before ++ xs)) ≡ put_items
          (history_of side (before ++ xs))
          = exchange_releases_all w before xs side
          (IsRight-settle w before now line right).legal right.honest
          (settle_is_exchange w before now line right)
          (λ end. subst (λ world. is_closed (history_of end world) ≡ false) after (unclosed end)) in
          subst
          (λ world. released_items (history_of (other side) world) ≡ put_items
          (history_of side world))
          (sym after) all;
    }
  where
    before : List Event
    before = world_of (run w commands)

    right : IsRight w before
    right = IsRight-run w commands

    now : ℕ
    now = (progress w commands).now

    line : ℕ
    line = length commands + 1

    xs : List Event
    xs = events_of (settle_steps w before now line)

    after : world_of (run w (commands ++ Command.Settle ∷ [])) ≡ before ++ xs
    after =
        ap world_of (run-push w commands Command.Settle now line refl refl)
        ∙ world_of-append (run w commands) (settle_steps w before now line)
