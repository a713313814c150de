use Rattle.std.proofs.Common.{◌≡◌, ℕ, ◌+◌, List, [], ◌++◌, None, Some, Err, length, inl, sym, ap, subst, ◌∙◌, append_assoc, append-nil, arith, length-append}
use Rattle.std.specs.List.{sum_by}
use Rattle.std.proofs.lemmas.List.{take-append-drop}
use Rattle.std.proofs.lemmas.List.Sums.{sum_by-append}
use Rattle.std.proofs.lemmas.Result.{err_from_is_err_and}
use Rattle.chan_io.specs.Faults.{Rises}
use Rattle.chan_io.specs.Sinks.{Writes, WritesPart}
use Rattle.chan_io.specs.declared.failed.IoFault.TheVariants as IoFault
use Rattle.agent_message.specs.Captures.{IsCapture, piece_length}
use Rattle.agent_message.specs.declared.message.Message.{Message}
use Rattle.agent_message.proofs.CaptureLaws.{one_reading}
use Rattle.lab_show.specs.Lines.{show_lines}
use Rattle.lab_show.specs.Listings.{due}
use Rattle.lab_show.proofs.ListingLemmas.{Failed-from_stop, all_taken, part_of_all, part_of_more, place_fits, show_lines-at}
use Rattle.lab_show.proofs.WritingLemmas.{Writes-append, WritesPart-written}
use Rattle.lab_show.proofs.listing.show.Goals as goal

pub returns-in_err-captured-clause-no_memory : goal.returns-in_err-captured-clause-no_memory
returns-in_err-captured-clause-no_memory g c is =
    let a = c.loop-coming.invariant in
    let written : WritesPart (show_lines 0 a.1) (g.K.Sink.output c.args.sink.now)
    (g.K.Sink.output c.loop-coming.sink) =
    subst (λ text. WritesPart text (g.K.Sink.output c.args.sink.now)
    (g.K.Sink.output c.loop-coming.sink))
    (append-nil (show_lines 0 a.1)) (WritesPart-written (show_lines 0 a.1) [] _ _ a.5) in
    part_of_all c.args.capture.now c.loop-coming.reader a.0 c.loop-coming.coming.now a.1 _ _
    (λ i. omega (arith, c.type_inv.capture i)) a.2 a.3 written

pub write_lines-requires : goal.write_lines-requires
write_lines-requires g c =
    let a = c.loop-coming.invariant in
    let part = c.split_at.result.0.now in
    let more = c.in_ok-captured.captured.messages in
    let fits = place_fits c.feed.new.self (a.0 ++ part) a.1 more
    (c.in_ok-captured.ensures.read a.0 a.1 a.3) in
    let sum = ap (sum_by piece_length) c.as_slice.ensures in
    let whole = ap length a.2 in
    let long = length-append a.0 c.loop-coming.coming.now in
    let front = length-append a.0 part in
    omega (arith, c.split_at.ensures.front_len)

pub returns-in_err-at-clause-write : goal.returns-in_err-at-clause-write
returns-in_err-at-clause-write g c is =
    let a = c.loop-coming.invariant in
    let cut : c.split_at.result.0.now ++ c.split_at.result.1.now ≡ c.loop-coming.coming.now =
    rw (c.split_at.ensures.front, c.split_at.ensures.back) (take-append-drop _ _) in
    let P : List Message
    → Type 0 = λ messages. WritesPart (show_lines c.loop-coming.at messages)
    (g.K.Sink.output c.loop-coming.sink) (g.K.Sink.output c.write_lines.new.sink) in
    let wrote = subst P c.as_slice.ensures c.in_err-at.ensures.err in
    let err = err_from_is_err_and c.from_residual-in_err-at.result
    c.from_residual-in_err-at.ensures.1 in
    let failed : c.in_err-at.field-0.0 ≡ IoFault.Failed =
    Failed-from_stop c.in_err-at.field-0.0 (let made = err.1 in let stop = err.2 in cc) in
    let rose : Rises (g.K.Sink.faults c.loop-coming.sink) (g.K.Sink.faults c.write_lines.new.sink) =
    c.in_err-at.ensures.failed (ap Err failed) in (
      subst (λ n. Rises n (g.K.Sink.faults c.write_lines.new.sink)) a.6 rose,
      part_of_more c.args.capture.now c.feed.new.self a.0 c.split_at.result.0.now
          c.split_at.result.1.now c.loop-coming.coming.now a.1 _ c.loop-coming.at _ _ _
          (λ i. omega (arith, c.type_inv.capture i)) a.2 cut a.4
          (c.in_ok-captured.ensures.read a.0 a.1 a.3) a.5 wrote,
    )

pub returns-in_err-at-clause-no_memory : goal.returns-in_err-at-clause-no_memory
returns-in_err-at-clause-no_memory g c is =
    let a = c.loop-coming.invariant in
    let cut : c.split_at.result.0.now ++ c.split_at.result.1.now ≡ c.loop-coming.coming.now =
    rw (c.split_at.ensures.front, c.split_at.ensures.back) (take-append-drop _ _) in
    let P : List Message
    → Type 0 = λ messages. WritesPart (show_lines c.loop-coming.at messages)
    (g.K.Sink.output c.loop-coming.sink) (g.K.Sink.output c.write_lines.new.sink) in
    let wrote = subst P c.as_slice.ensures c.in_err-at.ensures.err in
    part_of_more c.args.capture.now c.feed.new.self a.0 c.split_at.result.0.now
    c.split_at.result.1.now c.loop-coming.coming.now a.1 _ c.loop-coming.at _ _ _
    (λ i. omega (arith, c.type_inv.capture i)) a.2 cut a.4
    (c.in_ok-captured.ensures.read a.0 a.1 a.3) a.5 wrote

pub loop-coming-preserved : goal.loop-coming-preserved
loop-coming-preserved g c =
    let a = c.loop-coming.invariant in
    let part = c.split_at.result.0.now in
    let behind = c.split_at.result.1.now in
    let more = c.in_ok-captured.captured.messages in
    let cut : part ++ behind ≡ c.loop-coming.coming.now =
    rw (c.split_at.ensures.front, c.split_at.ensures.back) (take-append-drop _ _) in
    let parts : (a.0 ++ part) ++ behind ≡ c.args.capture.now =
    append_assoc a.0 part behind ∙ ap (λ bytes. a.0 ++ bytes) cut ∙ a.2 in
    let P : List Message
    → Type 0 = λ messages. Writes (show_lines c.loop-coming.at messages)
    (g.K.Sink.output c.loop-coming.sink) (g.K.Sink.output c.write_lines.new.sink) in
    let wrote = subst P c.as_slice.ensures c.in_ok-at.ensures.ok in
    let Q : List ℕ → Type 0 =
    λ text. Writes text (g.K.Sink.output c.args.sink.now)
    (g.K.Sink.output c.write_lines.new.sink) in (
      a.0 ++ part,
      a.1 ++ more,
      parts,
      c.in_ok-captured.ensures.read a.0 a.1 a.3,
      c.in_ok-at.ensures.place
          ∙ ap (λ ms. c.loop-coming.at + sum_by piece_length ms) c.as_slice.ensures
          ∙ ap (λ n. n + sum_by piece_length more) a.4
          ∙ sym (sum_by-append piece_length a.1 more),
      subst Q (sym (show_lines-at c.loop-coming.at a.1 more a.4))
          (Writes-append (show_lines 0 a.1) (show_lines c.loop-coming.at more) _ _ _ a.5 wrote),
      c.in_ok-at.ensures.steady (λ e. cc) ∙ a.6,
    )

pub returns-in-None-clause-ok : goal.returns-in-None-clause-ok
returns-in-None-clause-ok g c =
    let a = c.loop-coming.invariant in
    let all = all_taken c.args.capture.now a.0 c.loop-coming.coming.now a.2
    c.loop-coming-test.ensures in
    (a.1, subst (λ bytes. IsCapture bytes a.1 None) all (c.in-None.ensures a.0 a.1 a.3), a.5)

pub returns-in-None-clause-complete : goal.returns-in-None-clause-complete
returns-in-None-clause-complete g c messages fault shown steady =
    let a = c.loop-coming.invariant in
    let all = all_taken c.args.capture.now a.0 c.loop-coming.coming.now a.2
    c.loop-coming-test.ensures in
    let is = subst (λ bytes. IsCapture bytes a.1 None) all (c.in-None.ensures a.0 a.1 a.3) in
    inl (ap due (one_reading c.args.capture.now a.1 messages None fault is shown).1)

pub returns-clause-fault : goal.returns-clause-fault
returns-clause-fault g c fault is =
    let a = c.loop-coming.invariant in
    let all = all_taken c.args.capture.now a.0 c.loop-coming.coming.now a.2
    c.loop-coming-test.ensures in
    let same : c.in-Some.fault ≡ fault = cc in (
      a.1,
      subst (λ f. IsCapture c.args.capture.now a.1 (Some f)) same
          (subst (λ bytes. IsCapture bytes a.1 (Some c.in-Some.fault)) all
          (c.in-Some.ensures a.0 a.1 a.3)),
      a.5,
    )

pub returns-clause-complete : goal.returns-clause-complete
returns-clause-complete g c messages fault shown steady =
    let a = c.loop-coming.invariant in
    let all = all_taken c.args.capture.now a.0 c.loop-coming.coming.now a.2
    c.loop-coming-test.ensures in
    let is = subst (λ bytes. IsCapture bytes a.1 (Some c.in-Some.fault)) all
    (c.in-Some.ensures a.0 a.1 a.3) in
    inl (ap due (one_reading c.args.capture.now a.1 messages (Some c.in-Some.fault) fault is
    shown).1)
