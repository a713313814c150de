use Rattle.std.proofs.Common.{◌≡◌, inl, ap, subst}
use Rattle.lab_run.proofs.LawLemmas.{script_laws}
use Rattle.lab_gen.proofs.LawLemmas.{generated_laws}
use Rattle.lab_journal.proofs.LawLemmas.{journal_laws}
use Rattle.lab_relay.proofs.SoundLemmas.{relay_laws}
use Rattle.lab_streams.proofs.LawLemmas.{stream_laws}
use Rattle.session_audit.proofs.SplitLemmas.{explained_is_yes, yes_is_explained}
use Rattle.session_audit.proofs.VerdictLemmas.{journal_has_one_verdict}
use Rattle.lab_cmd.specs.declared.status.Status.{Status}
use Rattle.lab_cmd.specs.Laws.{LabLaws}
use Rattle.lab_cmd.specs.Meanings.{outside}
use Rattle.lab_cmd.specs.Words.{IsWordsFault}
use Rattle.lab_cmd.proofs.DueLemmas.{IsDue-unique, IsWordsFault-unique}
use Rattle.lab_cmd.proofs.CompleteLemmas.{due_from_means}
use Rattle.lab_cmd.proofs.WordLemmas.{IsMode-words, IsWords-unique}
use Rattle.lab_cmd.proofs.program.lab.Goals as goal

-- the laws of every script
all_laws : LabLaws
all_laws =
    record {
      scripts = script_laws;
      streams = stream_laws;
      relayed = relay_laws;
      generated = generated_laws;
      journals = journal_laws;
      sound = yes_is_explained;
      complete = explained_is_yes;
      one = journal_has_one_verdict;
    }

pub returns-in-Err-clause-laws : goal.returns-in-Err-clause-laws
returns-in-Err-clause-laws g c = all_laws

pub returns-in-Ok-run_mode-clause-laws : goal.returns-in-Ok-run_mode-clause-laws
returns-in-Ok-run_mode-clause-laws g c = all_laws

pub returns-in-Err-run_mode-clause-laws : goal.returns-in-Err-run_mode-clause-laws
returns-in-Err-run_mode-clause-laws g c = all_laws

-- the words are no command line

pub returns-in-Err-clause-usage : goal.returns-in-Err-clause-usage
returns-in-Err-clause-usage g c k =
    let words = c.args.words.now in (
      λ is.
          let same : c.in-Err.k ≡ k = cc in
          subst (IsWordsFault words) same c.in-Err.ensures.fault,
      λ fault.
          ap Status.Usage (IsWordsFault-unique words c.in-Err.k k c.in-Err.ensures.fault fault),
    )

pub returns-in-Err-clause-complete : goal.returns-in-Err-clause-complete
returns-in-Err-clause-complete g c before due told is_due read written =
    inl (IsDue-unique c.args.words.now before.left (Status.Usage c.in-Err.k) due
    c.in-Err.ensures.fault is_due)

-- the words ask for a mode

pub run_mode-requires : goal.run_mode-requires
run_mode-requires g c = IsMode-words c.args.words.now c.in-Ok.mode c.in-Ok.ensures.mode

pub returns-in-Ok-run_mode-clause-means : goal.returns-in-Ok-run_mode-clause-means
returns-in-Ok-run_mode-clause-means g c mode worded =
    let same : c.in-Ok.mode ≡ mode =
    IsWords-unique c.args.words.now c.in-Ok.mode mode c.in-Ok.ensures.mode worded in
    rw same at c.in-Ok-run_mode.ensures.means

pub returns-in-Ok-run_mode-clause-complete : goal.returns-in-Ok-run_mode-clause-complete
returns-in-Ok-run_mode-clause-complete g c before due told is_due read written =
    let at = outside g.S.Source.input g.S.Source.faults g.K.Sink.output g.K.Sink.faults in
    due_from_means c.args.words.now c.in-Ok.mode Status.Ok due
    (c.run_mode.new.sink ≡ c.args.sink.now) (at c.args.source.now c.args.sink.now)
    (at c.run_mode.new.source c.run_mode.new.sink) before c.in-Ok.ensures.mode
    c.in-Ok-run_mode.ensures.means told is_due read written

pub returns-in-Err-run_mode-clause-means : goal.returns-in-Err-run_mode-clause-means
returns-in-Err-run_mode-clause-means g c mode worded =
    let same : c.in-Ok.mode ≡ mode =
    IsWords-unique c.args.words.now c.in-Ok.mode mode c.in-Ok.ensures.mode worded in
    rw same at c.in-Err-run_mode.ensures.means

pub returns-in-Err-run_mode-clause-complete : goal.returns-in-Err-run_mode-clause-complete
returns-in-Err-run_mode-clause-complete g c before due told is_due read written =
    due_from_means c.args.words.now c.in-Ok.mode c.in-Err-run_mode.status due _ _ _ before
    c.in-Ok.ensures.mode
    c.in-Err-run_mode.ensures.means told is_due read written
