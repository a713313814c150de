-- What holds of every script of every kind, and of every journal.
use Rattle.lab_gen.specs.Laws.{GeneratedLaws}
use Rattle.lab_journal.specs.Laws.{JournalLaws}
use Rattle.lab_relay.specs.Laws.{RelayLaws}
use Rattle.lab_run.specs.Laws.{ScriptLaws}
use Rattle.lab_streams.specs.Laws.{StreamLaws}
use Rattle.session_audit.specs.Verdict.{ExplainedIsYes, JournalHasOneVerdict, YesIsExplained}

-- the laws of the plain scripts, of those with streams or the relay, and of those that make themselves
pub record LabLaws : Type 0 where
  pub scripts : ScriptLaws
  pub streams : StreamLaws
  pub relayed : RelayLaws
  pub generated : GeneratedLaws
  -- the journal that a script writes is that of its world, and the verdict on it is Yes
  pub journals : JournalLaws
  -- a journal with the verdict Yes is one that a legal and honest world has; one that such a world has
  -- gets that verdict, unless its form has a fault; and a journal has one verdict
  pub sound : YesIsExplained
  pub complete : ExplainedIsYes
  pub one : JournalHasOneVerdict
