use Rattle.std.proofs.Common.{sym, subst, Ok, Err}
use Rattle.session_feeds.specs.declared.session.SessionFault.{SessionFault}
use Rattle.session_run.specs.declared.parcel.Parcel.{Parcel}
use Rattle.shell_session.specs.PluginSteps.{Shows, Takes}
use Rattle.shell_session.proofs.PluginTakes.{takes_finished, takes_over, takes_shown, takes_stopped}
use Rattle.shell_session.proofs.shell_plugin.ShellPlugin.answer.Goals as goal

pub returns-then-not-show : goal.returns-then-not-show
returns-then-not-show g c =
    subst (λ (p : Parcel). Takes p c.args.self.now (Err SessionFault.Write) c.show.new.self)
    (sym c.in-Arrived.is)
    (takes_stopped c.in-Arrived.item c.args.self.now c.show.new.self c.requires.0 c.requires.1
    (subst (λ b. Shows c.in-Arrived.item c.args.self.now b c.show.new.self) c.if-not-show.true
    c.show.ensures))

pub returns-else-not-show : goal.returns-else-not-show
returns-else-not-show g c =
    subst (λ (p : Parcel). Takes p c.args.self.now (Ok c.nothing.result) c.show.new.self)
    (sym c.in-Arrived.is)
    (takes_shown c.in-Arrived.item c.args.self.now c.show.new.self c.nothing.result c.requires.0
    c.requires.1
    (subst (λ b. Shows c.in-Arrived.item c.args.self.now b c.show.new.self) c.if-not-show.false
    c.show.ensures)
    c.nothing.ensures)

pub returns-in-Finished : goal.returns-in-Finished
returns-in-Finished g c =
    subst (λ (p : Parcel). Takes p c.args.self.now
    (Ok c.nothing-in-Finished.result) c.args.self.now)
    (sym c.in-Finished.is)
    (takes_finished c.args.self.now c.nothing-in-Finished.result c.requires.0 c.requires.1
    c.nothing-in-Finished.ensures)

pub returns-in-Over : goal.returns-in-Over
returns-in-Over g c =
    subst (λ (p : Parcel). Takes p c.args.self.now c.flag.result c.flag.new.self) (sym c.in-Over.is)
    (takes_over c.args.self.now c.flag.new.self c.flag.result c.requires.0 c.requires.1
    c.flag.ensures)
