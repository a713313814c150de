use Rattle.shell_session.proofs.shell_plugin.ShellPluginSession.take.Goals as goal

pub answer-answer-requires : goal.answer-answer-requires
answer-answer-requires g c = c.requires
