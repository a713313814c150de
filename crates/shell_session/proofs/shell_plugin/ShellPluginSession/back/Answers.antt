use Rattle.std.proofs.Common.{◌≡◌, ◌++◌, ◌∷◌, [], Some, is_some, false, sym, ap, ◌∙◌, subst}
use Rattle.std.proofs.lemmas.Bool.{false≢true}
use Rattle.shell_session.specs.Plugins.{PluginStandsFor, ShellPluginState}
use Rattle.shell_session.specs.Readings.{told_by}
use Rattle.shell_session.proofs.PluginBack.{gone, input_back}
use Rattle.shell_session.proofs.shell_plugin.ShellPluginSession.back.Goals as goal

pub returns-clause-stands : goal.returns-clause-stands
returns-clause-stands g c =
    let s = c.args.self.now in
    let f = c.args.feeder in
    let reads = c.keep.ensures.reads in
    let begun : s.begun ≡ false → ⊥ = λ b.
    let i = c.self.invariant (ap (λ (t : ShellPluginState). t.begun) c.self.view_is ∙ b) in
    let none = ap (λ (t : ShellPluginState). t.input) c.self.view_is
    ∙ gone s f reads c.requires in
    false≢true (sym (ap (λ o. is_some o) none) ∙ i.1) in
    rw c.keep.ensures.kept
    (λ a stands.
    subst (λ (t : ShellPluginState). PluginStandsFor (record t { input = Some f })
    (record a { given = a.given ++ f.pieces; back = a.back ++ ((told_by f).mark, f.came) ∷ [] }))
    (sym c.self.view_is) (input_back s f reads c.requires begun a stands))
