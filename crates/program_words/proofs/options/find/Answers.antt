use Rattle.std.proofs.Common.{◌≢◌, rules, map}
use Rattle.clap.specs.Words.{app_of, fault_of, kind_of}
use Rattle.clap.specs.declared.error.kind.ErrorKind.TheVariants as kind
use Rattle.program_words.proofs.KindLemmas.{refused}
use Rattle.program_words.proofs.options.find.Goals as goal

pub returns-then-use_stderr-clause-fault : goal.returns-then-use_stderr-clause-fault
returns-then-use_stderr-clause-fault c =
    let k = kind_of c.in-Err.error in
    let kinds = fault_of (app_of c.args.command) (map (λ s. s.now) c.args.words.now) in
    let other : k ≢ kind.OutOfMemory = search rules in
    let both : (k ≢ kind.DisplayHelp) × (k ≢ kind.DisplayVersion) = search rules in
    refused k kinds (c.requires.one _) other (c.in-Err.ensures.kinds c.requires.free) both
