-- What clap sees of an option that has to be there.
use Rattle.std.proofs.Common.{◌≡◌, true, false, ap, ◌∙◌}
use Rattle.clap.specs.Words.{Rule, rule_of}
use Rattle.clap.specs.declared.builder.arg.Arg.{Arg}

pub required_is : (a b : Arg) (r : Rule) → b ≡ record a { required = true } → rule_of a ≡ r
    → rule_of b ≡ record r { required = true }
required_is a b r e f = ap rule_of e ∙ ap (λ (x : Rule). record x { required = true }) f

pub required_local : (a b : Arg) → b ≡ record a { required = true } → a.global ≡ false
    → b.global ≡ false
required_local a b e f = ap (λ (x : Arg). x.global) e ∙ f
