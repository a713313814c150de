use Rattle.std.proofs.Common.{◌≡◌, rules, codes, subst}
use Rattle.std.specs.Bool.{Decides}
use Rattle.program_words.proofs.AddressLemmas.{HasPort, either_host}
use Rattle.program_words.proofs.address.is_address.Goals as goal

pub returns : goal.returns
returns c =
    let text = c.args.text.now in
    let one : Decides c.has_port_behind-by_number.result (HasPort (codes "127.0.0.1:") text) =
    search rules in
    let two : Decides c.has_port_behind-by_name.result (HasPort (codes "localhost:") text) =
    search rules in
    either_host c.has_port_behind-by_number.result c.has_port_behind-by_name.result text one two
