use Rattle.session_register.proofs.OldRowLemmas.{chains-go-on, row_of-upgraded}
use Rattle.session_register.proofs.laws.chains_go_on.Goals as goal

pub returns-clause-go_on : goal.returns-clause-go_on
returns-clause-go_on c = chains-go-on

pub returns-clause-literal : goal.returns-clause-literal
returns-clause-literal c = row_of-upgraded
