use Rattle.session_feeds.proofs.LawLemmas as lemmas
use Rattle.session_feeds.proofs.laws.puts_are_given.Goals as goal

pub returns : goal.returns
returns c = lemmas.puts_are_given
