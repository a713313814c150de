use Rattle.lab_streams.proofs.streams.Streams.new.Goals as goal

pub returns : goal.returns
returns c = record { pair = c.in_ok-new.ensures; link = c.new-2.ensures }
