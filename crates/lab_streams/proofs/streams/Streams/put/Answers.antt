use Rattle.lab_streams.proofs.streams.Streams.put.Goals as goal

pub returns-clause-printed : goal.returns-clause-printed
returns-clause-printed g c w past is =
    rw (← c.put_item-outcome.ensures.told w past is) c.line.ensures
