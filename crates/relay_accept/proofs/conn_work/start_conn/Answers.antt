use denote.Param.Send.{sendable}
use Rattle.relay_accept.proofs.Crossing.{ConnDone-send, ConnStart-send, Desk-send}
use Rattle.relay_accept.proofs.EndLemmas.{started_with}
use Rattle.relay_accept.proofs.conn_work.start_conn.Goals as goal

pub start_call-requires-send-T : goal.start_call-requires-send-T
start_call-requires-send-T g c κs within =
    search (sendable, ConnDone-send, Desk-send) depth 30

pub start_call-requires-send-F : goal.start_call-requires-send-F
start_call-requires-send-F g c κs within =
    search (sendable, ConnStart-send, Desk-send) depth 30

pub returns-clause-started : goal.returns-clause-started
returns-clause-started g c = started_with _ _ _ c.of.result c.of.ensures c.start_call.ensures.started
