use Rattle.std.proofs.Common.{refl}
use Rattle.chan_values.specs.declared.side.Side.TheVariants.{Plugin, Agent}
use Rattle.lab_streams.proofs.PushLemmas.{put_at}
use Rattle.lab_streams.proofs.streams.Streams.put_item.Goals as goal

pub returns-in-Plugin-clause-told : goal.returns-in-Plugin-clause-told
returns-in-Plugin-clause-told c w past is =
    rw c.in-Plugin.is
    (put_at w past c.args.context.now.moment c.args.context.now.line Plugin c.args.item
    c.args.self.now
    (record c.args.self.now {
      pair = record c.args.self.now.pair {
        plugin = record c.args.self.now.pair.plugin { end = c.put.new.end };
      };
    })
    c.put.result is (c.put.ensures Plugin _) refl refl refl refl).told

pub returns-in-Plugin-clause-made : goal.returns-in-Plugin-clause-made
returns-in-Plugin-clause-made c w past is =
    rw c.in-Plugin.is
    (put_at w past c.args.context.now.moment c.args.context.now.line Plugin c.args.item
    c.args.self.now _ c.put.result is (c.put.ensures Plugin _) refl refl refl refl).made

pub returns-in-Agent-clause-told : goal.returns-in-Agent-clause-told
returns-in-Agent-clause-told c w past is =
    rw c.in-Agent.is
    (put_at w past c.args.context.now.moment c.args.context.now.line Agent c.args.item
    c.args.self.now
    (record c.args.self.now {
      pair = record c.args.self.now.pair {
        agent = record c.args.self.now.pair.agent { end = c.put-in-Agent.new.end };
      };
    })
    c.put-in-Agent.result is (c.put-in-Agent.ensures Agent _) refl refl refl refl).told

pub returns-in-Agent-clause-made : goal.returns-in-Agent-clause-made
returns-in-Agent-clause-made c w past is =
    rw c.in-Agent.is
    (put_at w past c.args.context.now.moment c.args.context.now.line Agent c.args.item
    c.args.self.now _ c.put-in-Agent.result is (c.put-in-Agent.ensures Agent _) refl refl refl
    refl).made
