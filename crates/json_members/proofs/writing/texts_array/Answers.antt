use Rattle.std.proofs.Common.{IsUtf8}
use Rattle.serde_json.specs.Data.{string}
use Rattle.json_members.proofs.ArrayLemmas.{all_of_them, made_in_list, one_more, view-made}
use Rattle.json_members.proofs.writing.texts_array.Goals as goal

pub loop-text-preserved : goal.loop-text-preserved
loop-text-preserved c =
    let texts = c.args.texts.now in
    let i = c.loop-text.text-index in
    let text = c.text-item.result in
    let made = made_in_list string texts i text c.loop-text-test.true c.text-item.is
    c.loop-text.list.items c.in_ok-text_value.field-0 c.loop-text.invariant.made c.in_ok-text_value.ensures.value in
    record {
      made = rw c.in_ok-push.ensures.items made;
      utf8 = one_more string texts i text c.loop-text-test.true c.text-item.is
          IsUtf8 c.loop-text.invariant.utf8 c.in_ok-text_value.ensures.utf8;
    }

pub returns-clause-array : goal.returns-clause-array
returns-clause-array c =
    view-made string c.args.texts.now c.loop-text.text-index _ c.loop-text-test.false c.loop-text.invariant.made

pub returns-clause-utf8 : goal.returns-clause-utf8
returns-clause-utf8 c = all_of_them IsUtf8 c.args.texts.now c.loop-text.text-index c.loop-text-test.false c.loop-text.invariant.utf8
