use Rattle.std.proofs.Common.{◌≡◌, All, IsUtf8, map, take}
use Rattle.serde_json.specs.Data.{string}
use Rattle.serde_json.specs.View.{view}
use Rattle.json_members.proofs.writing.texts_array.Given as goal

abbrev pub invariant-loop-text : goal.invariant-loop-text
invariant-loop-text l = record {
  made : map view l.list.items ≡ map string (take l.text-index l.texts);
  utf8 : All IsUtf8 (take l.text-index l.texts);
}
