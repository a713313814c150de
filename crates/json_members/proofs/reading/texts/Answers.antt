use Rattle.std.proofs.Common.{◌≡◌, inl, map, take, drop, ◌+◌, refl, sym, string_bytes}
use Rattle.serde_json.specs.Find.{as_str}
use Rattle.serde_json.specs.View.{view}
use Rattle.json_members.proofs.ListLemmas.{each_as-none, each_as-push, map_split, map_taken}
use Rattle.json_members.proofs.reading.texts.Goals as goal

pub returns-in_default : goal.returns-in_default
returns-in_default c =
    let list = c.in_ok-list.list.now in
    let i = c.loop-value.value-index in
    let split = map_split view list i c.value-item.result c.loop-value-test.true c.value-item.is in
    let none = each_as-none as_str (map view (take i list)) (map view (drop (i + 1) list)) (view c.value-item.result) (sym c.in_default.ensures) in
    inl (rw (c.in_ok-list.ensures, split, none) refl)

pub loop-value-preserved : goal.loop-value-preserved
loop-value-preserved c =
    let list = c.in_ok-list.list.now in
    let i = c.loop-value.value-index in
    let taken = map_taken view list i c.value-item.result c.loop-value-test.true c.value-item.is in
    let text : string_bytes c.in_ok-from_str.field-0 ≡ c.in-Some.text.now = c.in_ok-from_str.ensures.ok in
    let pushed = each_as-push as_str (map view (take i list)) c.loop-value.texts.items (view c.value-item.result) c.in-Some.text.now c.loop-value.invariant (sym c.in-Some.ensures) in
    rw (taken, c.in_ok-push.ensures.items, c.new.ensures, text) pushed
