use Rattle.std.proofs.Common.{◌≡◌, ℕ, ◌+◌, List, ◌++◌, take, sym, ap, ◌∙◌, append-nil, append_assoc}
use Rattle.lab_streams.specs.declared.carrier.Carrier.{Carrier}
use Rattle.lab_streams.specs.Steps.{bytes_in, bytes_of}
use Rattle.lab_streams.proofs.EndLemmas.{bytes_of-none, bytes_of-push}
use Rattle.lab_streams.proofs.carrier.Carrier.keep.Goals as goal

pub loop-item-init : goal.loop-item-init
loop-item-init c =
    let carrier = c.args.self.now in
    ap (λ (l : List ℕ). let x : Carrier = record carrier { left = l } in x)
    (sym (append-nil carrier.left) ∙ ap (λ (l : List ℕ). carrier.left ++ l) (sym bytes_of-none))

pub loop-item-preserved : goal.loop-item-preserved
loop-item-preserved c =
    let old = c.args.self.now in
    let items = c.args.items.now in
    let i = c.loop-item.item-index in
    let before = c.loop-item.invariant in
    let more = bytes_of-push items i c.item-item.result c.loop-item-test.true c.item-item.is in
    let left : c.append.new.self ≡ old.left ++ bytes_of (take (i + 1) items) =
    c.in_ok-append.ensures
    ∙ ap (λ (l : List ℕ). c.loop-item.self.left ++ l) c.bytes_in.ensures
    ∙ ap (λ (k : Carrier). k.left ++ bytes_in c.item-item.result) before
    ∙ append_assoc old.left (bytes_of (take i items)) (bytes_in c.item-item.result)
    ∙ ap (λ (l : List ℕ). old.left ++ l) (sym more) in
    ap (λ (l : List ℕ). let x : Carrier = record c.loop-item.self { left = l } in x) left
    ∙ ap (λ (k : Carrier). let x : Carrier =
    record k { left = old.left ++ bytes_of (take (i + 1) items) } in x) before
