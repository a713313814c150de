use Rattle.std.proofs.Common.{ℕ, List, [], ◌∷◌, length, sym, refl, ap, ◌∙◌, subst}
use Rattle.std.proofs.lemmas.List.{map-append}
use Rattle.chan_io.specs.Sources.{Reads}
use Rattle.chan_values.specs.declared.item.Item.{Item}
use Rattle.shell_session.specs.Readings.{Reading}
use Rattle.shell_session.proofs.ReadingLemmas.{buffer_read, failed_reads, over_reads, piece_reads}
use Rattle.shell_session.proofs.stream_feeder.StreamFeederFeeder.next.Goals as goal

pub invariant_of-self : goal.invariant_of-self
invariant_of-self g c =
    over_reads _ c.read.new.into (g.S.Source.input c.read.new.self)
    (g.S.Source.faults c.read.new.self) c.self.invariant
    (subst (λ n. Reads n c.read.new.into (g.S.Source.input c.self.inside.source)
    (g.S.Source.input c.read.new.self)) c.in-Ok-eq0.field-0-test c.in-Ok-eq0.ensures.reads)

pub invariant_of-self-in-Ok-read : goal.invariant_of-self-in-Ok-read
invariant_of-self-in-Ok-read g c =
    let item : Item = record { ptype = c.self.inside.ptype; payload = c.new.result } in
    let len_is = c.read.auto.into ∙ c.as_mut_slice.ensures.len in
    let items_are = ap (λ (l : List ℕ). length l) (sym c.as_mut_slice.ensures.value)
    ∙ c.as_mut_slice.ensures.len in
    let bytes = c.new.ensures ∙ (c.truncate.ensures.items
    ∙ buffer_read _ c.in-Ok-read.count c.read.new.into c.in-Ok.bytes.items len_is items_are) in
    let on = ap (λ (r : Reading). r.came) c.self.view_is ∙ c.requires in
    rw (
      c.and-self-inside.ensures,
      map-append (λ (p : Item × Unit {0}). p.0) c.self.inside.pieces.items ((item, tt) ∷ []),
    )
    (piece_reads _ item c.read.new.into c.in-Ok-read.count (g.S.Source.input c.read.new.self)
    (g.S.Source.faults c.read.new.self) c.self.invariant on c.in-Ok-read.ensures.reads bytes refl)

pub invariant_of-self-in-Err-read : goal.invariant_of-self-in-Err-read
invariant_of-self-in-Err-read g c =
    failed_reads _ (g.S.Source.input c.read.new.self)
    (g.S.Source.faults c.read.new.self) c.self.invariant c.in-Err.ensures.skips
