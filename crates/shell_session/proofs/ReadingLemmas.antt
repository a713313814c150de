-- What a feeder's source gave, by one read more.
use Rattle.std.proofs.Common.{◌≡◌, ◌<◌, ◌^◌, ℕ, Option, Some, None, IfSome, List, [], ◌∷◌, ◌++◌, length, take, drop, sym, refl, ap, ◌∙◌, subst, append_assoc, append-nil, arith}
use Rattle.std.proofs.lemmas.List.{drop_all}
use Rattle.std.proofs.Math.Seq.{take-length}
use Rattle.std.proofs.lemmas.List.Concat.{flat_map-append}
use Rattle.std.proofs.lemmas.List.Elements.{All-nil, All-push}
use Rattle.std.proofs.lemmas.Option.{none-some}
use Rattle.chan_io.specs.Sources.{Input, Reads, Skips}
use Rattle.chan_values.specs.declared.item.Item.{Item}
use Rattle.session_feeds.specs.declared.feeder.Came.{Came}
use Rattle.shell_session.specs.Readings.{Gave, IsReading, Reading, new_reading, payloads}

gave-none : (input : Option Input) → Gave [] input input
gave-none None = refl
gave-none (Some i) = (
  i.left,
  ap (λ l. Some (let j : Input = record i { given = l } in j))
      (sym (append-nil i.given)),
)

gave-more : (bytes buffer : List ℕ) (count : ℕ) (first now after : Option Input)
    → Gave bytes first now
    → Reads count buffer now after
    → Gave (bytes ++ take count buffer) first after
gave-more bytes buffer count None now after gave reads =
    subst (λ o. Reads count buffer o after) gave reads
gave-more bytes buffer count (Some first) now after gave reads =
    let r = subst (λ o. Reads count buffer o after) gave.1 reads in (
      drop count gave.0,
      r.2 ∙ ap (λ l. Some (let i : Input = record { given = l; left = drop count gave.0 } in i))
          (append_assoc first.given bytes (take count buffer)),
    )

gave-skip : (bytes : List ℕ) (first now after : Option Input)
    → Gave bytes first now
    → Skips now after
    → Gave bytes first after
gave-skip bytes None now after gave skips = subst (λ o. Skips o after) gave skips
gave-skip bytes (Some first) now after gave skips =
    let s = subst (λ o. Skips o after) gave.1 skips in (drop s.0 gave.0, s.1)

left-none : (buffer : List ℕ) (now after : Option Input)
    → Reads 0 buffer now after
    → IfSome after (λ input. input.left ≡ [])
left-none buffer None after reads =
    subst (λ o. IfSome o (λ (input : Input). input.left ≡ [])) (sym reads) tt
left-none buffer (Some now) after reads =
    subst (λ o. IfSome o (λ (input : Input). input.left ≡ [])) (sym reads.2) (reads.1 refl)

-- a new one
pub new_reads : (ptype : ℕ) (input : Option Input) (faults : ℕ)
    → ptype < 2 ^ 32
    → IsReading (new_reading ptype input faults)
new_reads ptype input faults short = record {
  short = short;
  typed = All-nil (λ (item : Item). item.ptype ≡ ptype);
  gave = gave-none input;
  ended = λ over. absurd (none-some Came.Over over);
}

-- it gives a piece
pub piece_reads : (r : Reading) (item : Item) (buffer : List ℕ) (count : ℕ) (after : Option Input)
    (faults : ℕ)
    → IsReading r
    → r.came ≡ None
    → Reads count buffer r.now after
    → item.payload ≡ take count buffer
    → item.ptype ≡ r.ptype
    → IsReading (record r { now = after; pieces = r.pieces ++ item ∷ []; faults = faults })
piece_reads r item buffer count after faults is on reads bytes type = record {
  short = is.short;
  typed = All-push (λ (i : Item). i.ptype ≡ r.ptype) r.pieces item is.typed type;
  gave =
      subst (λ l. Gave l r.first after)
      (sym (flat_map-append (λ (i : Item). i.payload) r.pieces (item ∷ [])
      ∙ ap (λ l. payloads r.pieces ++ l) (append-nil item.payload ∙ bytes)))
      (gave-more (payloads r.pieces) buffer count r.first r.now after is.gave reads);
  ended = λ over. absurd (none-some Came.Over (sym on ∙ over));
}

-- it gave all
pub over_reads : (r : Reading) (buffer : List ℕ) (after : Option Input) (faults : ℕ)
    → IsReading r
    → Reads 0 buffer r.now after
    → IsReading (record r { now = after; came = Some Came.Over; faults = faults })
over_reads r buffer after faults is reads = record {
  short = is.short;
  typed = is.typed;
  gave =
      subst (λ l. Gave l r.first after) (append-nil (payloads r.pieces))
      (gave-more (payloads r.pieces) buffer 0 r.first r.now after is.gave reads);
  ended = λ over. left-none buffer r.now after reads;
}

-- a read failed
pub failed_reads : (r : Reading) (after : Option Input) (faults : ℕ)
    → IsReading r
    → Skips r.now after
    → IsReading (record r { now = after; came = Some Came.Failed; faults = faults })
failed_reads r after faults is skips = record {
  short = is.short;
  typed = is.typed;
  gave = gave-skip (payloads r.pieces) r.first r.now after is.gave skips;
  ended = λ over. absurd (grind arith);
}

-- a buffer that a read filled is what stood in it
pub buffer_read : (len count : ℕ) (into items : List ℕ)
    → length into ≡ len
    → length items ≡ len
    → take count (take len (into ++ drop (length into) items)) ≡ take count into
buffer_read len count into items is all =
    let none : drop (length into) items ≡ [] = drop_all (length into) items (omega arith) in
    ap (λ l. take count (take len (into ++ l))) none
    ∙ ap (λ l. take count (take len l)) (append-nil into)
    ∙ ap (λ n. take count (take n into)) (sym is)
    ∙ ap (λ l. take count l) (take-length into)
