use Rattle.std.proofs.Common.{◌≡◌, ◌+◌, ◌<◌, false, refl, true}
use Rattle.receive_window.specs.declared.take.Take.TheVariants as Take
use Rattle.receive_window.specs.Window.{is_taken}
use Rattle.channel_core.proofs.HeardLemmas.{beyond_goes, late_goes, no_memory_goes, past_goes}
use Rattle.channel_core.proofs.PastHeardLemmas.{past_end-known}
use Rattle.channel_core.proofs.ReleaseLemmas.{beyond-late, finished-beyond, finished-late, finished-past, inside, no_memory-beyond, no_memory-late, no_memory-past, not_past, past-beyond, past-late, released-beyond, released-late, released-past, taken_goes, untaken}
use Rattle.channel_core.proofs.end.End.hear_stream.Goals as goal

pub returns-in-Released : goal.returns-in-Released
returns-in-Released c now w h legal s =
    let before = c.self.inside in
    let items = c.in-Released.items in
    let known = c.in-Released.ensures in
    let new : is_taken c.args.self.now.received c.args.seq ≡ false = rw (← c.self.view_is)
    (untaken (is_taken before.received c.args.seq) (Take.Released items)
    (released-late items) known.late.1) in
    let near : c.args.seq
    < c.args.self.now.received.expected + c.args.self.now.received.window
    = rw (← c.self.view_is)
    (inside c.args.seq (before.received.expected + before.received.window) (Take.Released items)
    (released-beyond items) known.beyond.1) in
    taken_goes w h now c.args.seq c.args.id c.args.item c.args.last items false c.take.new.self
    c.args.self.now _ legal s c.requires.open new near
    (not_past w h c.args.self.now c.args.seq c.args.last (Take.Released items) legal s new near
    (released-past items) (rw (← c.self.view_is) (λ m. (known.past_end m).1)))
    (rw (← c.self.view_is) known.taken)
    (rw (← c.self.view_is, c.note.ensures, c.self.invariant.1, ← c.self.invariant.0) refl)

pub returns-in-Finished : goal.returns-in-Finished
returns-in-Finished c now w h legal s =
    let before = c.self.inside in
    let items = c.in-Finished.items in
    let known = c.in-Finished.ensures in
    let new : is_taken c.args.self.now.received c.args.seq ≡ false = rw (← c.self.view_is)
    (untaken (is_taken before.received c.args.seq) (Take.Finished items)
    (finished-late items) known.late.1) in
    let near : c.args.seq
    < c.args.self.now.received.expected + c.args.self.now.received.window
    = rw (← c.self.view_is)
    (inside c.args.seq (before.received.expected + before.received.window) (Take.Finished items)
    (finished-beyond items) known.beyond.1) in
    taken_goes w h now c.args.seq c.args.id c.args.item c.args.last items true c.take.new.self
    c.args.self.now _ legal s c.requires.open new near
    (not_past w h c.args.self.now c.args.seq c.args.last (Take.Finished items) legal s new near
    (finished-past items) (rw (← c.self.view_is) (λ m. (known.past_end m).1)))
    (rw (← c.self.view_is) known.taken)
    (rw (← c.self.view_is, c.note-in-Finished.ensures, c.self.invariant.1, ← c.self.invariant.0) refl)

pub returns-in-Late : goal.returns-in-Late
returns-in-Late c now w h legal s =
    late_goes w h now c.args.seq c.args.id c.args.item c.args.last c.args.self.now _ legal s
    c.requires.open
    (rw (← c.self.view_is) (c.in-Late.ensures.late.0 refl))
    (rw (
      ← c.self.view_is,
      c.note-in-Late.ensures,
      c.in-Late.ensures.refused,
      c.self.invariant.1,
      ← c.self.invariant.0,
    ) refl)

pub returns-in-Beyond : goal.returns-in-Beyond
returns-in-Beyond c now w h legal s =
    let before = c.self.inside in
    let known = c.in-Beyond.ensures in
    beyond_goes w h now c.args.seq c.args.id c.args.item c.args.last c.args.self.now _ legal s
    c.requires.open
    (rw (← c.self.view_is)
    (untaken (is_taken before.received c.args.seq) Take.Beyond beyond-late known.late.1))
    (rw (← c.self.view_is) (known.beyond.0 refl))
    (rw (← c.self.view_is, known.refused) refl)

pub returns-in-PastEnd : goal.returns-in-PastEnd
returns-in-PastEnd c now w h legal s =
    let before = c.self.inside in
    let end = c.in-PastEnd.end in
    let known = c.in-PastEnd.ensures in
    let past = (known.past_end end).0 refl in
    let new : is_taken c.args.self.now.received c.args.seq ≡ false
    = rw (← c.self.view_is) past.0.0 in
    past_goes w h now c.args.seq end c.args.id c.args.item c.args.last c.args.self.now _ legal s
    c.requires.open new
    (rw (← c.self.view_is) past.0.1)
    ((past_end-known w h c.args.self.now c.args.seq legal s new c.args.last end).0
    (rw (← c.self.view_is) past.1))
    (rw (← c.self.view_is, known.refused) refl)

pub returns-in-NoMemory : goal.returns-in-NoMemory
returns-in-NoMemory c now w h legal s =
    let before = c.self.inside in
    let back = c.in-NoMemory.item in
    let known = c.in-NoMemory.ensures in
    let new : is_taken c.args.self.now.received c.args.seq ≡ false = rw (← c.self.view_is)
    (untaken (is_taken before.received c.args.seq) (Take.NoMemory back)
    (no_memory-late back) known.late.1) in
    let near : c.args.seq
    < c.args.self.now.received.expected + c.args.self.now.received.window
    = rw (← c.self.view_is)
    (inside c.args.seq (before.received.expected + before.received.window) (Take.NoMemory back)
    (no_memory-beyond back) known.beyond.1) in
    rw known.refused.0
    (no_memory_goes w h now c.args.seq c.args.id c.args.item c.args.last c.args.self.now _ legal s
    c.requires.open new near
    (not_past w h c.args.self.now c.args.seq c.args.last (Take.NoMemory back) legal s new near
    (no_memory-past back) (rw (← c.self.view_is) (λ m. (known.past_end m).1)))
    (rw (← c.self.view_is, known.refused.1) refl))
