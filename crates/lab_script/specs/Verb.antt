-- The words of the verbs.
use Rattle.std.specs.Prelude.{ℕ, List, codes}
use Rattle.lab_script.specs.declared.verb.Verb.{Verb}
use Rattle.lab_script.specs.declared.verb.Verb.TheVariants.{At, Put, Last, Pull, Tick, Close, Hear, Hurt, Lost, Open, Pause, Start, End, Settle, StreamOpen, StreamWrite, StreamClose, StreamPush, StreamTake, StreamEvent, Dial, Gone, Post, Take, Finish}

-- the first word of a script's line with this verb, or the second of a report's
abbrev pub verb_text : Verb → List ℕ
verb_text At = codes "at"
verb_text Put = codes "put"
verb_text Last = codes "last"
verb_text Pull = codes "pull"
verb_text Tick = codes "tick"
verb_text Close = codes "close"
verb_text Hear = codes "hear"
verb_text Hurt = codes "hurt"
verb_text Lost = codes "lost"
verb_text Open = codes "open"
verb_text Pause = codes "pause"
verb_text Start = codes "start"
verb_text End = codes "end"
verb_text Settle = codes "settle"
verb_text StreamOpen = codes "sopen"
verb_text StreamWrite = codes "swrite"
verb_text StreamClose = codes "sclose"
verb_text StreamPush = codes "spush"
verb_text StreamTake = codes "stake"
verb_text StreamEvent = codes "stream"
verb_text Dial = codes "dial"
verb_text Gone = codes "gone"
verb_text Post = codes "post"
verb_text Take = codes "take"
verb_text Finish = codes "finish"
