-- The verbs have different words, and no word has a space.
use Rattle.std.proofs.Common.{◌≡◌, Bool, true, false, cond, List, ℕ, refl, sym, ap, ◌∙◌}
use Rattle.std.specs.Prelude.{codes}
use Rattle.std.specs.Str.{bytes_eq}
use Rattle.lab_script.specs.declared.command.Action.{Action}
use Rattle.lab_script.specs.declared.verb.Verb.{Verb}
use Rattle.lab_script.specs.declared.verb.Verb.TheVariants as verbs
use Rattle.lab_script.specs.Command.{verb_of}
use Rattle.lab_script.specs.Verb.{verb_text}
use Rattle.lab_script.proofs.WordLists.{IsWord, IsWord-from_test}

pub IsWord-verb_text : (verb : Verb) → IsWord (verb_text verb)
IsWord-verb_text verbs.At = IsWord-from_test (codes "at") refl
IsWord-verb_text verbs.Put = IsWord-from_test (codes "put") refl
IsWord-verb_text verbs.Last = IsWord-from_test (codes "last") refl
IsWord-verb_text verbs.Pull = IsWord-from_test (codes "pull") refl
IsWord-verb_text verbs.Tick = IsWord-from_test (codes "tick") refl
IsWord-verb_text verbs.Close = IsWord-from_test (codes "close") refl
IsWord-verb_text verbs.Hear = IsWord-from_test (codes "hear") refl
IsWord-verb_text verbs.Hurt = IsWord-from_test (codes "hurt") refl
IsWord-verb_text verbs.Lost = IsWord-from_test (codes "lost") refl
IsWord-verb_text verbs.Open = IsWord-from_test (codes "open") refl
IsWord-verb_text verbs.Pause = IsWord-from_test (codes "pause") refl
IsWord-verb_text verbs.Start = IsWord-from_test (codes "start") refl
IsWord-verb_text verbs.End = IsWord-from_test (codes "end") refl
IsWord-verb_text verbs.Settle = IsWord-from_test (codes "settle") refl
IsWord-verb_text verbs.StreamOpen = IsWord-from_test (codes "sopen") refl
IsWord-verb_text verbs.StreamWrite = IsWord-from_test (codes "swrite") refl
IsWord-verb_text verbs.StreamClose = IsWord-from_test (codes "sclose") refl
IsWord-verb_text verbs.StreamPush = IsWord-from_test (codes "spush") refl
IsWord-verb_text verbs.StreamTake = IsWord-from_test (codes "stake") refl
IsWord-verb_text verbs.StreamEvent = IsWord-from_test (codes "stream") refl
IsWord-verb_text verbs.Dial = IsWord-from_test (codes "dial") refl
IsWord-verb_text verbs.Gone = IsWord-from_test (codes "gone") refl
IsWord-verb_text verbs.Post = IsWord-from_test (codes "post") refl
IsWord-verb_text verbs.Take = IsWord-from_test (codes "take") refl
IsWord-verb_text verbs.Finish = IsWord-from_test (codes "finish") refl

-- the verb of a word; any verb for a word of none
verb_from : List ℕ → Verb
verb_from word =
    cond (bytes_eq word (codes "at")) verbs.At (
    cond (bytes_eq word (codes "put")) verbs.Put (
    cond (bytes_eq word (codes "last")) verbs.Last (
    cond (bytes_eq word (codes "pull")) verbs.Pull (
    cond (bytes_eq word (codes "tick")) verbs.Tick (
    cond (bytes_eq word (codes "close")) verbs.Close (
    cond (bytes_eq word (codes "hear")) verbs.Hear (
    cond (bytes_eq word (codes "hurt")) verbs.Hurt (
    cond (bytes_eq word (codes "lost")) verbs.Lost (
    cond (bytes_eq word (codes "open")) verbs.Open (
    cond (bytes_eq word (codes "pause")) verbs.Pause (
    cond (bytes_eq word (codes "start")) verbs.Start (
    cond (bytes_eq word (codes "end")) verbs.End (
    cond (bytes_eq word (codes "settle")) verbs.Settle (
    cond (bytes_eq word (codes "sopen")) verbs.StreamOpen (
    cond (bytes_eq word (codes "swrite")) verbs.StreamWrite (
    cond (bytes_eq word (codes "sclose")) verbs.StreamClose (
    cond (bytes_eq word (codes "spush")) verbs.StreamPush (
    cond (bytes_eq word (codes "stake")) verbs.StreamTake (
    cond (bytes_eq word (codes "stream")) verbs.StreamEvent (
    cond (bytes_eq word (codes "dial")) verbs.Dial (
    cond (bytes_eq word (codes "gone")) verbs.Gone (
    cond (bytes_eq word (codes "post")) verbs.Post (
    cond (bytes_eq word (codes "take")) verbs.Take (
    verbs.Finish))))))))))))))))))))))))

verb_from-verb_text : (verb : Verb) → verb_from (verb_text verb) ≡ verb
unfolding verb_from
verb_from-verb_text verbs.At = refl
verb_from-verb_text verbs.Put = refl
verb_from-verb_text verbs.Last = refl
verb_from-verb_text verbs.Pull = refl
verb_from-verb_text verbs.Tick = refl
verb_from-verb_text verbs.Close = refl
verb_from-verb_text verbs.Hear = refl
verb_from-verb_text verbs.Hurt = refl
verb_from-verb_text verbs.Lost = refl
verb_from-verb_text verbs.Open = refl
verb_from-verb_text verbs.Pause = refl
verb_from-verb_text verbs.Start = refl
verb_from-verb_text verbs.End = refl
verb_from-verb_text verbs.Settle = refl
verb_from-verb_text verbs.StreamOpen = refl
verb_from-verb_text verbs.StreamWrite = refl
verb_from-verb_text verbs.StreamClose = refl
verb_from-verb_text verbs.StreamPush = refl
verb_from-verb_text verbs.StreamTake = refl
verb_from-verb_text verbs.StreamEvent = refl
verb_from-verb_text verbs.Dial = refl
verb_from-verb_text verbs.Gone = refl
verb_from-verb_text verbs.Post = refl
verb_from-verb_text verbs.Take = refl
verb_from-verb_text verbs.Finish = refl

pub same_verb : (a b : Verb) → verb_text a ≡ verb_text b → a ≡ b
same_verb a b e = sym (verb_from-verb_text a) ∙ ap verb_from e ∙ verb_from-verb_text b

-- whether a line of the plain script begins with this verb
abbrev pub of_plain : Verb → Bool
of_plain verbs.StreamOpen = false
of_plain verbs.StreamWrite = false
of_plain verbs.StreamClose = false
of_plain verbs.StreamPush = false
of_plain verbs.StreamTake = false
of_plain verbs.StreamEvent = false
of_plain verbs.Dial = false
of_plain verbs.Gone = false
of_plain verbs.Post = false
of_plain verbs.Take = false
of_plain verbs.Finish = false
of_plain _ = true

pub of_plain-verb_of : (action : Action) → of_plain (verb_of action) ≡ true
of_plain-verb_of (Action.Put item) = refl
of_plain-verb_of (Action.PutLast item) = refl
of_plain-verb_of _ = refl

-- whether a line with this verb names one end
abbrev pub of_one_end : Verb → Bool
of_one_end verbs.At = false
of_one_end verbs.Settle = false
of_one_end verbs.StreamOpen = false
of_one_end verbs.Finish = false
of_one_end _ = true

-- so does a line with the verb of an action
pub of_one_end-verb_of : (action : Action) → of_one_end (verb_of action) ≡ true
of_one_end-verb_of (Action.Put item) = refl
of_one_end-verb_of (Action.PutLast item) = refl
of_one_end-verb_of _ = refl
