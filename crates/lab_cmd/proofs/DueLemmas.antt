-- There is one status that the words and the bytes that are left call for.
use Rattle.std.proofs.Common.{◌≡◌, ℕ, ◌+◌, ◌<◌, ◌≤◌, ⊎_elim, zero, suc, Some, None, List, [], ◌∷◌, ◌++◌, length, take, refl, sym, ap, subst, ◌∙◌, append_assoc, arith}
use Rattle.std.proofs.Math.Seq.{take-nil}
use Rattle.agent_message.proofs.CaptureLaws.{one_reading}
use Rattle.lab_script.specs.Command.{IsCommand, IsScriptLine, spelling}
use Rattle.lab_script.specs.Lines.{lines_of}
use Rattle.lab_script.specs.RelayCommand.{IsRelayCommand, IsRelayLine, relay_spelling}
use Rattle.lab_script.specs.StreamCommand.{IsStreamCommand, IsStreamLine, stream_spelling}
use Rattle.lab_audit.specs.declared.fault.JournalFault.{JournalFault}
use Rattle.session_audit.proofs.VerdictLemmas.{journal_has_one_verdict}
use Rattle.lab_cmd.specs.declared.status.Status.{Status}
use Rattle.lab_cmd.specs.declared.words.Mode.{Mode}
use Rattle.lab_cmd.specs.declared.words.Task.{Task}
use Rattle.lab_cmd.specs.Meanings.{HasBadLine, IsDue, IsDueIn, IsDueInput, IsLine, Outputs, Reports}
use Rattle.lab_cmd.specs.Script.{IsFirstBad}
use Rattle.lab_cmd.specs.Words.{Begins, IsMode, IsWords, IsWordsFault}
use Rattle.lab_cmd.proofs.ScriptLemmas.{IsFirstBad-unique, not_both, says_command, says_relay_command, says_stream_command}
use Rattle.lab_cmd.proofs.WordLemmas.{IsMode-words, IsWords-unique}

-- fewer words begin more words
take_front : (n m : ℕ) (xs : List (List ℕ)) → n ≤ m
    → (ys : List (List ℕ)) × (take m xs ≡ take n xs ++ ys)
take_front zero m xs h = (take m xs, refl)
take_front (suc n) m [] h = ([], take-nil m)
take_front (suc n) zero (x ∷ xs) h = absurd (omega (arith, h))
take_front (suc n) (suc m) (x ∷ xs) h =
    let r = take_front n m xs (omega (arith, h)) in (r.0, ap (λ (t : List (List ℕ)). x ∷ t) r.1)

take_past : (n : ℕ) (xs : List (List ℕ)) → length xs ≤ n → take n xs ≡ xs
take_past n [] h = take-nil n
take_past zero (x ∷ xs) h = absurd (omega (arith, h))
take_past (suc n) (x ∷ xs) h = ap (λ (t : List (List ℕ)). x ∷ t) (take_past n xs (omega (arith, h)))

Begins-front : (n m : ℕ) (words : List (List ℕ)) → n ≤ m → Begins (take m words)
    → Begins (take n words)
Begins-front n m words h b =
    let r = take_front n m words h in (
      r.0 ++ b.0,
      b.1,
      subst (IsWords b.1) (ap (λ (t : List (List ℕ)). t ++ b.0) r.1
          ∙ append_assoc (take n words) r.0 b.0) b.2,
    )

-- a fault is not before another
earlier : (words : List (List ℕ)) (k m : ℕ) → IsWordsFault words k → IsWordsFault words m → k < m
    → ⊥
earlier words k m a b less =
    ⊎_elim
    (λ (all : k ≡ length words).
    ⊎_elim
    (λ (end : m ≡ length words). omega (arith, all, end, less))
    (λ (none : ¬ Begins (take (m + 1) words)).
    none (subst Begins (take_past m words (omega (arith, all, less))
    ∙ sym (take_past (m + 1) words (omega (arith, all, less)))) b.begin))
    b.stop)
    (λ (none : ¬ Begins (take (k + 1) words)). none
    (Begins-front (k + 1) m words (omega (arith, less)) b.begin))
    a.stop

-- words have one place at which they stop being a command line
pub IsWordsFault-unique : (words : List (List ℕ)) (k m : ℕ) → IsWordsFault words k
    → IsWordsFault words m → k ≡ m
IsWordsFault-unique words k m a b =
    let left : ¬ (k < m) = earlier words k m a b in
    let right : ¬ (m < k) = earlier words m k b a in
    omega (arith, left, right)

-- a fault of a journal is its place and its reason
same_fault : (a b : JournalFault) → a.at ≡ b.at → a.why ≡ b.why → a ≡ b
same_fault a b place reason = λ i. record { at = place i; why = reason i }

-- an input has one output, with one status
task_output : (task : Task) (window : ℕ) (input : List ℕ) (a b : Status) (s t : List ℕ)
    → 1 ≤ window
    → Outputs (Mode.Windowed task window) input a s
    → Outputs (Mode.Windowed task window) input b t
    → a ≡ b
task_output Task.Audit window input Status.Ok Status.Ok s t some x y = refl
task_output Task.Audit window input Status.Ok (Status.BadJournal fault) s t some x y =
    absurd
    (journal_has_one_verdict.refused window input fault.at fault.why x.0 some y.0 x.1)
task_output Task.Audit window input (Status.BadJournal fault) Status.Ok s t some x y =
    absurd
    (journal_has_one_verdict.refused window input fault.at fault.why y.0 some x.0 y.1)
task_output Task.Audit window input (Status.BadJournal fault) (Status.BadJournal other) s t some x y
    =
    let same = journal_has_one_verdict.same window input fault.at other.at fault.why other.why x.0 y.0
    in
    ap Status.BadJournal (same_fault fault other same.0 same.1)
task_output Task.Audit window input Status.Ok _ s t some x y = absurd y
task_output Task.Audit window input (Status.BadJournal fault) _ s t some x y = absurd y
task_output Task.Audit window input _ _ s t some x y = absurd x
task_output task window input Status.Ok Status.Ok s t some x y = refl
task_output task window input Status.Ok _ s t some x y = absurd y
task_output task window input _ _ s t some x y = absurd x

Outputs-unique : (mode : Mode) (input : List ℕ) (a b : Status) (s t : List ℕ)
    → IsMode mode → Outputs mode input a s → Outputs mode input b t → a ≡ b
Outputs-unique (Mode.Windowed task window) input a b s t fits x y =
    task_output task window input a b s t fits.0 x y
Outputs-unique Mode.Show input Status.Ok Status.Ok s t fits x y = refl
Outputs-unique Mode.Show input Status.Ok (Status.BadCapture fault) s t fits x y =
    let same = one_reading input x.0 y.0 None (Some fault) x.1 y.1 in absurd (cc (same.1))
Outputs-unique Mode.Show input (Status.BadCapture fault) Status.Ok s t fits x y =
    let same = one_reading input x.0 y.0 (Some fault) None x.1 y.1 in absurd (cc (same.1))
Outputs-unique Mode.Show input (Status.BadCapture fault) (Status.BadCapture other) s t fits x y =
    let same = one_reading input x.0 y.0 (Some fault) (Some other) x.1 y.1 in
    let faults : fault ≡ other = cc (same.1) in ap Status.BadCapture faults
Outputs-unique Mode.Show input Status.Ok _ s t fits x y = absurd y
Outputs-unique Mode.Show input (Status.BadCapture fault) _ s t fits x y = absurd y
Outputs-unique Mode.Show input _ _ s t fits x y = absurd x
Outputs-unique (Mode.Gen rounds start) input _ _ s t fits x y = absurd x

-- it has no line out of the grammar then
no_bad_script : (task : Task) (window : ℕ) (input : List ℕ) (n : ℕ) (text : List ℕ)
    → IsFirstBad (IsLine task) n (lines_of input) → Reports task window input text → ⊥
no_bad_script Task.Plain window input n text bad x =
    not_both spelling IsCommand IsScriptLine (λ command fits. says_command command fits)
    n x.0 input x.1 bad
no_bad_script Task.Streams window input n text bad x =
    not_both stream_spelling IsStreamCommand IsStreamLine
    (λ command fits. says_stream_command command fits)
    n x.0 input x.1 bad
no_bad_script Task.Relay window input n text bad x =
    not_both relay_spelling IsRelayCommand IsRelayLine
    (λ command fits. says_relay_command command fits)
    n x.0 input x.1 bad
no_bad_script Task.Journal window input n text bad x =
    not_both spelling IsCommand IsScriptLine (λ command fits. says_command command fits)
    n x.0 input x.1 bad
no_bad_script Task.Audit window input n text bad x = bad.out tt

no_bad_line : (mode : Mode) (input : List ℕ) (n : ℕ) (status : Status) (text : List ℕ)
    → HasBadLine mode n input → Outputs mode input status text → ⊥
no_bad_line (Mode.Windowed task window) input n Status.Ok text bad x =
    no_bad_script task window input n text bad x
no_bad_line (Mode.Windowed Task.Audit window) input n (Status.BadJournal fault) text bad x =
    bad.out tt
no_bad_line (Mode.Windowed Task.Audit window) input n _ text bad x = x
no_bad_line (Mode.Windowed Task.Plain window) input n _ text bad x = x
no_bad_line (Mode.Windowed Task.Streams window) input n _ text bad x = x
no_bad_line (Mode.Windowed Task.Relay window) input n _ text bad x = x
no_bad_line (Mode.Windowed Task.Journal window) input n _ text bad x = x
no_bad_line Mode.Show input n status text bad x = bad
no_bad_line (Mode.Gen rounds start) input n status text bad x = bad

-- there is one line that is the first out of the grammar
HasBadLine-unique : (mode : Mode) (input : List ℕ) (n m : ℕ)
    → HasBadLine mode n input → HasBadLine mode m input → n ≡ m
HasBadLine-unique (Mode.Windowed task window) input n m x y =
    IsFirstBad-unique (IsLine task) n m (lines_of input) x y
HasBadLine-unique Mode.Show input n m x y = absurd x
HasBadLine-unique (Mode.Gen rounds start) input n m x y = absurd x

-- a mode that reads an input and this input call for one status
pub IsDueInput-unique : (mode : Mode) (left : List ℕ) (a b : Status)
    → IsMode mode → IsDueInput mode left a → IsDueInput mode left b → a ≡ b
IsDueInput-unique mode left Status.TooLong Status.TooLong fits x y = refl
IsDueInput-unique mode left Status.TooLong _ fits x y = absurd (omega (arith, x, y.0))
IsDueInput-unique mode left (Status.Script n) (Status.Script m) fits x y =
    ap Status.Script (HasBadLine-unique mode left n m x.1 y.1)
IsDueInput-unique mode left (Status.Script n) Status.TooLong fits x y =
    absurd (omega (arith, x.0, y))
IsDueInput-unique mode left (Status.Script n) b fits x y =
    absurd (no_bad_line mode left n b y.1.0 x.1 y.1.1)
IsDueInput-unique mode left _ Status.TooLong fits x y = absurd (omega (arith, x.0, y))
IsDueInput-unique mode left a (Status.Script n) fits x y =
    absurd (no_bad_line mode left n a x.1.0 y.1 x.1.1)
IsDueInput-unique mode left a b fits x y =
    Outputs-unique mode left a b x.1.0 y.1.0 fits x.1.1 y.1.1

-- so do a mode and the bytes that are left
IsDueIn-unique : (mode : Mode) (left : List ℕ) (a b : Status)
    → IsMode mode → IsDueIn mode left a → IsDueIn mode left b → a ≡ b
IsDueIn-unique (Mode.Windowed task window) left a b fits x y =
    IsDueInput-unique (Mode.Windowed task window) left a b fits x y
IsDueIn-unique Mode.Show left a b fits x y = IsDueInput-unique Mode.Show left a b fits x y
IsDueIn-unique (Mode.Gen rounds start) left a b fits x y = x ∙ sym y

-- what words of this mode call for
pub IsDueIn-worded : (words : List (List ℕ)) (mode : Mode) (left : List ℕ) (due : Status)
    → IsWords mode words → IsDue words left due → IsDueIn mode left due
IsDueIn-worded words mode left (Status.Usage k) worded is = absurd (is.none mode worded)
IsDueIn-worded words mode left due worded is = moved due is.0 is.1 is.2
  where
    moved : (due : Status) (n : Mode) → IsWords n words → IsDueIn n left due
        → IsDueIn mode left due
    moved due n other is =
        subst (λ m. IsDueIn m left due) (IsWords-unique words n mode other worded) is

-- so do the words and the bytes
by_mode : (words : List (List ℕ)) (left : List ℕ) (a b : Status) (m n : Mode)
    → IsWords m words → IsWords n words → IsDueIn m left a → IsDueIn n left b → a ≡ b
by_mode words left a b m n first second x y =
    let P : Mode → Type 0 = λ mode. IsDueIn mode left a in
    IsDueIn-unique n left a b (IsMode-words words n second)
    (subst P (IsWords-unique words m n first second) x) y

pub IsDue-unique : (words : List (List ℕ)) (left : List ℕ) (a b : Status)
    → IsDue words left a → IsDue words left b → a ≡ b
IsDue-unique words left (Status.Usage k) (Status.Usage m) x y =
    ap Status.Usage (IsWordsFault-unique words k m x y)
IsDue-unique words left (Status.Usage k) _ x y = absurd (x.none y.0 y.1)
IsDue-unique words left _ (Status.Usage k) x y = absurd (y.none x.0 x.1)
IsDue-unique words left a b x y = by_mode words left a b x.0 y.0 x.1 y.1 x.2 y.2
