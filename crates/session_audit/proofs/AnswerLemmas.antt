-- Bytes say one thing to an end: what it hears, or why it hears nothing.
use Rattle.std.proofs.Common.{◌≡◌, ◌⊎◌, inl, inr, ℕ, ◌<ℤ◌, pos, List, [], ◌∷◌, Ok, Err, Some, codes, sym, ap, subst, ◌∙◌, arith}
use Rattle.std.specs.Prelude.{ℤ, slice_get}
use Rattle.std.proofs.lemmas.Int.{ints}
use Rattle.serde_json.specs.Data.{Data}
use Rattle.chan_values.specs.declared.side.Side.{Side}
use Rattle.chan_values.specs.declared.side.Side.TheVariants.{Plugin, Agent}
use Rattle.chan_values.specs.Sides.{other}
use Rattle.agent_message.specs.Decoding.{Decodes}
use Rattle.agent_message.specs.declared.message.Message.{Message}
use Rattle.agent_message.specs.declared.refusal.Refusal.{Refusal}
use Rattle.agent_message.proofs.SoundSpelling.{one_answer}
use Rattle.json_bodies.specs.Reading.{Shows}
use Rattle.json_bodies.specs.Ack.{GivesAck, IsAckBody, ack_faults}
use Rattle.json_bodies.specs.declared.ack.Ack.{Ack}
use Rattle.json_bodies.specs.declared.channel_closed.ChannelClosed.{ChannelClosed}
use Rattle.json_bodies.specs.ChannelClosed.{GivesClosed, closed_faults}
use Rattle.json_bodies.proofs.AckLemmas.{ack_table}
use Rattle.json_bodies.proofs.ChannelClosedLemmas.{closed_table}
use Rattle.json_bodies.proofs.ReadingLemmas.{IsTable}
use Rattle.json_members.specs.Members.{object_of}
use Rattle.json_members.specs.declared.body_fault.BodyFault.{BodyFault}
use Rattle.channel_core.specs.Arrival.{Answer, Arrives, Hears, HearsAck, HearsClosing, HearsStream, IsHeardName}
use Rattle.channel_core.specs.declared.message.Incoming.TheVariants as Incoming
use Rattle.channel_core.specs.declared.wire.InRefusal.TheVariants as InRefusal
use Rattle.channel_core.specs.Wire.{data_name}

-- ---- bodies

-- a body shows one fault
one_shown : (faults : Data → List BodyFault) (bytes : List ℕ) (a b : BodyFault)
    → Shows faults bytes a → Shows faults bytes b → a ≡ b
one_shown faults bytes a b (inl x) (inl y) = cc (x, y)
one_shown faults bytes a b (inl x) (inr y) = let found = y.1 in absurd (cc (x, found))
one_shown faults bytes a b (inr x) (inl y) = let found = x.1 in absurd (cc (found, y))
one_shown faults bytes a b (inr x) (inr y) =
    let found = x.1 in
    let again = y.1 in
    let same : x.0 ≡ y.0 = cc (found, again) in
    let first : slice_get (faults y.0) 0 ≡ Some a =
    subst (λ (d : Data). slice_get (faults d) 0 ≡ Some a) same x.2 in
    let second = y.2 in
    cc (first, second)

-- none where it gives a value
none_shown : {T : Type 0} (Gives : Data → T → Type 0) (faults : Data → List BodyFault)
    → IsTable Gives faults
    → (bytes : List ℕ) (body : Data) (value : T) (fault : BodyFault)
    → object_of bytes ≡ Ok body
    → Gives body value
    → Shows faults bytes fault
    → ⊥
none_shown Gives faults table bytes body value fault found gives (inl x) = absurd (cc (found, x))
none_shown Gives faults table bytes body value fault found gives (inr x) =
    let again = x.1 in
    let same : x.0 ≡ body = cc (found, again) in
    let first : slice_get (faults body) 0 ≡ Some fault =
    subst (λ (d : Data). slice_get (faults d) 0 ≡ Some fault) same x.2 in
    let none = ap (λ (l : List BodyFault). slice_get l 0) (table.faultless body value gives) in
    absurd (cc (first, none))

-- a number is not negative
not_negative : (n : ℕ) (z : ℤ) → z ≡ pos n → z <ℤ pos 0 → ⊥
not_negative n z is negative = absurd (grind (arith, ints, is, negative))

-- ---- the kinds of messages

one_stream : (m : Message) (a b : Answer) → HearsStream m a → HearsStream m b → a ≡ b
one_stream m (Ok (Incoming.Stream n id item last)) (Ok (Incoming.Stream k jd more end)) x y =
    cc (x.0, x.1, x.2, x.3, y.0, y.1, y.2, y.3)
one_stream m (Ok (Incoming.Stream n id item last)) (Err (InRefusal.Negative z)) x y =
    absurd (not_negative n z (sym y.0 ∙ x.0) y.1)
one_stream m (Err (InRefusal.Negative z)) (Ok (Incoming.Stream n id item last)) x y =
    absurd (not_negative n z (sym x.0 ∙ y.0) x.1)
one_stream m (Err (InRefusal.Negative z)) (Err (InRefusal.Negative s)) x y =
    let first = x.0 in
    let second = y.0 in
    cc (first, second)
one_stream m (Ok (Incoming.Stream n id item last)) _ x y = absurd y
one_stream m (Err (InRefusal.Negative z)) _ x y = absurd y
one_stream m _ b x y = absurd x

-- a body gives one value
one_value : {T : Type 0} (Gives : Data → T → Type 0) (faults : Data → List BodyFault)
    → IsTable Gives faults
    → (bytes : List ℕ) (a b : T)
    → ((body : Data) × (object_of bytes ≡ Ok body) × Gives body a)
    → ((body : Data) × (object_of bytes ≡ Ok body) × Gives body b)
    → a ≡ b
one_value Gives faults table bytes a b x y =
    let found = x.1 in
    let again = y.1 in
    let same : x.0 ≡ y.0 = cc (found, again) in
    table.same y.0 a b (subst (λ (d : Data). Gives d a) same x.2) y.2

ack_number : (payload : List ℕ) (a b : Ack) → IsAckBody payload a → IsAckBody payload b
    → a.seq ≡ b.seq
ack_number payload a b x y =
    ap (λ (ack : Ack). ack.seq) (one_value GivesAck ack_faults ack_table payload a b x y)

one_ack : (payload : List ℕ) (a b : Answer) → HearsAck payload a → HearsAck payload b → a ≡ b
one_ack payload (Ok (Incoming.Ack n)) (Ok (Incoming.Ack k)) x y =
    let same = ack_number payload x.0 y.0 x.1 y.1 in
    cc (same, x.2, y.2)
one_ack payload (Ok (Incoming.Ack n)) (Err (InRefusal.Negative z)) x y =
    let same = ack_number payload x.0 y.0 x.1 y.1 in
    absurd (not_negative n z (sym y.2 ∙ sym same ∙ x.2) y.3)
one_ack payload (Ok (Incoming.Ack n)) (Err (InRefusal.Body fault)) x y =
    absurd (none_shown GivesAck ack_faults ack_table payload x.1.0 x.0 fault x.1.1 x.1.2 y)
one_ack payload (Err (InRefusal.Negative z)) (Ok (Incoming.Ack k)) x y =
    let same = ack_number payload x.0 y.0 x.1 y.1 in
    absurd (not_negative k z (sym x.2 ∙ same ∙ y.2) x.3)
one_ack payload (Err (InRefusal.Negative z)) (Err (InRefusal.Negative s)) x y =
    let same = ack_number payload x.0 y.0 x.1 y.1 in
    cc (same, x.2, y.2)
one_ack payload (Err (InRefusal.Negative z)) (Err (InRefusal.Body fault)) x y =
    absurd (none_shown GivesAck ack_faults ack_table payload x.1.0 x.0 fault x.1.1 x.1.2 y)
one_ack payload (Err (InRefusal.Body fault)) (Ok (Incoming.Ack k)) x y =
    absurd (none_shown GivesAck ack_faults ack_table payload y.1.0 y.0 fault y.1.1 y.1.2 x)
one_ack payload (Err (InRefusal.Body fault)) (Err (InRefusal.Negative s)) x y =
    absurd (none_shown GivesAck ack_faults ack_table payload y.1.0 y.0 fault y.1.1 y.1.2 x)
one_ack payload (Err (InRefusal.Body fault)) (Err (InRefusal.Body more)) x y =
    ap (λ (f : BodyFault). Err (InRefusal.Body f)) (one_shown ack_faults payload fault more x y)
one_ack payload (Ok (Incoming.Ack n)) _ x y = absurd y
one_ack payload (Err (InRefusal.Negative z)) _ x y = absurd y
one_ack payload (Err (InRefusal.Body fault)) _ x y = absurd y
one_ack payload _ b x y = absurd x

one_closing : (payload : List ℕ) (a b : Answer)
    → HearsClosing payload a → HearsClosing payload b → a ≡ b
one_closing payload (Ok (Incoming.Closing output)) (Ok (Incoming.Closing more)) x y =
    let same : x.0 ≡ y.0 =
    one_value GivesClosed closed_faults closed_table payload x.0 y.0 x.1 y.1 in
    let texts : output ≡ more =
    sym x.2 ∙ ap (λ (closed : ChannelClosed). closed.output) same ∙ y.2 in
    ap (λ (text : List ℕ). Ok (Incoming.Closing text)) texts
one_closing payload (Ok (Incoming.Closing output)) (Err (InRefusal.Body fault)) x y =
    absurd
    (none_shown GivesClosed closed_faults closed_table payload x.1.0 x.0 fault x.1.1 x.1.2 y)
one_closing payload (Err (InRefusal.Body fault)) (Ok (Incoming.Closing more)) x y =
    absurd
    (none_shown GivesClosed closed_faults closed_table payload y.1.0 y.0 fault y.1.1 y.1.2 x)
one_closing payload (Err (InRefusal.Body fault)) (Err (InRefusal.Body more)) x y =
    ap (λ (f : BodyFault). Err (InRefusal.Body f)) (one_shown closed_faults payload fault more x y)
one_closing payload (Ok (Incoming.Closing output)) _ x y = absurd y
one_closing payload (Err (InRefusal.Body fault)) _ x y = absurd y
one_closing payload _ b x y = absurd x

-- ---- messages

-- the first byte of a name
abbrev first_byte : List ℕ → ℕ
first_byte [] = 0
first_byte (byte ∷ rest) = byte

-- the names that an end listens to begin with different bytes
apart : (name a b : List ℕ) → name ≡ a → name ≡ b → (first_byte a ≡ first_byte b → ⊥) → ⊥
apart name a b x y differ = differ (ap first_byte (sym x ∙ y))

data_apart : (side : Side) (name b : List ℕ) → name ≡ data_name side → name ≡ b
    → (0x69 ≡ first_byte b → ⊥) → (0x6f ≡ first_byte b → ⊥) → ⊥
data_apart Plugin name b x y input output = apart name (data_name Plugin) b x y input
data_apart Agent name b x y input output = apart name (data_name Agent) b x y output

-- what a message is heard as, but for the alternatives before
abbrev IsWrong : Side → Message → Answer → Type 0
IsWrong side m answer = (¬ IsHeardName side m.name) × (answer ≡ Err (InRefusal.Wrong m.name))

abbrev FromClosing : Side → Message → Answer → Type 0
FromClosing side m answer =
    ((m.name ≡ codes "channel_closed") × HearsClosing m.payload answer) ⊎ IsWrong side m answer

abbrev FromStart : Side → Message → Answer → Type 0
FromStart side m answer =
    ((m.name ≡ codes "start_publication") × (answer ≡ Ok Incoming.Start)) ⊎ FromClosing side m answer

abbrev FromPause : Side → Message → Answer → Type 0
FromPause side m answer =
    ((m.name ≡ codes "pause_publication") × (answer ≡ Ok Incoming.Pause)) ⊎ FromStart side m answer

abbrev FromAck : Side → Message → Answer → Type 0
FromAck side m answer =
    ((m.name ≡ codes "acknowledge") × HearsAck m.payload answer) ⊎ FromPause side m answer

-- none of those behind has the name
no_closing : (side : Side) (m : Message) (answer : Answer)
    → m.name ≡ codes "channel_closed" → IsWrong side m answer → ⊥
no_closing side m answer named wrong = wrong.0 (inr (inr (inr (inr named))))

no_start : (side : Side) (m : Message) (answer : Answer)
    → m.name ≡ codes "start_publication" → FromClosing side m answer → ⊥
no_start side m answer named (inl it) =
    apart m.name _ _ named it.0 (λ (e : 0x73 ≡ 0x63). omega (arith, e))
no_start side m answer named (inr wrong) = wrong.0 (inr (inr (inr (inl named))))

no_pause : (side : Side) (m : Message) (answer : Answer)
    → m.name ≡ codes "pause_publication" → FromStart side m answer → ⊥
no_pause side m answer named (inl it) =
    apart m.name _ _ named it.0 (λ (e : 0x70 ≡ 0x73). omega (arith, e))
no_pause side m answer named (inr (inl it)) =
    apart m.name _ _ named it.0 (λ (e : 0x70 ≡ 0x63). omega (arith, e))
no_pause side m answer named (inr (inr wrong)) = wrong.0 (inr (inr (inl named)))

no_ack : (side : Side) (m : Message) (answer : Answer)
    → m.name ≡ codes "acknowledge" → FromPause side m answer → ⊥
no_ack side m answer named (inl it) =
    apart m.name _ _ named it.0 (λ (e : 0x61 ≡ 0x70). omega (arith, e))
no_ack side m answer named (inr (inl it)) =
    apart m.name _ _ named it.0 (λ (e : 0x61 ≡ 0x73). omega (arith, e))
no_ack side m answer named (inr (inr (inl it))) =
    apart m.name _ _ named it.0 (λ (e : 0x61 ≡ 0x63). omega (arith, e))
no_ack side m answer named (inr (inr (inr wrong))) = wrong.0 (inr (inl named))

no_data : (side : Side) (m : Message) (answer : Answer)
    → m.name ≡ data_name (other side) → FromAck side m answer → ⊥
no_data side m answer named (inl it) =
    data_apart (other side) m.name (codes "acknowledge") named it.0
    (λ (e : 0x69 ≡ 0x61). omega (arith, e)) (λ (e : 0x6f ≡ 0x61). omega (arith, e))
no_data side m answer named (inr (inl it)) =
    data_apart (other side) m.name (codes "pause_publication") named it.0
    (λ (e : 0x69 ≡ 0x70). omega (arith, e)) (λ (e : 0x6f ≡ 0x70). omega (arith, e))
no_data side m answer named (inr (inr (inl it))) =
    data_apart (other side) m.name (codes "start_publication") named it.0
    (λ (e : 0x69 ≡ 0x73). omega (arith, e)) (λ (e : 0x6f ≡ 0x73). omega (arith, e))
no_data side m answer named (inr (inr (inr (inl it)))) =
    data_apart (other side) m.name (codes "channel_closed") named it.0
    (λ (e : 0x69 ≡ 0x63). omega (arith, e)) (λ (e : 0x6f ≡ 0x63). omega (arith, e))
no_data side m answer named (inr (inr (inr (inr wrong)))) = wrong.0 (inl named)

-- so a message is heard as one thing
one_from_closing : (side : Side) (m : Message) (a b : Answer)
    → FromClosing side m a → FromClosing side m b → a ≡ b
one_from_closing side m a b (inl x) (inl y) = one_closing m.payload a b x.1 y.1
one_from_closing side m a b (inl x) (inr y) = absurd (no_closing side m b x.0 y)
one_from_closing side m a b (inr x) (inl y) = absurd (no_closing side m a y.0 x)
one_from_closing side m a b (inr x) (inr y) = x.1 ∙ sym y.1

one_from_start : (side : Side) (m : Message) (a b : Answer)
    → FromStart side m a → FromStart side m b → a ≡ b
one_from_start side m a b (inl x) (inl y) = x.1 ∙ sym y.1
one_from_start side m a b (inl x) (inr y) = absurd (no_start side m b x.0 y)
one_from_start side m a b (inr x) (inl y) = absurd (no_start side m a y.0 x)
one_from_start side m a b (inr x) (inr y) = one_from_closing side m a b x y

one_from_pause : (side : Side) (m : Message) (a b : Answer)
    → FromPause side m a → FromPause side m b → a ≡ b
one_from_pause side m a b (inl x) (inl y) = x.1 ∙ sym y.1
one_from_pause side m a b (inl x) (inr y) = absurd (no_pause side m b x.0 y)
one_from_pause side m a b (inr x) (inl y) = absurd (no_pause side m a y.0 x)
one_from_pause side m a b (inr x) (inr y) = one_from_start side m a b x y

one_from_ack : (side : Side) (m : Message) (a b : Answer)
    → FromAck side m a → FromAck side m b → a ≡ b
one_from_ack side m a b (inl x) (inl y) = one_ack m.payload a b x.1 y.1
one_from_ack side m a b (inl x) (inr y) = absurd (no_ack side m b x.0 y)
one_from_ack side m a b (inr x) (inl y) = absurd (no_ack side m a y.0 x)
one_from_ack side m a b (inr x) (inr y) = one_from_pause side m a b x y

Hears-one : (side : Side) (m : Message) (a b : Answer) → Hears side m a → Hears side m b → a ≡ b
Hears-one side m a b (inl x) (inl y) = one_stream m a b x.1 y.1
Hears-one side m a b (inl x) (inr y) = absurd (no_data side m b x.0 y)
Hears-one side m a b (inr x) (inl y) = absurd (no_data side m a y.0 x)
Hears-one side m a b (inr x) (inr y) = one_from_ack side m a b x y

-- and so are bytes
pub Arrives-one : (side : Side) (bytes : List ℕ) (a b : Answer)
    → Arrives side bytes a → Arrives side bytes b → a ≡ b
Arrives-one side bytes a b (inl x) (inl y) =
    let same = one_answer bytes (Ok x.0) (Ok y.0) x.1 y.1 in
    let messages : x.0 ≡ y.0 = cc same in
    Hears-one side y.0 a b (subst (λ (m : Message). Hears side m a) messages x.2) y.2
Arrives-one side bytes a b (inl x) (inr y) =
    let same = one_answer bytes (Ok x.0) (Err y.0) x.1 y.1 in absurd (cc same)
Arrives-one side bytes a b (inr x) (inl y) =
    let same = one_answer bytes (Err x.0) (Ok y.0) x.1 y.1 in absurd (cc same)
Arrives-one side bytes a b (inr x) (inr y) =
    let same = one_answer bytes (Err x.0) (Err y.0) x.1 y.1 in
    let refusals : x.0 ≡ y.0 = cc same in
    x.2 ∙ ap (λ (r : Refusal). Err (InRefusal.Message r)) refusals ∙ sym y.2
