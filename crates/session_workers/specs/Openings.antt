-- What a link reader says to open a connection, and what the reply says.
use Rattle.std.specs.Prelude.{◌≡◌, ◌⊎◌, ℕ, true, false, Option, Some, None, List, ◌++◌, codes}
use Rattle.chan_values.specs.declared.side.Side.{Side}
use Rattle.chan_values.specs.declared.side.Side.TheVariants.{Plugin, Agent}
use Rattle.json_bodies.specs.Opened.{IsOpenedBody, opened_faults}
use Rattle.json_bodies.specs.Opening.{opening_text}
use Rattle.json_bodies.specs.Reading.{Shows}
use Rattle.json_bodies.specs.declared.opened.Opened.{Opened}
use Rattle.json_bodies.specs.declared.opening.Opening.{Opening}
use Rattle.json_members.specs.declared.body_fault.BodyFault.{BodyFault}
use Rattle.session_workers.specs.declared.link_setting.LinkSetting.{LinkSetting}
use Rattle.session_workers.specs.declared.reply.Reply.{Reply}

-- the end in the text of a token, between its dots
abbrev pub role_text : Side → List ℕ
role_text Plugin = codes ".plugin."
role_text Agent = codes ".agent."

-- the text of a session, an end and the digits of a token
abbrev pub token_value : List ℕ → Side → List ℕ → List ℕ
token_value session role token = session ++ (role_text role ++ token)

-- the version that a side tells
abbrev pub version_of : Side → Option (List ℕ)
version_of Plugin = Some (codes "1.2.0.0")
version_of Agent = None

-- the opening with this token
abbrev pub opening_of : LinkSetting → List ℕ → Opening
opening_of setting token = record {
  client_id = setting.client;
  client_version = version_of setting.side;
  request_id = setting.client;
  token = token_value setting.session setting.role token;
}

-- its text
abbrev pub opening_with : LinkSetting → List ℕ → List ℕ
opening_with setting token = opening_text (opening_of setting token)

-- what the body of a reply says
abbrev pub SaysReply : Opened → Reply → Type 0
SaysReply opened (Reply.Accepted token) = (opened.accepted ≡ true) × (opened.resume ≡ token)
SaysReply opened Reply.Ended = (opened.accepted ≡ false) × (opened.ended ≡ true)
SaysReply opened Reply.Other = (opened.accepted ≡ false) × (opened.ended ≡ false)

-- what the bytes of a reply say: what their body says, and nothing where they are no body
abbrev pub Replies : List ℕ → Reply → Type 0
Replies bytes reply =
    ((opened : Opened) × IsOpenedBody bytes opened × SaysReply opened reply)
    ⊎ ((fault : BodyFault) × Shows opened_faults bytes fault × (reply ≡ Reply.Other))
