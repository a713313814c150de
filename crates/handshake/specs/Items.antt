-- The items of a handshake, and why an item is none.
use Rattle.std.specs.Prelude.{◌≡◌, ◌≢◌, ℕ, List}
use Rattle.chan_values.specs.declared.item.Item.{Item}
use Rattle.json_bodies.specs.HandshakeComplete.{complete_text}
use Rattle.json_bodies.specs.HandshakeRequest.{request_text}
use Rattle.json_bodies.specs.HandshakeResponse.{response_text}
use Rattle.json_bodies.specs.declared.handshake_request.HandshakeRequest.{HandshakeRequest}
use Rattle.json_members.specs.declared.body_fault.BodyFault.{BodyFault}
use Rattle.handshake.specs.Sessions.{completion, request_for, response_to}
use Rattle.handshake.specs.declared.agreed.Agreed.{Agreed}
use Rattle.handshake.specs.declared.step.Why.{Why}

-- the item of a request for a session
abbrev pub request_item : Agreed → Item
request_item choice = record { ptype = 5; payload = request_text (request_for choice) }

-- the item of the response to a request
abbrev pub response_item : List ℕ → HandshakeRequest → Item
response_item version request =
    record { ptype = 6; payload = response_text (response_to version request) }

-- the item of the end of a handshake
abbrev pub completion_item : ℕ → ℕ → Item
completion_item begun now =
    record { ptype = 7; payload = complete_text (completion begun now) }

-- the item has another type than the awaited one, or its payload shows a fault
abbrev pub IsOther : ℕ → (List ℕ → BodyFault → Type 0) → Item → Why → Type 0
IsOther awaited IsShown item (Why.Order ptype) = (item.ptype ≢ awaited) × (ptype ≡ item.ptype)
IsOther awaited IsShown item (Why.Body fault) = (item.ptype ≡ awaited) × IsShown item.payload fault
IsOther awaited IsShown item why = ⊥
