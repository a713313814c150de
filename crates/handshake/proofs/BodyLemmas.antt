-- A payload is one body, or shows one fault; so an item is refused in one way.
use Rattle.std.proofs.Common.{◌≡◌, ◌∙◌, ℕ, List, Some, Ok, inl, inr, ap, sym, subst}
use Rattle.std.specs.List.{slice_get}
use Rattle.serde_json.specs.Data.{Data}
use Rattle.chan_values.specs.declared.item.Item.{Item}
use Rattle.json_members.specs.Members.{object_of}
use Rattle.json_members.specs.declared.body_fault.BodyFault.{BodyFault}
use Rattle.json_bodies.proofs.ReadingLemmas.{IsTable}
use Rattle.json_bodies.specs.Reading.{Shows}
use Rattle.handshake.specs.Items.{IsOther}
use Rattle.handshake.specs.declared.step.Why.{Why}

module _ {T : Type 0} {Gives : Data → T → Type 0} {faults : Data → List BodyFault}
    (table : IsTable Gives faults) where
  -- the bytes are a body of the value
  abbrev pub IsBody : List ℕ → T → Type 0
  IsBody bytes value = (body : Data) × (object_of bytes ≡ Ok body) × Gives body value

  pub one_value : (bytes : List ℕ) (a b : T) → IsBody bytes a → IsBody bytes b → a ≡ b
  one_value bytes a b g h =
      let here = g.1 in
      let there = h.1 in
      let same : h.0 ≡ g.0 = cc in
      table.same g.0 a b g.2 (subst (λ body. Gives body b) same h.2)

  pub no_fault : (bytes : List ℕ) (value : T) (fault : BodyFault)
      → IsBody bytes value → Shows faults bytes fault → ⊥
  no_fault bytes value fault g (inl refused) = let here = g.1 in cc
  no_fault bytes value fault g (inr w) =
      let here = g.1 in
      let there = w.1 in
      let same : w.0 ≡ g.0 = cc in
      let none = ap (λ all. slice_get all 0) (table.faultless g.0 value g.2) in
      let first = subst (λ body. slice_get (faults body) 0 ≡ Some fault) same w.2 in
      cc

  pub one_fault : (bytes : List ℕ) (a b : BodyFault)
      → Shows faults bytes a → Shows faults bytes b → a ≡ b
  one_fault bytes a b (inl g) (inl h) = cc
  one_fault bytes a b (inl g) (inr w) = let there = w.1 in absurd (cc)
  one_fault bytes a b (inr v) (inl h) = let here = v.1 in absurd (cc)
  one_fault bytes a b (inr v) (inr w) =
      let here = v.1 in
      let there = w.1 in
      let same : w.0 ≡ v.0 = cc in
      let first = subst (λ body. slice_get (faults body) 0 ≡ Some b) same w.2 in
      let other = v.2 in
      cc

  module _ (awaited : ℕ) (item : Item) where
    -- an item that is the awaited body is no other
    pub no_other : (value : T) → item.ptype ≡ awaited → IsBody item.payload value
        → (why : Why) → IsOther awaited (Shows faults) item why → ⊥
    no_other value typed body (Why.Order ptype) other = other.0 typed
    no_other value typed body (Why.Body fault) other =
        no_fault item.payload value fault body other.1
    no_other value typed body Why.NoSession other = other
    no_other value typed body (Why.Failed status) other = other

    pub one_other : (v w : Why) → IsOther awaited (Shows faults) item v
        → IsOther awaited (Shows faults) item w → v ≡ w
    one_other (Why.Order p) (Why.Order q) a b = ap Why.Order (a.1 ∙ sym b.1)
    one_other (Why.Order p) (Why.Body g) a b = absurd (a.0 b.0)
    one_other (Why.Body f) (Why.Order q) a b = absurd (b.0 a.0)
    one_other (Why.Body f) (Why.Body g) a b = ap Why.Body (one_fault item.payload f g a.1 b.1)
    one_other v Why.NoSession a b = absurd b
    one_other v (Why.Failed status) a b = absurd b
    one_other Why.NoSession w a b = absurd a
    one_other (Why.Failed status) w a b = absurd a
