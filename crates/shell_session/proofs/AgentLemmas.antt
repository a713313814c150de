-- What the agent's end of a shell session stands for, by one call more.
use Rattle.std.proofs.Common.{◌≡◌, ◌≤◌, ℕ, ℤ, true, Option, Some, None, IfSome, is_some, Ok, ◌⊎◌, List, [], ◌∷◌, ◌++◌, All, take, sym, ap, ◌∙◌, subst, arith, append_assoc}
use Rattle.std.proofs.lemmas.Bool.{false≢true}
use Rattle.std.proofs.lemmas.List.Elements.{All-append}
use Rattle.chan_io.specs.Faults.{Rises}
use Rattle.chan_ports.specs.Waits.{Waits}
use Rattle.chan_values.specs.declared.item.Item.{Item}
use Rattle.handshake.specs.Items.{completion_item, request_item}
use Rattle.shell_session.specs.Agents.{IsOfFeeder, IsTalk, ShellAgentState, standard, steps_made}
use Rattle.shell_session.specs.Items.{of_type}
use Rattle.shell_session.specs.Readings.{Reading}
use Rattle.shell_session.proofs.ParcelLemmas.{joined-none, of_type-none}

-- ---- small facts

pub of_feeder-more : (t : ℕ) (r : Option Reading) (given more : List Item)
    → of_type t more ≡ []
    → IsOfFeeder t r given
    → IsOfFeeder t r (given ++ more)
of_feeder-more t None given more none is = of_type-none t given more none ∙ is
of_feeder-more t (Some r) given more none is = (
  of_type-none t given more none ∙ is.0,
  subst (λ l. IfSome r.now (λ input. input.given ≡ l)) (sym (joined-none t given more none)) is.1,
)

-- the types of a session are those of the three kinds of item
abbrev pub IsSessionType : Item → Type 0
IsSessionType item = (item.ptype ≡ 1) ⊎ ((item.ptype ≡ 11) ⊎ (item.ptype ≡ 12))

-- items of a session behind what was given
pub talk-more : (s s' : ShellAgentState) (given more : List Item)
    → s.refused ≡ None
    → s'.begun ≡ s.begun
    → s'.agreed ≡ s.agreed
    → is_some s'.child ≡ true
    → All IsSessionType more
    → IsTalk s given
    → IsTalk s' (given ++ more)
talk-more s s' given more on b a child all talk = record {
  steps = talk.steps;
  asked = talk.asked;
  now = talk.now;
  rest = talk.rest ++ more;
  items =
      ap (λ l. l ++ more) talk.items
      ∙ append_assoc
      (take talk.steps (request_item standard ∷ completion_item talk.asked talk.now ∷ [])) talk.rest
      more;
  exact =
      λ _. talk.exact on ∙ ap (λ c. steps_made c s.agreed) (sym b)
      ∙ ap (λ c. steps_made s'.begun c) (sym a);
  early = λ none. absurd (false≢true (sym (ap (λ c. is_some c) none) ∙ child));
  session = All-append IsSessionType talk.rest more talk.session all;
}

-- a status behind none
pub waited : (before after : Option (List ℤ)) (status : ℤ)
    → IfSome before (λ statuses. statuses ≡ [])
    → Waits (Ok status) before after
    → IfSome after (λ statuses. statuses ≡ status ∷ [])
waited None after status none w =
    subst (λ o. IfSome o (λ statuses. statuses ≡ status ∷ [])) (sym w) tt
waited (Some before) after status none w =
    subst (λ o. IfSome o (λ statuses. statuses ≡ status ∷ [])) (sym w)
    (ap (λ l. l ++ status ∷ []) none)

pub rises_on : (contents before after : ℕ)
    → contents ≤ before
    → Rises before after
    → Rises contents after
rises_on contents before after le rises = omega arith
