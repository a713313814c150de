-- The rows of a register, and what a call answers and changes, by the row of its session.
use Rattle.std.specs.Prelude.{◌≡◌, ℕ, ◌+◌, ◌-◌, ◌^◌, ◌≤◌, min, Bool, true, false, not, ◌&&◌, ◌||◌, Option, Some, None, IfSome, is_some, List, [], ◌∷◌, if◌then◌else◌, nat_eq}
use Rattle.std.specs.Option.{option_map}
use Rattle.chan_values.specs.declared.side.Side.{Side}
use Rattle.chan_values.specs.declared.side.Side.TheVariants.{Plugin, Agent}
use Rattle.session_register.specs.declared.token.Token.{Token}
use Rattle.session_register.specs.declared.row.Chain.{Chain}
use Rattle.session_register.specs.declared.row.Row.{Row}
use Rattle.session_register.specs.declared.row.OldChain.{OldChain}
use Rattle.session_register.specs.declared.row.OldRow.{OldRow}
use Rattle.session_register.specs.declared.answer.Created.{Created}
use Rattle.session_register.specs.declared.answer.Open.{Open}
use Rattle.session_register.specs.declared.answer.Closing.{Closing}
use Rattle.session_register.specs.Names.{same_name}

-- where counts stop
abbrev pub greatest : ℕ
greatest = 2 ^ 63 - 1

-- a token that a chain may have
abbrev pub IsToken : Token → Type 0
IsToken token = (1 ≤ token.count) × (token.count ≤ greatest)

-- the counts of a chain that is kept
pub record IsKept (chain : Chain) : Type 0 where
  pub last : IsToken chain.last
  pub prev : IfSome chain.prev IsToken
  pub opened : chain.opened ≤ greatest

-- the counts of such a chain without a count of openings
pub record IsOldKept (chain : OldChain) : Type 0 where
  pub last : IsToken chain.last
  pub prev : IfSome chain.prev IsToken

-- a row that may be kept
abbrev pub IsRow : Row → Type 0
IsRow row = IsKept row.plugin × IsKept row.agent

-- a chain of a store that counts no openings, with one for each token but the first
abbrev pub upgraded_chain : OldChain → Chain
upgraded_chain chain =
    record { last = chain.last; prev = chain.prev; opened = chain.last.count - 1 }

-- a row of such a store, with both chains counted
abbrev pub upgraded : OldRow → Row
upgraded row =
    record {
      session = row.session;
      ended = row.ended;
      plugin = upgraded_chain row.plugin;
      agent = upgraded_chain row.agent;
    }

-- a chain less its count of openings
abbrev pub uncounted_chain : Chain → OldChain
uncounted_chain chain = record { last = chain.last; prev = chain.prev }

-- a row as a store has it that counts no openings
abbrev pub uncounted : Row → OldRow
uncounted row =
    record {
      session = row.session;
      ended = row.ended;
      plugin = uncounted_chain row.plugin;
      agent = uncounted_chain row.agent;
    }

-- ---- the row of a session

-- the row of a session among rows without counts
abbrev pub old_row_of : List OldRow → List ℕ → Option OldRow
old_row_of [] session = None
old_row_of (row ∷ rows) session =
    if same_name session row.session then Some row else old_row_of rows session

-- the row of a session among rows
abbrev pub row_of : List Row → List ℕ → Option Row
row_of [] session = None
row_of (row ∷ rows) session =
    if same_name session row.session then Some row else row_of rows session

-- the chain of an end
abbrev pub chain_of : Side → Row → Chain
chain_of Plugin row = row.plugin
chain_of Agent row = row.agent

-- the row with this chain for an end
abbrev pub with_chain : Side → Chain → Row → Row
with_chain Plugin chain row = record row { plugin = chain }
with_chain Agent chain row = record row { agent = chain }

-- ---- calls

-- one call of a register with its answer
pub data Entry : Type 0 where
  Creates : (session : List ℕ) (plugin agent : ℕ) (answer : Created) → Entry
  Opens : (session : List ℕ) (role : Side) (token : Token) (fresh : ℕ) (answer : Open) → Entry
  Ends : (session : List ℕ) (answer : Closing) → Entry
  AsksEnded : (session : List ℕ) (answer : Option Bool) → Entry
  Counts : (session : List ℕ) (answer : Option (ℕ × ℕ)) → Entry

-- the session of an entry
abbrev pub session_of : Entry → List ℕ
session_of (Creates session plugin agent answer) = session
session_of (Opens session role token fresh answer) = session
session_of (Ends session answer) = session
session_of (AsksEnded session answer) = session
session_of (Counts session answer) = session

-- whether two tokens are one
abbrev pub same_token : Token → Token → Bool
same_token a b = nat_eq a.count b.count && nat_eq a.random b.random

-- whether the token is the one before the last
abbrev pub is_prev : Token → Option Token → Bool
is_prev token None = false
is_prev token (Some prev) = same_token token prev

-- the first token of a chain
abbrev pub first_token : ℕ → Token
first_token random = record { count = 1; random = random }

-- the token after another
abbrev pub successor : Token → ℕ → Token
successor token fresh = record { count = token.count + 1; random = fresh }

-- what a creation answers over the row of its session
abbrev pub answer_to_create : Option Row → ℕ → ℕ → Created
answer_to_create None plugin agent = Created.New (first_token plugin) (first_token agent)
answer_to_create (Some row) plugin agent = Created.Exists

-- what a token is answered that is shown to a chain, by the first of these that applies
abbrev pub answer_by_chain : Chain → Bool → Token → ℕ → Open
answer_by_chain chain ended token fresh =
    if not (same_token token chain.last || is_prev token chain.prev) then Open.BadToken
    else if ended then Open.Ended
    else if is_prev token chain.prev then Open.Same chain.last
    else if nat_eq chain.last.count greatest then Open.Spent
    else Open.Successor (successor chain.last fresh)

-- what an opening answers
abbrev pub answer_to_open : Option Row → Side → Token → ℕ → Open
answer_to_open None role token fresh = Open.NoSession
answer_to_open (Some row) role token fresh =
    answer_by_chain (chain_of role row) row.ended token fresh

-- what an end answers
abbrev pub answer_to_end : Option Row → Closing
answer_to_end None = Closing.NoSession
answer_to_end (Some row) = Closing.Done

-- the entry has the answer that the row of its session gives
abbrev pub IsAnswered : Option Row → Entry → Type 0
IsAnswered row (Creates session plugin agent answer) = answer ≡ answer_to_create row plugin agent
IsAnswered row (Opens session role token fresh answer) =
    answer ≡ answer_to_open row role token fresh
IsAnswered row (Ends session answer) = answer ≡ answer_to_end row
IsAnswered row (AsksEnded session answer) = answer ≡ option_map (λ (r : Row). r.ended) row
IsAnswered row (Counts session answer) =
    answer ≡ option_map (λ (r : Row). (r.plugin.opened, r.agent.opened)) row

-- ---- what a call changes

-- one opening more, up to where counts stop
abbrev pub counted : ℕ → ℕ
counted opened = min (opened + 1) greatest

-- the chain after an opening with this answer
abbrev pub chain_after : Open → Chain → Chain
chain_after (Open.Successor token) chain =
    record { last = token; prev = Some chain.last; opened = counted chain.opened }
chain_after (Open.Same token) chain = record chain { opened = counted chain.opened }
chain_after answer chain = chain

-- the row after it
abbrev pub opened_row : Open → Side → Row → Row
opened_row answer role row = with_chain role (chain_after answer (chain_of role row)) row

-- a chain of one token
abbrev pub first_chain : Token → Chain
first_chain token = record { last = token; prev = None; opened = 0 }

-- the row after a creation
abbrev pub row_created : List ℕ → Created → Option Row → Option Row
row_created session (Created.New plugin agent) row =
    Some (record {
      session = session;
      ended = false;
      plugin = first_chain plugin;
      agent = first_chain agent;
    })
row_created session Created.Exists row = row

-- the row of the entry's session after it
abbrev pub row_after : Entry → Option Row → Option Row
row_after (Creates session plugin agent answer) row = row_created session answer row
row_after (Opens session role token fresh answer) row =
    option_map (opened_row answer role) row
row_after (Ends session answer) row = option_map (λ (r : Row). record r { ended = true }) row
row_after entry row = row

-- the rows of the other sessions stay
abbrev pub Changes : Entry → List Row → List Row → Type 0
Changes entry old new = (session : List ℕ) → row_of new session
    ≡ (if same_name (session_of entry) session then row_after entry (row_of old (session_of entry))
    else row_of old session)

-- a call over a keeper: where it tells its rows, they give the answer, and change by it alone
abbrev pub Meets : Entry → Option (List Row) → Option (List Row) → Type 0
Meets entry None new = new ≡ None
Meets entry (Some old) new =
    IsAnswered (row_of old (session_of entry)) entry
    × ((rows : List Row) × (new ≡ Some rows) × Changes entry old rows)

-- ---- what a keeper does

-- it found the row of the session
abbrev pub Finds : Option (List Row) → List ℕ → Option Row → Type 0
Finds None session found = Unit {0}
Finds (Some rows) session found = found ≡ row_of rows session

-- it put a row in the place of the one of its session, or added it
abbrev pub Puts : Row → Option (List Row) → Option (List Row) → Type 0
Puts row None new = new ≡ None
Puts row (Some old) new =
    (rows : List Row) × (new ≡ Some rows)
    × ((session : List ℕ) → row_of rows session
    ≡ (if same_name row.session session then Some row else row_of old session))
