-- What a list of calls with their answers tells of the rows: tokens, ends and openings.
use Rattle.std.specs.Prelude.{◌≡◌, ℕ, ◌+◌, ◌≤◌, min, Bool, true, false, ◌&&◌, Option, Some, None, List, [], ◌∷◌, ◌++◌, map, drop, length, reverse, if◌then◌else◌}
use Rattle.std.specs.Option.{option_map}
use Rattle.std.specs.List.{filter_map, list_any, count_by}
use Rattle.chan_values.specs.declared.side.Side.{Side}
use Rattle.chan_values.specs.declared.side.Side.TheVariants.{Plugin, Agent}
use Rattle.session_register.specs.declared.token.Token.{Token}
use Rattle.session_register.specs.declared.row.Chain.{Chain}
use Rattle.session_register.specs.declared.row.Row.{Row}
use Rattle.session_register.specs.declared.row.OldRow.{OldRow}
use Rattle.session_register.specs.declared.answer.Created.{Created}
use Rattle.session_register.specs.declared.answer.Open.{Open}
use Rattle.session_register.specs.declared.answer.Closing.{Closing}
use Rattle.session_register.specs.Names.{same_name}
use Rattle.session_register.specs.Rows.{Entry, Creates, Opens, Ends, IsAnswered, Meets, greatest, old_row_of, row_of, session_of, uncounted, upgraded}

-- whether two ends are one
abbrev pub same_side : Side → Side → Bool
same_side Plugin Plugin = true
same_side Agent Agent = true
same_side Plugin Agent = false
same_side Agent Plugin = false

-- of two tokens, that of an end
abbrev pub token_for : Side → Token → Token → Token
token_for Plugin plugin agent = plugin
token_for Agent plugin agent = agent

-- the token that this entry gave for the role in the session
abbrev pub token_given : List ℕ → Side → Entry → Option Token
token_given session role (Creates s p a (Created.New plugin agent)) =
    if same_name s session then Some (token_for role plugin agent) else None
token_given session role (Opens s r t fresh (Open.Successor token)) =
    if same_name s session && same_side r role then Some token else None
token_given session role entry = None

-- the tokens of a chain, the last one first
unfoldable pub tokens_given : List Entry → List ℕ → Side → List Token
tokens_given cs session role = reverse (filter_map (token_given session role) cs)

-- whether this entry ended the session
abbrev pub ends : List ℕ → Entry → Bool
ends session (Ends s Closing.Done) = same_name s session
ends session entry = false

-- whether an entry ended the session
unfoldable pub is_ended : List Entry → List ℕ → Bool
is_ended cs session = list_any (ends session) cs

-- whether this entry is an opening with a new token
abbrev pub gives_new : List ℕ → Side → Entry → Bool
gives_new session role (Opens s r t fresh (Open.Successor token)) =
    same_name s session && same_side r role
gives_new session role entry = false

-- or with the last one again
abbrev pub gives_again : List ℕ → Side → Entry → Bool
gives_again session role (Opens s r t fresh (Open.Same token)) =
    same_name s session && same_side r role
gives_again session role entry = false

-- how many openings were accepted; before the place `from` those that gave a token again were not
-- counted
unfoldable pub opening_count : ℕ → List Entry → List ℕ → Side → ℕ
opening_count from cs session role =
    min
    (count_by (gives_new session role) cs + count_by (gives_again session role) (drop from cs))
    greatest

-- the chain of these tokens
abbrev pub chain_told : List Token → ℕ → Option Chain
chain_told [] opened = None
chain_told (last ∷ []) opened = Some (record { last = last; prev = None; opened = opened })
chain_told (last ∷ prev ∷ tokens) opened =
    Some (record { last = last; prev = Some prev; opened = opened })

-- a session has a row where both its chains have a token
abbrev pub row_with : List ℕ → Bool → Option Chain → Option Chain → Option Row
row_with session ended (Some plugin) (Some agent) =
    Some (record { session = session; ended = ended; plugin = plugin; agent = agent })
row_with session ended plugin agent = None

-- the row of a session, read off the calls
abbrev pub row_told : ℕ → List Entry → List ℕ → Option Row
row_told from cs session =
    let chain : Side → Option Chain =
    λ role. chain_told (tokens_given cs session role) (opening_count from cs session role) in
    row_with session (is_ended cs session) (chain Plugin) (chain Agent)

-- one entry more got its answer
abbrev pub GoesOn : ℕ → List Entry → Entry → Type 0
GoesOn from cs entry = IsAnswered (row_told from cs (session_of entry)) entry

-- each entry got its answer after those before it
abbrev pub AreAnswered : ℕ → List Entry → List Entry → Type 0
AreAnswered from before [] = Unit {0}
AreAnswered from before (entry ∷ cs) =
    GoesOn from before entry × AreAnswered from (before ++ entry ∷ []) cs

-- the rows are what the calls tell
abbrev pub Shows : ℕ → List Entry → List Row → Type 0
Shows from cs rows = (session : List ℕ) → row_of rows session ≡ row_told from cs session

-- the calls were made over these rows one after another, and led to those
abbrev pub Leads : List Row → List Entry → List Row → Type 0
Leads rows [] new = new ≡ rows
Leads rows (entry ∷ cs) new =
    (mid : List Row) × Meets entry (Some rows) (Some mid) × Leads mid cs new

-- Calls over a keeper that had no rows got the answers that the calls before them give, whichever
-- registers made them, and the rows are what the calls tell.
abbrev pub ChainsHold : Type 0
ChainsHold = (cs : List Entry) (rows : List Row) → Leads [] cs rows
    → AreAnswered 0 [] cs × Shows 0 cs rows

-- ---- openings that are counted from a place on

-- rows without counts are what the calls tell
abbrev pub ShowsOld : List Entry → List OldRow → Type 0
ShowsOld cs old = (session : List ℕ)
    → old_row_of old session ≡ option_map uncounted (row_told 0 cs session)

-- each session has its row of those without counts, upgraded
abbrev pub AreUpgraded : List OldRow → List Row → Type 0
AreUpgraded old rows = (session : List ℕ)
    → row_of rows session ≡ option_map upgraded (old_row_of old session)

-- Calls made before openings were counted left rows without counts, and later calls were made over
-- these rows, upgraded. All of them make one list: each got the answer that those before it give,
-- where an answer Same before the place between them is not counted.
abbrev pub ChainsGoOn : Type 0
ChainsGoOn = (before cs : List Entry) (old : List OldRow) (first rows : List Row)
    → AreAnswered (length before) [] before → ShowsOld before old
    → AreUpgraded old first → Leads first cs rows
    → AreAnswered (length before) [] (before ++ cs) × Shows (length before) (before ++ cs) rows
