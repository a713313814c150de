-- The items of a shell session, by the PayloadTypes of amazon-ssm-agent: 1 Output, 10 Flag,
-- 11 StdErr, 12 ExitCode.
use Rattle.std.specs.Prelude.{◌≡◌, ℕ, ℤ, Bool, ◌&&◌, ◌==◌, Option, Some, None, List, [], ◌∷◌, ◌++◌, All, filter, flat_map, bytes_eq, FitsSigned}
use Rattle.std.specs.Int.{w32}
use Rattle.std.specs.Fmt.{signed_decimal}
use Rattle.chan_values.specs.declared.item.Item.{Item}

-- Flag 2, TerminateSession, in four bytes, big-endian
abbrev pub terminate : Item
terminate = record { ptype = 10; payload = 0 ∷ 0 ∷ 0 ∷ 2 ∷ [] }

-- whether an item is that flag
abbrev pub is_terminate : Item → Bool
is_terminate item = (item.ptype == 10) && bytes_eq item.payload (0 ∷ 0 ∷ 0 ∷ 2 ∷ [])

-- the item of a status: in decimal, with a minus where it is negative
abbrev pub exit_item : ℤ → Item
exit_item status = record { ptype = 12; payload = signed_decimal status }

-- the items of a type
abbrev pub of_type : ℕ → List Item → List Item
of_type ptype items = filter (λ item. item.ptype == ptype) items

-- the payloads of the items of a type, joined
abbrev pub joined : ℕ → List Item → List ℕ
joined ptype items = flat_map (λ item. item.payload) (of_type ptype items)

-- the item is that of this status, a number of 32 bits
abbrev pub IsExit : ℤ → Item → Type 0
IsExit status item = FitsSigned w32 status × (item ≡ exit_item status)

-- the item is that of no status
abbrev pub IsNoExit : Item → Type 0
IsNoExit item = (status : ℤ) → FitsSigned w32 status → item ≡ exit_item status → ⊥

-- the status of the last of these items that has one
abbrev pub LastExit : List Item → Option ℤ → Type 0
LastExit items None = All IsNoExit items
LastExit items (Some status) =
    (before : List Item)
    × (item : Item)
    × (after : List Item)
    × (items ≡ before ++ item ∷ after)
    × IsExit status item
    × All IsNoExit after
