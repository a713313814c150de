-- The parcels that a shell session takes.
use Rattle.std.specs.Prelude.{ℕ, Bool, true, false, cond, Option, Some, None, List, [], ◌∷◌, filter, filter_map, length}
use Rattle.chan_values.specs.declared.item.Item.{Item}
use Rattle.session_run.specs.declared.parcel.Parcel.{Parcel}
use Rattle.shell_session.specs.Items.{is_terminate}

-- the item of a parcel, if one arrived
abbrev pub arrival : Parcel → Option Item
arrival (Parcel.Arrived item) = Some item
arrival parcel = None

-- the items that arrived
abbrev pub arrived : List Parcel → List Item
arrived parcels = filter_map arrival parcels

-- whether a parcel ends the direction of the other side: Flag 2, or what stands behind its last item
abbrev pub is_end : Parcel → Bool
is_end (Parcel.Arrived item) = is_terminate item
is_end Parcel.Finished = true
is_end Parcel.Over = false

-- whether a parcel says that a feeder gave all
abbrev pub is_over : Parcel → Bool
is_over Parcel.Over = true
is_over parcel = false

-- how many of them say so
abbrev pub overs : List Parcel → ℕ
overs parcels = length (filter is_over parcels)

-- the parcels up to the first that ends the direction
abbrev pub before_end : List Parcel → List Parcel
before_end [] = []
before_end (parcel ∷ parcels) = cond (is_end parcel) [] (parcel ∷ before_end parcels)

-- the parcels behind the first item, which belongs to the handshake
abbrev pub behind_first : List Parcel → List Parcel
behind_first [] = []
behind_first (Parcel.Arrived item ∷ parcels) = parcels
behind_first (parcel ∷ parcels) = behind_first parcels
