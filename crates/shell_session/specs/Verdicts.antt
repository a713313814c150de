-- What a shell session asks for.
use Rattle.std.specs.Prelude.{◌≡◌, ℤ, Bool, true, false, [], ◌∷◌, ◌⊎◌}
use Rattle.chan_values.specs.declared.item.Item.{Item}
use Rattle.session_feeds.specs.declared.session.Verdict.{Verdict}
use Rattle.shell_session.specs.Items.{exit_item, of_type, terminate}

module _ {F : Type 0} where
  -- this item alone is to be put in
  pub record AsksToPut (item : Item) (as_last ends : Bool) (verdict : Verdict F) : Type 0 where
    pub puts : verdict.puts ≡ item ∷ []
    pub last : verdict.last ≡ as_last
    pub feeders : verdict.feeders.items ≡ []
    pub finish : verdict.finish ≡ ends

  -- nothing is asked for
  pub record AsksNothing (verdict : Verdict F) : Type 0 where
    pub puts : verdict.puts ≡ []
    pub last : verdict.last ≡ false
    pub feeders : verdict.feeders.items ≡ []
    pub finish : verdict.finish ≡ false

  -- the session ends with the item of a status, which is the last of its direction; before that it
  -- gives no such item, and no last one
  abbrev pub EndsByStatus : Verdict F → Type 0
  EndsByStatus verdict =
      ((status : ℤ) × AsksToPut (exit_item status) true true verdict)
      ⊎ ((of_type 12 verdict.puts ≡ []) × (verdict.last ≡ false) × (verdict.finish ≡ false))

  -- Flag 2 ends the direction; no other item is a last one, and the plugin never ends the session
  abbrev pub EndsByFlag : Verdict F → Type 0
  EndsByFlag verdict = AsksToPut terminate true false verdict ⊎ AsksNothing verdict
