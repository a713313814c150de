-- From what clap and the reader of its values say to what the reader of the words says.
use Rattle.std.proofs.Common.{◌≡◌, List, Result, Ok, Err, inl, inr, subst, sym}
use Rattle.std.specs.Prelude.{IfOk, IfErr}
use Rattle.clap.specs.Words.{App, IsAmong, Row, Text, matches_of}
use Rattle.clap.specs.declared.error.kind.ErrorKind.TheVariants.{DisplayHelp, DisplayVersion}
use Rattle.program_words.proofs.Faults.{tells_line, tells_taken}
use Rattle.program_words.specs.Commands.{Takes}
use Rattle.program_words.specs.Faults.{AsksText, Tells}
use Rattle.program_words.specs.declared.fault.WordsFault.{WordsFault}

-- words that clap takes ask for no text
not_asked : (app : App) (words : List Text) → Takes app words → AsksText app words → ⊥
not_asked app words taken (inl a) = subst (IsAmong DisplayHelp) taken a
not_asked app words taken (inr a) = subst (IsAmong DisplayVersion) taken a

module _ (app found : App) (words texts : List Text) (is : found ≡ app) (are : texts ≡ words) where
  pub refused_words : (fault : WordsFault) (line : Type 0) → (line → Takes app words)
      → Tells fault (AsksText found texts) (Takes found texts)
      → Tells fault (AsksText app words) line
  refused_words fault line has t = tells_taken fault (AsksText app words) (Takes app words) line has
      (subst (λ a. Tells fault (AsksText a words) (Takes a words)) is
      (subst (λ w. Tells fault (AsksText found w) (Takes found w)) are t))

  pub taken_words : Takes found texts → Takes app words
  taken_words t = subst (λ a. Takes a words) is (subst (λ w. Takes found w) are t)

  pub found_words : (rows : List Row) → rows ≡ matches_of found texts → rows ≡ matches_of app words
  found_words rows e =
      subst (λ a. rows ≡ matches_of a words) is (subst (λ w. rows ≡ matches_of found w) are e)

module _ {T : Type 0} (Says : List Row → T → Type 0) (app : App) (words : List Text) (rows : List Row)
    (taken : Takes app words) (are : rows ≡ matches_of app words) where
  pub said_line : (r : Result T WordsFault) → IfOk r (Says rows)
      → IfOk r (λ line. Takes app words × Says (matches_of app words) line)
  said_line (Ok line) s = (taken, subst (λ found. Says found line) are s)
  said_line (Err fault) s = tt

  pub said_fault : (r : Result T WordsFault)
      → IfErr r (λ fault. Tells fault ⊥ ((line : T) × Says rows line))
      → IfErr r (λ fault. Tells fault (AsksText app words)
      ((line : T) × (Takes app words × Says (matches_of app words) line)))
  said_fault (Ok line) t = tt
  said_fault (Err fault) t = tells_line fault (AsksText app words) ((line : T) × Says rows line)
      ((line : T) × (Takes app words × Says (matches_of app words) line)) (not_asked app words taken)
      (λ l. (l.0, subst (λ found. Says found l.0) (sym are) l.1.1)) t
