-- The draws of a desk: what was drawn is what was told to come.
use Rattle.std.proofs.Common.{◌≡◌, ℕ, Option, Some, None, Result, Ok, Err, List, [], ◌∷◌, ◌++◌, refl, sym, ap, subst, ◌∙◌, append-nil, append_assoc}
use Rattle.std.specs.List.{cons_option, filter_map}
use Rattle.std.proofs.lemmas.List.Elements.{filter_map-append}
use Rattle.chan_io.specs.Draws.{Draws}
use Rattle.chan_io.specs.declared.failed.Failed.{Failed}
use Rattle.relay_desk.specs.declared.desk_call.DeskAnswer.{DeskAnswer}
use Rattle.relay_desk.specs.Desks.{DeskStep, GivesTold, bytes_drawn, draws_made}

pub draws_made-push : (h : List DeskStep) (s : DeskStep)
    → draws_made (h ++ s ∷ []) ≡ draws_made h ++ cons_option (bytes_drawn s.1) []
unfolding draws_made
draws_made-push h s = filter_map-append (λ (x : DeskStep). bytes_drawn x.1) h (s ∷ [])

draws_made-nil : draws_made [] ≡ []
unfolding draws_made
draws_made-nil = refl

-- a call that draws nothing
pub still-given : (first now new : Option (List (List ℕ))) (made : List (List ℕ)) → new ≡ now
    → GivesTold first made now
    → GivesTold first (made ++ []) new
still-given first now new made same given =
    subst (λ m. GivesTold first m new) (sym (append-nil made))
    (subst (λ n. GivesTold first made n) (sym same) given)

-- one draw more
gives-push : (coming rest : List (List ℕ)) (made : List (List ℕ)) (drawn : List ℕ)
    (new : Option (List (List ℕ)))
    → coming ≡ made ++ rest
    → Draws (Ok drawn) (Some rest) new
    → GivesTold (Some coming) (made ++ drawn ∷ []) new
gives-push coming rest made drawn new is gives = (
  gives.0,
  gives.2,
  is ∙ ap (λ r. made ++ r) gives.1 ∙ sym (append_assoc made (drawn ∷ []) gives.0),
)

-- a draw
pub given-by : (r : Result (List ℕ) Failed) (first : Option (List (List ℕ)))
    (made : List (List ℕ)) (now new : Option (List (List ℕ)))
    → Draws r now new
    → GivesTold first made now
    → GivesTold first (made ++ cons_option (bytes_drawn (DeskAnswer.Draw r)) []) new
given-by (Ok d) None made now new gives given = subst (λ n. Draws (Ok d) n new) given gives
given-by (Ok d) (Some coming) made now new gives given =
    gives-push coming given.0 made d new given.2
    (subst (λ n. Draws (Ok d) n new) given.1 gives)
given-by (Err f) first made now new gives given =
    still-given first now new made (kept now gives) given
  where
    kept : (now : Option (List (List ℕ))) → Draws (Err f) now new → new ≡ now
    kept None gives = gives
    kept (Some coming) gives = gives

pub none-given : (draws : Option (List (List ℕ))) → GivesTold draws (draws_made []) draws
none-given draws = subst (λ made. GivesTold draws made draws) (sym draws_made-nil) (by draws)
  where
    by : (draws : Option (List (List ℕ))) → GivesTold draws [] draws
    by None = refl
    by (Some d) = (d, refl, refl)
