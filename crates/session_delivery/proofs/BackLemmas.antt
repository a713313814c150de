-- What a session stands for while feeders come back.
use Rattle.std.proofs.Common.{◌≡◌, ℕ, ◌+◌, Option, List, [], ◌∷◌, ◌++◌, map, sym, ap, ◌∙◌, subst, append_assoc, arith}
use Rattle.std.specs.List.{All, flat_map}
use Rattle.std.proofs.lemmas.List.{append-nil, map-append}
use Rattle.std.proofs.lemmas.List.Elements.{All-head, All-tail}
use Rattle.chan_values.specs.declared.item.Item.{Item}
use Rattle.session_feeds.specs.declared.feeder.Came.{Came}
use Rattle.session_feeds.specs.Marks.{ComesBack, IsNew, Told, times}
use Rattle.session_feeds.specs.Sessions.{Account, AllCameBack, BringsBack}
use Rattle.session_feeds.proofs.ListLemmas.{flat_map-push}
use Rattle.session_delivery.specs.Answers.{marks_of}

module _ {C : Type 0} where
  -- none came back
  pub AllCameBack-none : (stands : Account C → Type 0) → AllCameBack stands [] stands
  AllCameBack-none stands a so =
      subst stands
      (λ i. record a {
        given = sym (append-nil a.given) i;
        back = sym (append-nil a.back) i;
      })
      so

  -- one more came back
  pub AllCameBack-more : (before mid after : Account C → Type 0) (fs : List Told) (f : Told)
      → AllCameBack before fs mid
      → BringsBack f mid after
      → AllCameBack before (fs ++ f ∷ []) after
  AllCameBack-more before mid after fs f so brings a is =
      let pieces : List Item = flat_map (λ (x : Told). x.pieces) fs in
      let marks : List (ℕ × Option Came) = map (λ (x : Told). (x.mark, x.came)) fs in
      let given =
      append_assoc a.given pieces f.pieces
      ∙ ap (λ l. a.given ++ l) (sym (flat_map-push (λ (x : Told). x.pieces) fs f)) in
      let back =
      append_assoc a.back marks ((f.mark, f.came) ∷ [])
      ∙ ap (λ l. a.back ++ l)
      (sym (map-append (λ (x : Told). (x.mark, x.came)) fs (f ∷ []))) in
      subst after (λ i. record a { given = given i; back = back i })
      (brings (record a { given = a.given ++ pieces; back = a.back ++ marks }) (so a is))

-- feeders that gave nothing come back whatever their order
pub ComesBack-new : {F : Type 0} (told : F → Told) (out : ℕ → ℕ) (fs : List F)
    → All (λ f. IsNew (told f)) fs
    → ((q : ℕ) → out q ≡ times (marks_of told fs) q)
    → ComesBack out (map told fs) (λ q. 0)
ComesBack-new told out [] fresh is = is
ComesBack-new told out (f ∷ fs) fresh is = (
  times (marks_of told fs),
  is,
  ComesBack-new told (λ q. times (marks_of told fs) q + times (told f).children q) fs
      (All-tail (λ g. IsNew (told g)) f fs fresh)
      (λ q.
      ap (λ l. times (marks_of told fs) q + times l q)
      (All-head (λ g. IsNew (told g)) f fs fresh).no_children
      ∙ (let g : times (marks_of told fs) q + 0 ≡ times (marks_of told fs) q = omega arith in
      g)),
)
