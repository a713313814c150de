use Rattle.std.proofs.Common.{◌≡◌, ℕ, List, [], ◌∷◌, ◌++◌, ◌∙◌, string_bytes, codes, decimal, append_assoc}
use Rattle.lab_audit.proofs.line.verdict_line.Goals as goal

-- nine parts, joined from the right and from the left
parts : (a b c d e f g h i : List ℕ)
    → a ++ (b ++ (c ++ (d ++ (e ++ (f ++ (g ++ (h ++ i)))))))
    ≡ a ++ b ++ c ++ d ++ e ++ f ++ g ++ h ++ i
parts a b c d e f g h i = simp append_assoc

pub returns : goal.returns
returns c =
    let t = c.args.totals in
    let text : string_bytes c.in_ok-format.field-0
    ≡ codes "yes sent P "
    ++ (decimal t.sent_p
    ++ (codes " A "
    ++ (decimal t.sent_a
    ++ (codes " released A "
    ++ (decimal t.released_a
    ++ (codes " P " ++ (decimal t.released_p ++ 10 ∷ [])))))))
    = c.in_ok-format.ensures.ok in
    text
    ∙ parts (codes "yes sent P ") (decimal t.sent_p) (codes " A ") (decimal t.sent_a)
    (codes " released A ") (decimal t.released_a) (codes " P ") (decimal t.released_p) (10 ∷ [])
