use Rattle.std.proofs.Common.{◌≡◌, ℕ, List, [], ◌∷◌, ◌++◌, ◌∙◌, string_bytes, codes, decimal, append_assoc}
use Rattle.lab_gen.proofs.counts.counts_line.Goals as goal

-- eleven parts, joined from the right and from the left
parts : (a b c d e f g h i j k : List ℕ)
    → a ++ (b ++ (c ++ (d ++ (e ++ (f ++ (g ++ (h ++ (i ++ (j ++ k)))))))))
    ≡ a ++ b ++ c ++ d ++ e ++ f ++ g ++ h ++ i ++ j ++ k
parts a b c d e f g h i j k = simp append_assoc

pub returns : goal.returns
returns c =
    let n = c.args.counts in
    let text : string_bytes c.in_ok-format.field-0
    ≡ codes "gen "
    ++ (decimal c.args.rounds
    ++ (codes " put P "
    ++ (decimal n.put_by_plugin
    ++ (codes " A "
    ++ (decimal n.put_by_agent
    ++ (codes " released A "
    ++ (decimal n.released_by_agent
    ++ (codes " P " ++ (decimal n.released_by_plugin ++ 10 ∷ [])))))))))
    = c.in_ok-format.ensures.ok in
    text
    ∙ parts (codes "gen ") (decimal c.args.rounds) (codes " put P ") (decimal n.put_by_plugin)
    (codes " A ") (decimal n.put_by_agent) (codes " released A ") (decimal n.released_by_agent)
    (codes " P ") (decimal n.released_by_plugin) (10 ∷ [])
