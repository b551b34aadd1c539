-- Places in the order of tokens, and sections whose places rise (this project's words).
use Rattle.std.specs.Prelude.{◌≡◌, ◌<◌, ◌⊎◌, List, [], ◌∷◌, ◌++◌}
use Rattle.abel_grammar.specs.Prelude.{All, flat_map, Place, Token, SectionTree}
use Rattle.abel_grammar.specs.Places.{places_of_section}

-- The places are tokens', in the order of the tokens: from left to right each token has some of them, often none.
abbrev pub Along : List Token → List Place → Type 0
Along [] ps = ps ≡ []
Along (t ∷ ts) ps =
    (here : List Place) × (more : List Place) × (ps ≡ here ++ more) × All (λ p. p ≡ t.place) here × Along ts more

-- a place precedes another: by line, and in one line by column
abbrev pub IsBefore : Place → Place → Type 0
IsBefore p q = (p.line < q.line) ⊎ ((p.line ≡ q.line) × (p.column < q.column))

-- each token precedes all those after it
abbrev pub TokensRise : List Token → Type 0
TokensRise [] = Unit {0}
TokensRise (t ∷ ts) = All (λ u. IsBefore t.place u.place) ts × TokensRise ts

-- each place of a section precedes all places of the sections after it
abbrev pub SectionsRise : List SectionTree → Type 0
SectionsRise [] = Unit {0}
SectionsRise (s ∷ ss) =
    All (λ p. All (λ q. IsBefore p q) (flat_map places_of_section ss)) (places_of_section s) × SectionsRise ss
