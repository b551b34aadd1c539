-- Wide sets, as a tree (the source is at the head of WideSets).
use Rattle.std.specs.Prelude.{[], ◌∷◌, codes}
use Rattle.meaning_points.specs.Prelude.{ModuleTree, Equations}
use Rattle.meaning_points.specs.Constructs.{module_of, assign, constants, device, item, items, nodes, pin, pins}
use Rattle.meaning_points.specs.Trees.{at_least, at_most, both, complement, differ, either, equal, minus, more, name, negative, number, one, paren, plus, set, span, unequal, word}

-- the module as a tree
abbrev pub source : ModuleTree
source =
    module_of (codes "wide_sets")
    (device "u" "'GAL22V10'"
    ∷ pins
    (item "a"
    ∷ item "b"
    ∷ item "c"
    ∷ item "d"
    ∷ item "e"
    ∷ item "f"
    ∷ item "g"
    ∷ item "h"
    ∷ item "i"
    ∷ item "j"
    ∷ item "k"
    ∷ [])
    (pin 1 ∷ pin 2 ∷ pin 3 ∷ pin 4 ∷ pin 5 ∷ pin 6 ∷ pin 7 ∷ pin 8 ∷ pin 9 ∷ pin 10 ∷ pin 11 ∷ []) []
    ∷ pins (item "y0" ∷ item "y1" ∷ item "y2" ∷ item "y3" ∷ []) (pin 23 ∷ pin 22 ∷ pin 21 ∷ pin 20 ∷ []) []
    ∷ nodes (items "n0" "n31" ∷ []) []
    ∷ constants (word "A" ∷ [])
    (set
    (one (name "a")
    ∷ one (name "b")
    ∷ one (name "c")
    ∷ one (name "d")
    ∷ one (name "e")
    ∷ one (name "f")
    ∷ one (name "g")
    ∷ one (name "h")
    ∷ one (name "i")
    ∷ one (name "j")
    ∷ one (name "k")
    ∷ one (name "a")
    ∷ one (name "b")
    ∷ one (name "c")
    ∷ one (name "d")
    ∷ one (name "e")
    ∷ one (name "f")
    ∷ one (name "g")
    ∷ one (name "h")
    ∷ one (name "i")
    ∷ one (name "j")
    ∷ one (name "k")
    ∷ one (name "a")
    ∷ one (name "b")
    ∷ one (name "c")
    ∷ one (name "d")
    ∷ one (name "e")
    ∷ one (name "f")
    ∷ one (name "g")
    ∷ one (name "h")
    ∷ one (name "i")
    ∷ one (name "j")
    ∷ [])
    ∷ [])
    ∷ constants (word "B" ∷ [])
    (set
    (one (name "b")
    ∷ one (name "c")
    ∷ one (name "d")
    ∷ one (name "e")
    ∷ one (name "f")
    ∷ one (name "g")
    ∷ one (name "h")
    ∷ one (name "i")
    ∷ one (name "j")
    ∷ one (name "k")
    ∷ one (name "a")
    ∷ one (name "a")
    ∷ one (name "b")
    ∷ one (name "c")
    ∷ one (name "d")
    ∷ one (name "e")
    ∷ one (name "f")
    ∷ one (name "g")
    ∷ one (name "h")
    ∷ one (name "i")
    ∷ one (name "j")
    ∷ one (name "k")
    ∷ one (name "k")
    ∷ one (name "b")
    ∷ one (name "c")
    ∷ one (name "d")
    ∷ one (name "e")
    ∷ one (name "f")
    ∷ one (name "g")
    ∷ one (name "h")
    ∷ one (name "i")
    ∷ one (name "j")
    ∷ [])
    ∷ [])
    ∷ [])
    (Equations
    (assign (set (span "n0" "n31" ∷ []))
    (differ (minus (plus (name "A") (name "B")) (number 3735928559))
    (paren (either (both (name "A") (complement (name "B"))) (negative (name "A")))))
    ∷ assign (name "y0") (more (plus (name "A") (number 1)) (name "B"))
    ∷ assign (name "y1") (equal (name "A") (minus (number 4294967295) (name "B")))
    ∷ assign (name "y2")
    (unequal (both (paren (at_most (name "A") (name "B"))) (set (span "n31" "n0" ∷ [])))
    (number 0))
    ∷ assign (name "y3") (at_least (minus (name "A") (name "B")) (number 2))
    ∷ [])
    ∷ [])
