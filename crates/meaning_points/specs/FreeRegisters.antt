-- Registers of free polarity under a choice, against the same registers with the words of the choice.
-- module free_registers
-- d device 'GAL22V10';
-- clk,a,b pin 1,2,3; q pin 23 istype 'reg'; r pin 22 istype 'reg'; !s pin 21 istype 'reg'; y pin 20; n node;
-- equations
-- q := !q & a # r; r := q $ b & s; s := n # r.FB; n = q & !s; y = q.FB & n; y.OE = r & s; WHEN s THEN q := b;
-- end
use Rattle.meaning_points.specs.Prelude.{String, digits, ModuleTree, Equations, design_of, source_logic, gal22v10}
use Rattle.std.specs.Prelude.{◌≡◌, ℕ, ◌==◌, Bool, true, false, not, List, [], ◌∷◌, map, codes}
use Rattle.std.proofs.Common.{refl}
use Rattle.abel_tree.specs.declared.words.Extension.TheVariants as extension
use Rattle.abel_meaning.specs.Choices.{is_free, source_logic_under}
use Rattle.meaning_points.specs.Answers.{logic_answers}
use Rattle.meaning_points.specs.ByHand.{points_of}
use Rattle.meaning_points.specs.Constructs.{assign, clocked, when_then, item, low_item, pin, device, pins, nodes, module_of}
use Rattle.meaning_points.specs.Trees.{word, name, dotted, complement, both, either, differ}

-- the module as a tree, with these words for q and s
abbrev source : (words : String) → ModuleTree
source words =
    module_of (codes "free_registers")
    (device "d" "'GAL22V10'"
    ∷ pins (item "clk" ∷ item "a" ∷ item "b" ∷ []) (pin 1 ∷ pin 2 ∷ pin 3 ∷ []) []
    ∷ pins (item "q" ∷ []) (pin 23 ∷ []) (word words ∷ [])
    ∷ pins (item "r" ∷ []) (pin 22 ∷ []) (word "'reg'" ∷ [])
    ∷ pins (low_item "s" ∷ []) (pin 21 ∷ []) (word words ∷ [])
    ∷ pins (item "y" ∷ []) (pin 20 ∷ []) []
    ∷ nodes (item "n" ∷ []) []
    ∷ [])
    (Equations
    (clocked (name "q") (either (both (complement (name "q")) (name "a")) (name "r"))
    ∷ clocked (name "r") (differ (name "q") (both (name "b") (name "s")))
    ∷ clocked (name "s") (either (name "n") (dotted "r" extension.Fb))
    ∷ assign (name "n") (both (name "q") (complement (name "s")))
    ∷ assign (name "y") (both (dotted "q" extension.Fb) (name "n"))
    ∷ assign (dotted "y" extension.Oe) (both (name "r") (name "s"))
    ∷ when_then (name "s") (clocked (name "q") (name "b"))
    ∷ [])
    ∷ [])

-- which of its names are free registers
abbrev free_names : (words : String) → List Bool
free_names words = map is_free (design_of gal22v10 (source words)).context.names

-- the choice: each cell inverts but that of r
abbrev inverts : ℕ → Bool
inverts c = not (c == 1)

-- what is answered under the choice, and by the words for it, at the four levels of a and b, with these Qs and nodes 1
abbrev IsAlike : (q nodes : List ℕ) → Type 0
IsAlike q nodes =
    map (λ at. logic_answers (source_logic_under gal22v10 (source "'reg'") inverts) at 1) (points_of (2 ∷ 3 ∷ []) q nodes)
    ≡ map (λ at. logic_answers (source_logic gal22v10 (source "'reg,invert'")) at 1) (points_of (2 ∷ 3 ∷ []) q nodes)

-- q, r and s say no polarity, and nothing holds them
three_are_free : free_names "'reg'" ≡ false ∷ false ∷ false ∷ false ∷ true ∷ true ∷ true ∷ false ∷ false ∷ []
unfolding digits
three_are_free = refl

-- the words of q and s leave r free
one_is_free : free_names "'reg,invert'" ≡ false ∷ false ∷ false ∷ false ∷ false ∷ true ∷ false ∷ false ∷ false ∷ []
unfolding digits
one_is_free = refl

-- no Q is 1
at_power_up : IsAlike [] []
unfolding digits
at_power_up = refl

-- each Q of its own is 1
q_alone : IsAlike (0 ∷ []) []
unfolding digits
q_alone = refl

r_alone : IsAlike (1 ∷ []) (0 ∷ [])
unfolding digits
r_alone = refl

s_alone : IsAlike (2 ∷ []) []
unfolding digits
s_alone = refl

-- two of them
q_and_r : IsAlike (0 ∷ 1 ∷ []) []
unfolding digits
q_and_r = refl

q_and_s : IsAlike (0 ∷ 2 ∷ []) (0 ∷ [])
unfolding digits
q_and_s = refl

r_and_s : IsAlike (1 ∷ 2 ∷ []) []
unfolding digits
r_and_s = refl

-- and all
all_three : IsAlike (0 ∷ 1 ∷ 2 ∷ []) (0 ∷ [])
unfolding digits
all_three = refl
