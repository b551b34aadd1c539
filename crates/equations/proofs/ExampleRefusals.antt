-- What is refused of statements, by computation; the columns are counted by hand.
use Rattle.std.proofs.Common.{◌≡◌, true, None, Some, List, [], ◌∷◌, map, refl}
use Rattle.equations.proofs.Common.{Const, ABinary, AParen, AUnary, Statement, statements_of, SectionFault, units_refused, units_of_statements}
use Rattle.abel_tree.specs.declared.words.Binary.TheVariants.{And}
use Rattle.abel_tree.specs.declared.words.Extension.TheVariants as extension
use Rattle.abel_tree.specs.declared.words.Unary.TheVariants.{Not}
use Rattle.set_expr.specs.declared.fault.SectionFault.TheVariants.{MisplacedSpecial, BadWidth, NotAnOutput, MixedAssignment}
use Rattle.equations.proofs.Written.{at, number, unknown, name, dotted, set, assign, not_assign, clocked, when_then, when_else, design}

-- sources, and all refusals of the statements of each if nothing was assigned before
abbrev Example : Type 0
Example = List Statement × List SectionFault

abbrev AreRefused : List Example → Type 0
AreRefused examples = map (λ (e : Example). units_refused (units_of_statements design (Const true) [] (statements_of e.0))) examples ≡ map (λ (e : Example). e.1) examples

-- values that meet so many signals
signals : AreRefused (
    -- Y = a;
    (assign 1 (name 1 "Y") 3 (name 5 "a") ∷ [], [])
    -- [Y,Z] = a;    one bit is spread
    ∷ (assign 1 (set 1 (name 2 "Y" ∷ name 4 "Z" ∷ [])) 7 (name 9 "a") ∷ [], [])
    -- [Y,Z] = 5;    a number is cut
    ∷ (assign 1 (set 1 (name 2 "Y" ∷ name 4 "Z" ∷ [])) 7 (number 9 5) ∷ [], [])
    -- Y = [a,b];
    ∷ (assign 1 (name 1 "Y") 3 (set 5 (name 6 "a" ∷ name 8 "b" ∷ [])) ∷ [], BadWidth (at 3) ∷ [])
    -- Y = [a];
    ∷ (assign 1 (name 1 "Y") 3 (set 5 (name 6 "a" ∷ [])) ∷ [], [])
    -- c = [a,b];    the constant [Y,Z]
    ∷ (assign 1 (name 1 "c") 3 (set 5 (name 6 "a" ∷ name 8 "b" ∷ [])) ∷ [], [])
    -- [c,n] = [a,b];
    ∷ (assign 1 (set 1 (name 2 "c" ∷ name 4 "n" ∷ [])) 7 (set 9 (name 10 "a" ∷ name 12 "b" ∷ [])) ∷ [], BadWidth (at 7) ∷ [])
    ∷ [])
signals = refl

-- what is no target
targets : AreRefused (
    -- [Y,2] = b;
    (assign 1 (set 1 (name 2 "Y" ∷ number 4 2 ∷ [])) 7 (name 9 "b") ∷ [], NotAnOutput (at 4) None ∷ [])
    -- [Y,!Z] = b;
    ∷ (assign 1 (set 1 (name 2 "Y" ∷ AUnary Not (at 4) (name 5 "Z") ∷ [])) 8 (name 10 "b") ∷ [], NotAnOutput (at 4) None ∷ [])
    -- [Y,(a & b)] = b;    at what is inside, which is a declared name
    ∷ (assign 1 (set 1 (name 2 "Y" ∷ AParen (at 4) (ABinary And (at 7) (name 5 "a") (name 9 "b")) ∷ [])) 13 (name 15 "b") ∷ [], NotAnOutput (at 5) (Some 0) ∷ [])
    -- [Y,Z.OE] = b;
    ∷ (assign 1 (set 1 (name 2 "Y" ∷ dotted 4 "Z" extension.Oe ∷ [])) 10 (name 12 "b") ∷ [], NotAnOutput (at 4) (Some 3) ∷ [])
    -- [Y,.X.] = b;
    ∷ (assign 1 (set 1 (name 2 "Y" ∷ unknown 4 ∷ [])) 9 (name 11 "b") ∷ [], MisplacedSpecial (at 4) ∷ [])
    -- k = b;    a constant that names no signals
    ∷ (assign 1 (name 1 "k") 3 (name 5 "b") ∷ [], NotAnOutput (at 1) (Some 8) ∷ [])
    -- !k = b;    at the constant's name
    ∷ (not_assign 1 (name 2 "k") 4 (name 6 "b") ∷ [], NotAnOutput (at 2) (Some 8) ∷ [])
    -- !a = b;    a signal is at the beginning of the target
    ∷ (not_assign 1 (name 2 "a") 4 (name 6 "b") ∷ [], NotAnOutput (at 1) (Some 0) ∷ [])
    -- !x = b;    both are at the constant's name
    ∷ (not_assign 1 (name 2 "x") 4 (name 6 "b") ∷ [], MisplacedSpecial (at 2) ∷ NotAnOutput (at 2) (Some 10) ∷ [])
    -- e = b;    a signal with an extension of its own, after a constant
    ∷ (assign 1 (name 1 "e") 3 (name 5 "b") ∷ [], NotAnOutput (at 1) (Some 9) ∷ [])
    -- x = b;    both are at the name, and the special is first
    ∷ (assign 1 (name 1 "x") 3 (name 5 "b") ∷ [], MisplacedSpecial (at 1) ∷ NotAnOutput (at 1) (Some 10) ∷ [])
    -- a = b;
    ∷ (assign 1 (name 1 "a") 3 (name 5 "b") ∷ [], NotAnOutput (at 1) (Some 0) ∷ [])
    -- ![Y,a] = b;    the member's own place
    ∷ (not_assign 1 (set 2 (name 3 "Y" ∷ name 5 "a" ∷ [])) 8 (name 10 "b") ∷ [], NotAnOutput (at 5) (Some 0) ∷ [])
    -- Y.FB = b;
    ∷ (assign 1 (dotted 1 "Y" extension.Fb) 6 (name 8 "b") ∷ [], NotAnOutput (at 1) (Some 2) ∷ [])
    ∷ [])
targets = refl

-- how signals are assigned
manners : AreRefused (
    -- W.OE = b;    no data
    (assign 1 (dotted 1 "W" extension.Oe) 6 (name 8 "b") ∷ [], NotAnOutput (at 1) (Some 4) ∷ [])
    -- Y.OE := b;
    ∷ (clocked 1 (dotted 1 "Y" extension.Oe) 6 (name 9 "b") ∷ [], MixedAssignment (at 1) 2 ∷ [])
    -- Y := b;    a combinational signal
    ∷ (clocked 1 (name 1 "Y") 3 (name 6 "b") ∷ [], MixedAssignment (at 1) 2 ∷ [])
    -- q = b;    a registered one
    ∷ (assign 1 (name 1 "q") 3 (name 5 "b") ∷ [], MixedAssignment (at 1) 5 ∷ [])
    -- q.D = b;
    ∷ (assign 1 (dotted 1 "q" extension.D) 5 (name 7 "b") ∷ [], [])
    -- q := a; q.D := b;    to the name and to the raw input
    ∷ (clocked 1 (name 1 "q") 3 (name 6 "a") ∷ clocked 9 (dotted 9 "q" extension.D) 13 (name 16 "b") ∷ [], MixedAssignment (at 9) 5 ∷ [])
    -- Y = a; !Y = b;    data of both polarities
    ∷ (assign 1 (name 1 "Y") 3 (name 5 "a") ∷ not_assign 8 (name 9 "Y") 11 (name 13 "b") ∷ [], [])
    -- Y.OE = a; !Y.OE = b; Y = a;    a control is compared with the same control
    ∷ (assign 1 (dotted 1 "Y" extension.Oe) 6 (name 8 "a") ∷ not_assign 11 (dotted 12 "Y" extension.Oe) 17 (name 19 "b") ∷ assign 22 (name 22 "Y") 24 (name 26 "a") ∷ [], MixedAssignment (at 11) 2 ∷ [])
    -- [Y,Y] = [a,b];    twice the same name
    ∷ (assign 1 (set 1 (name 2 "Y" ∷ name 4 "Y" ∷ [])) 7 (set 9 (name 10 "a" ∷ name 12 "b" ∷ [])) ∷ [], [])
    ∷ [])
manners = refl

-- X positions, and conditions
values : AreRefused (
    -- Y = .X.;
    (assign 1 (name 1 "Y") 3 (unknown 5) ∷ [], MisplacedSpecial (at 5) ∷ [])
    -- WHEN [a,b] THEN Y = a;
    ∷ (when_then 1 (set 6 (name 7 "a" ∷ name 9 "b" ∷ [])) (assign 17 (name 17 "Y") 19 (name 21 "a")) ∷ [], BadWidth (at 1) ∷ [])
    -- WHEN 2 THEN Y = a;    a number has a lowest bit
    ∷ (when_then 1 (number 6 2) (assign 13 (name 13 "Y") 15 (name 17 "a")) ∷ [], [])
    -- WHEN a THEN WHEN b THEN WHEN a THEN Y = a; ELSE Y := b; ELSE a = b;    three deep: the inner refusals in order
    ∷ (when_else 1 (name 6 "a") (when_then 13 (name 18 "b") (when_else 25 (name 30 "a") (assign 37 (name 37 "Y") 39 (name 41 "a")) (clocked 49 (name 49 "Y") 51 (name 54 "b")))) (assign 62 (name 62 "a") 64 (name 66 "b")) ∷ [], MixedAssignment (at 49) 2 ∷ NotAnOutput (at 62) (Some 0) ∷ [])
    ∷ [])
values = refl
