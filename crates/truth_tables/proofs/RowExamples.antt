-- What is refused of the entries of a row, by computation; the columns are counted by hand. a, b and e are signals, c is
-- the constant [a,b], x is .X., k is .C., z is .Z., m is the constant [0,.X.].
use Rattle.std.proofs.Common.{◌≡◌, true, false, List, [], ◌∷◌, refl}
use Rattle.truth_tables.proofs.Common.{sample, Binary, APin, Entry, Tree, AParen, AUnary, ABinary, Context, context_of, term_of, SectionFault, MisplacedSpecial, NotConstant, ZeroDivisor, BadRow, entry_refused}
use Rattle.abel_tree.specs.declared.words.Binary.TheVariants as binary
use Rattle.abel_tree.specs.declared.words.Unary.TheVariants as unary
use Rattle.truth_tables.proofs.ExampleTrees.{at, constant, declared, name, number, pulse, release, set, unknown}

-- operators are at column 5
abbrev both : Binary → Tree → Tree → Tree
both sign t u = ABinary sign (at 5) t u

abbrev names : List Entry
names =
    declared "a" (APin 1 false) false ∷ declared "b" (APin 2 true) false ∷ declared "e" (APin 3 false) false
    ∷ constant "c" (set 1 (name 1 "a" ∷ name 1 "b" ∷ [])) ∷ constant "x" unknown
    ∷ constant "k" (AParen (at 1) pulse) ∷ constant "z" release
    ∷ constant "m" (set 1 (number 0 ∷ unknown ∷ [])) ∷ []

abbrev design : Context
design = context_of sample names

-- a row that begins at column 1, under a header
abbrev refused : (header entry : Tree) → List SectionFault
refused h t = entry_refused design (BadRow (at 1)) (term_of design.known h) t

-- the header [e,[a,b]]
abbrev nested : Tree
nested = set 1 (name 1 "e" ∷ name 1 "c" ∷ [])

-- 5 meets the whole header, as do .X., .C. and names of these
whole_number : refused nested (number 5) ≡ []
whole_number = refl

whole_special : refused nested unknown ≡ []
whole_special = refl

whole_pulse : refused nested (name 1 "k") ≡ []
whole_pulse = refl

-- [1,2]: 2 meets the part [a,b]
member_number : refused nested (set 1 (number 1 ∷ number 2 ∷ [])) ≡ []
member_number = refl

-- [.C.,[0,.Z.]]
member_set : refused nested (set 1 (pulse ∷ set 1 (number 0 ∷ release ∷ []) ∷ [])) ≡ []
member_set = refl

-- [1,m] by the constant [0,.X.]
by_constant : refused nested (set 1 (number 1 ∷ name 1 "m" ∷ [])) ≡ []
by_constant = refl

-- [1,0,1]: three members for two
too_many : refused nested (set 1 (number 1 ∷ number 0 ∷ number 1 ∷ [])) ≡ BadRow (at 1) ∷ []
too_many = refl

-- [1]
too_few : refused nested (set 1 (number 1 ∷ [])) ≡ BadRow (at 1) ∷ []
too_few = refl

-- [[1],2]: a set for one signal
set_for_one : refused nested (set 1 (set 1 (number 1 ∷ []) ∷ number 2 ∷ [])) ≡ BadRow (at 1) ∷ []
set_for_one = refl

-- a signal is no constant, nor is a relation, nor a & 0
signal : refused (name 1 "e") (name 1 "a") ≡ BadRow (at 1) ∷ []
signal = refl

relation : refused (name 1 "e") (both binary.Equal (number 1) (number 1)) ≡ BadRow (at 1) ∷ []
relation = refl

read : refused (name 1 "e") (both binary.And (name 1 "a") (number 0)) ≡ BadRow (at 1) ∷ []
read = refl

-- 1 + 2 is, and - 1
sum : refused nested (both binary.Plus (number 1) (number 2)) ≡ []
sum = refl

negative : refused nested (AUnary unary.Minus (at 1) (number 1)) ≡ []
negative = refl

-- what is refused inside is alone: [1 / 0], two members too few or not
divisor : refused nested (set 1 (both binary.Over (number 1) (number 0) ∷ [])) ≡ ZeroDivisor (at 5) ∷ []
divisor = refl

-- a * 2
no_number : refused (name 1 "e") (both binary.Times (name 1 "a") (number 2)) ≡ NotConstant (at 5) ∷ []
no_number = refl

-- .X. + 1 is if it may not, .C. + 1 is no constant
unknown_sum : refused (name 1 "e") (both binary.Plus unknown (number 1)) ≡ MisplacedSpecial (at 9) ∷ []
unknown_sum = refl

pulse_sum : refused (name 1 "e") (both binary.Plus pulse (number 1)) ≡ BadRow (at 1) ∷ []
pulse_sum = refl

named_pulse_sum : refused (name 1 "e") (both binary.Plus (name 1 "k") (number 1)) ≡ BadRow (at 1) ∷ []
named_pulse_sum = refl
