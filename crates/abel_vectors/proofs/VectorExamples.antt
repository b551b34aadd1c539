-- What is refused of test vectors, by computation. a is pin 1, b is !pin 2, e pin 3, n a node, k is .C., z is .Z.
use Rattle.abel_vectors.proofs.Common.{Place, Kind, APin, ANode, AConstant, Entry, Tree, ANumber, ASpecial, AName, ASet, AParen, SetMember, OneMember, members_of, RowTree, SomeVectors, Context, context_of, SectionFault, MisplacedSpecial, BadVector, vectors_refused}
use Prim.Native.String.{String}
use Rattle.std.proofs.Common.{◌≡◌, ℕ, true, false, None, Some, List, [], ◌∷◌, codes, refl}
use Rattle.pld_device.specs.SampleTable.{sample}
use Rattle.abel_tree.specs.declared.words.Extension.TheVariants as extension
use Rattle.abel_tree.specs.declared.words.Word.{Word}
use Rattle.abel_meaning.specs.Declarations.{no_words}

abbrev at : ℕ → Place
at l = record { line = l; column = 1 }

abbrev word : String → Word
word text = record { text = codes text; place = at 1 }

abbrev number : ℕ → Tree
number n = ANumber (record { value = n; place = at 1 })

abbrev name : String → Tree
name text = AName (word text) None

abbrev ones : List Tree → List SetMember
ones [] = []
ones (t ∷ ts) = OneMember t ∷ ones ts

abbrev set : List Tree → Tree
set ts = ASet (at 1) (members_of (ones ts)) None

-- .X., .C. and .Z.
abbrev unknown : Tree
unknown = ASpecial 88 (at 1)

abbrev pulse : Tree
pulse = ASpecial 67 (at 1)

abbrev release : Tree
release = ASpecial 90 (at 1)

abbrev declared : String → Kind → Entry
declared text kind = record { name = codes text; place = at 1; kind = kind; words = no_words; assigned = false }

abbrev names : List Entry
names =
    declared "a" (APin 1 false) ∷ declared "b" (APin 2 true) ∷ declared "e" (APin 3 false) ∷ declared "n" (ANode 0)
    ∷ declared "k" (AConstant (AParen (at 1) pulse)) ∷ declared "z" (AConstant release) ∷ []

abbrev design : Context
design = context_of sample names

-- a row on this line
abbrev row : ℕ → (inputs outputs : Tree) → RowTree
row l inputs outputs = record { place = at l; inputs = inputs; clocked = false; outputs = outputs }

-- a header on line 2 and its rows, after so many vectors
abbrev refused_behind : (before : ℕ) → (inputs outputs : Tree) → List RowTree → List SectionFault
refused_behind before inputs outputs rows = vectors_refused design before (SomeVectors None (at 2) inputs outputs rows)

abbrev refused : (inputs outputs : Tree) → List RowTree → List SectionFault
refused inputs outputs rows = refused_behind 0 inputs outputs rows

abbrev two : String → String → Tree
two x y = set (name x ∷ name y ∷ [])

-- ([a,b] -> e) [0,1] -> 1; [k,0] -> z; 3 -> .X.;
accepted : refused (two "a" "b") (name "e")
    (row 3 (set (number 0 ∷ number 1 ∷ [])) (number 1) ∷ row 4 (set (name "k" ∷ number 0 ∷ [])) (name "z")
    ∷ row 5 (number 3) unknown ∷ [])
    ≡ []
accepted = refl

-- ([a,.X.] -> e): a position that is X is dropped, and .C. at it is passed over
dropped : refused (name "e") (set (name "a" ∷ unknown ∷ [])) (row 3 (number 0) (set (number 1 ∷ pulse ∷ [])) ∷ []) ≡ []
dropped = refl

-- ([a,n] -> e), (a.PIN -> e) and (a -> 1) name what is no pin
node_header : refused (two "a" "n") (name "e") (row 3 (number 0) (number 0) ∷ []) ≡ BadVector (at 2) ∷ []
node_header = refl

extended_header : refused (AName (word "a") (Some extension.Pin)) (name "e") [] ≡ BadVector (at 2) ∷ []
extended_header = refl

number_header : refused (name "a") (number 1) [] ≡ BadVector (at 2) ∷ []
number_header = refl

-- .C. is in rows alone
pulse_header : refused (name "k") (name "e") [] ≡ MisplacedSpecial (at 1) ∷ []
pulse_header = refl

-- (a -> e) 0 -> .C.;
tested_pulse : refused (name "a") (name "e") (row 3 (number 0) pulse ∷ []) ≡ BadVector (at 3) ∷ []
tested_pulse = refl

-- (a -> a) 0 -> 0; is driven and tested, .X. -> 0; is tested alone
driven_and_tested : refused (name "a") (name "a") (row 3 (number 0) (number 0) ∷ row 4 unknown (number 0) ∷ [])
    ≡ BadVector (at 3) ∷ []
driven_and_tested = refl

-- ([a,a] -> e) [0,0] -> 1; agree, [0,1] -> 1; differ
twice : refused (two "a" "a") (name "e")
    (row 3 (set (number 0 ∷ number 0 ∷ [])) (number 1) ∷ row 4 (set (number 0 ∷ number 1 ∷ [])) (number 1) ∷ [])
    ≡ BadVector (at 4) ∷ []
twice = refl

-- the signals a and e are no constants, [1] has too few members
signal : refused (two "a" "b") (name "e") (row 3 (name "e") (number 1) ∷ row 4 (set (number 1 ∷ [])) (name "a") ∷ [])
    ≡ BadVector (at 3) ∷ BadVector (at 4) ∷ BadVector (at 4) ∷ []
signal = refl

-- after 9,998 vectors there is room for one
ten_thousandth : refused_behind 9998 (name "a") (name "e") (row 3 (number 0) (number 0) ∷ row 4 (number 0) (number 0) ∷ [])
    ≡ BadVector (at 4) ∷ []
ten_thousandth = refl
