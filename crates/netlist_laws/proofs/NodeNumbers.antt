-- The nodes of a module are numbered in the order of their declarations, from 0.
use Rattle.std.proofs.Common.{◌≡◌, ℕ, suc, ◌+◌, List, [], ◌∷◌, ◌++◌, length, refl, ◌∙◌, subst, arith, map, zip, fold}
use Rattle.netlist_laws.proofs.Common.{Kind, APin, ANode, AConstant, ADeviceName, Entry, Words, Tree, Declaration, ADevice, SomePins, SomeNodes, SomeAttributes, SomeConstants, SomeOptions, DontCareFor, ModuleTree, Flip, Table}
use Rattle.abel_tree.specs.declared.words.Word.{Word}
use Rattle.abel_tree.specs.Assigned.{Assigned, named_of, sections_assign}
use Rattle.abel_tree.specs.Ranges.{numbers_of}
use Rattle.abel_meaning.specs.Declarations.{GivenName, pin_entries, node_entries, constant_entries, node_count, with_words, declared, given_names, all_said, section_declarations, declared_names}
use Rattle.abel_meaning.specs.Held.{Holds, holds_of}
use Rattle.abel_meaning.specs.Kinds.{with_kinds, names_of}
use Rattle.netlist_laws.proofs.NodesFound.{next_number, AreNumbered}

-- ---- a list after another

-- the number of the next node after a list
abbrev number_after : ℕ → List Entry → ℕ
number_after n [] = n
number_after n (x ∷ xs) = number_after (next_number n x.kind) xs

joined : (n : ℕ) (xs ys : List Entry) → AreNumbered n xs → AreNumbered (number_after n xs) ys → AreNumbered n (xs ++ ys)
joined n [] ys here there = there
joined n (x ∷ xs) ys here there = (here.0, joined (next_number n x.kind) xs ys here.1 there)

count_by : (n : ℕ) (x : Entry) (xs : List Entry) (kind : Kind) → ((m : ℕ) → number_after m xs ≡ m + node_count xs) → x.kind ≡ kind → number_after (next_number n x.kind) xs ≡ n + node_count (x ∷ xs)
count_by n x xs (ANode m) rest e = rw e (rest (suc n) ∙ omega arith)
count_by n x xs (APin pin negated) rest e = rw e (rest n)
count_by n x xs (AConstant value) rest e = rw e (rest n)
count_by n x xs ADeviceName rest e = rw e (rest n)

-- the next node has the number of those that are there
counted : (n : ℕ) (xs : List Entry) → number_after n xs ≡ n + node_count xs
counted n [] = omega arith
counted n (x ∷ xs) = count_by n x xs x.kind (λ m. counted m xs) refl

count_from : (es : List Entry) → node_count es ≡ number_after 0 es
count_from es = omega (arith, counted 0 es)

behind : (es ys : List Entry) → AreNumbered 0 es → AreNumbered (node_count es) ys → AreNumbered 0 (es ++ ys)
behind es ys here there = joined 0 es ys here (subst (λ n. AreNumbered n ys) (count_from es) there)

-- ---- what each declaration declares

pins_numbered : (n : ℕ) (words : Words) (xs : List GivenName) (numbers : List ℕ) → AreNumbered n (pin_entries words xs numbers)
pins_numbered n words [] numbers = tt
pins_numbered n words (x ∷ xs) [] = (tt, pins_numbered n words xs [])
pins_numbered n words (x ∷ xs) (k ∷ numbers) = (tt, pins_numbered n words xs numbers)

nodes_numbered : (n : ℕ) (words : Words) (xs : List GivenName) → AreNumbered n (node_entries words n xs)
nodes_numbered n words [] = tt
nodes_numbered n words (x ∷ xs) = (refl, nodes_numbered (suc n) words xs)

constants_numbered : (n : ℕ) (xs : List (Word × Tree)) → AreNumbered n (constant_entries xs)
constants_numbered n [] = tt
constants_numbered n (x ∷ xs) = (tt, constants_numbered n xs)

words_numbered : (n : ℕ) (names : List GivenName) (words : Words) (es : List Entry) → AreNumbered n es → AreNumbered n (map (with_words names words) es)
words_numbered n names words [] all = tt
words_numbered n names words (e ∷ es) all = (all.0, words_numbered (next_number n e.kind) names words es all.1)

after_one : (es : List Entry) (d : Declaration) → AreNumbered 0 es → AreNumbered 0 (declared es d)
after_one es (ADevice name text) all = behind es _ all (tt, tt)
after_one es (SomePins names numbers attributes) all = behind es _ all (pins_numbered (node_count es) (all_said attributes) (given_names names) (numbers_of (length (given_names names)) numbers))
after_one es (SomeNodes names numbers attributes) all = behind es _ all (nodes_numbered (node_count es) (all_said attributes) (given_names names))
after_one es (SomeAttributes names attributes) all = words_numbered 0 (given_names names) (all_said attributes) es all
after_one es (SomeConstants names values) all = behind es _ all (constants_numbered (node_count es) (zip names values))
after_one es (SomeOptions words) all = all
after_one es (DontCareFor directive) all = all

after_all : (es : List Entry) (ds : List Declaration) → AreNumbered 0 es → AreNumbered 0 (fold declared es ds)
after_all es [] all = all
after_all es (d ∷ ds) all = after_all (declared es d) ds (after_one es d all)

-- ---- the names of a module

kinds_numbered : (flip : Flip) (held : Holds) (found : List Assigned) (n s : ℕ) (es : List Entry) → AreNumbered n es → AreNumbered n (with_kinds flip held found s es)
kinds_numbered flip held found n s [] all = tt
kinds_numbered flip held found n s (e ∷ es) all = (all.0, kinds_numbered flip held found (next_number n e.kind) (suc s) es all.1)

pub names_numbered : (t : Table) (m : ModuleTree) → AreNumbered 0 (names_of t m)
names_numbered t m =
    kinds_numbered t.flip (holds_of (declared_names m) m.sections) (sections_assign (named_of (declared_names m)) m.sections) 0 0 (declared_names m)
    (after_all [] (m.decls ++ section_declarations m.sections) tt)
