-- Small trees with their places, and places that go along tokens or do not, computed.
use Rattle.std.proofs.Common.{◌≡◌, ℕ, inl, inr, false, true, List, [], ◌∷◌, map, None, Some, refl, arith}
use Rattle.abel_grammar.proofs.Common.{All-nil, All-cons, All-head, All, Place, Token, Tree, AName, ABinary, Statement, AnAssign, Branch, AGoal, AnIf, ABranch, SectionTree, SomeVectors, DontCareSection, places_of_stmt, places_of_branch, places_of_section, Along, IsBefore, SectionsRise}
use Rattle.abel_lexer.specs.declared.token.TokenKind.TheVariants as kind
use Rattle.abel_tree.specs.declared.words.Sign.TheVariants as sign
use Rattle.abel_tree.specs.declared.words.Binary.TheVariants as binary

-- a place in the first line, a name there, and a token
abbrev at : ℕ → Place
at column = record { line = 1; column = column }

abbrev named : ℕ → Tree
named column = AName (record { text = []; place = record { line = 1; column = column } }) None

abbrev token_at : ℕ → Token
token_at column = record { kind = kind.Identifier; text = []; place = record { line = 1; column = column }; value = 0 }

abbrev columns : List Place → List ℕ
columns ps = map (λ p. p.column) ps

-- Y = A # B;
assigned : Statement
assigned = AnAssign (at 1) false (named 1) sign.Equal (at 3) (ABinary binary.Or (at 7) (named 5) (named 9))

places-assigned : columns (places_of_stmt assigned) ≡ 1 ∷ 1 ∷ 3 ∷ 5 ∷ 7 ∷ 9 ∷ []
unfolding assigned
places-assigned = refl

-- if a then 1 else 2, each a name here
branch : Branch
branch = AnIf (at 1) (named 4) (AGoal (at 11) (named 11) None) (ABranch (AGoal (at 18) (named 18) None))

places-branch : columns (places_of_branch branch) ≡ 1 ∷ 4 ∷ 11 ∷ 11 ∷ 18 ∷ 18 ∷ []
unfolding branch
places-branch = refl

-- test_vectors 'note' (a -> b) c -> d;
vectors : SectionTree
vectors = SomeVectors (Some (record { text = []; place = at 14 })) (at 21) (named 22) (named 27)
    (record { place = at 30; inputs = named 30; clocked = false; outputs = named 35 } ∷ [])

places-vectors : columns (places_of_section vectors) ≡ 14 ∷ 21 ∷ 22 ∷ 27 ∷ 30 ∷ 30 ∷ 35 ∷ []
unfolding vectors
places-vectors = refl

-- the first of two tokens twice, and not the second before it
along-twice : Along (token_at 1 ∷ token_at 3 ∷ []) (at 1 ∷ at 1 ∷ [])
along-twice = (
  at 1 ∷ at 1 ∷ [],
  [],
  refl,
  All-cons (λ (p : Place). p ≡ at 1) (at 1) (at 1 ∷ []) refl (All-cons (λ (p : Place). p ≡ at 1) (at 1) [] refl (All-nil (λ (p : Place). p ≡ at 1))),
  ([], [], refl, All-nil (λ (p : Place). p ≡ at 3), refl),
)

-- a place that no token has
along-none : Along [] (at 1 ∷ []) → ⊥
along-none h = absurd cc

-- directives as sections, the first of which is in the later line
abbrev line : ℕ → Place
line n = record { line = n; column = 1 }

abbrev before_first : Place → Type 0
before_first p = All (IsBefore p) (line 1 ∷ [])

abbrev directive : ℕ → SectionTree
directive n = DontCareSection (record { on = true; place = line n })

falling-lines : SectionsRise (directive 2 ∷ directive 1 ∷ []) → ⊥
falling-lines h = elim (All-head (IsBefore (line 2)) (line 1) [] (All-head before_first (line 2) [] h.0)) [ inl lt ↦ absurd (omega (arith, lt)) | inr e ↦ absurd (omega (arith, e.0)) ]
