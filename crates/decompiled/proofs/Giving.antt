-- Each line gives its sum to its signal.
use Rattle.std.proofs.Common.{◌≡◌, ℕ, Bool, true, false, Option, None, Some, List, [], ◌∷◌, ◌++◌, length, map, refl, ap, ◌∙◌}
use Rattle.decompiled.proofs.Common.{AllByRecursion, Leaf, make_and, Formula, Const, Extension, Tree, AName, Statement, AnAssign, statements_of, Contribution, Guard, One, Context, formulas, unguarded, Term, Read, extended_if, term_of, PinLiteral, SumLine, name_text, word, IsLine, AreLines, sum_formula, line_gives, IsKnownLine, LinesGive}
use Rattle.abel_tree.specs.declared.words.Sign.TheVariants as sign
use Rattle.abel_meaning.specs.Statements.{given_each, statement_gives, statements_give}
use Rattle.abel_meaning.specs.Targets.{targets_of}
use Rattle.decompiled.proofs.SumBits.{sums}

extended_read : (e : Option Extension) (s : ℕ) → extended_if e (Read s None) ≡ Read s e
extended_read None s = refl
extended_read (Some e) s = refl

-- a guard that always holds adds nothing
always : (f : Formula) → (make_and (Const true) f).what ≡ f
unfolding make_and
always f = refl

module _ (d : Context) (on : Bool) (signal_of : ℕ → ℕ) (leaf_of : PinLiteral → Leaf) where
  abbrev guard : Guard Formula
  guard = unguarded (formulas d) on None

  -- to one signal
  given_one : (l : SumLine) (t : Term) (word : ℕ → List Formula) (f : Formula) → t ≡ Read (signal_of l.pin) l.extension → word 1 ≡ f ∷ []
      → given_each (formulas d) d guard l.extension l.negated false One (targets_of t) (word (length (targets_of t)))
      ≡ record (line_gives signal_of leaf_of l) { holds = f } ∷ []
  given_one l t word f e w =
      ap (λ (u : Term). given_each (formulas d) d guard l.extension l.negated false One (targets_of u) (word (length (targets_of u)))) e
      ∙ ap (λ (fs : List Formula). given_each (formulas d) d guard l.extension l.negated false One (Some (signal_of l.pin) ∷ []) fs) w
      ∙ ap (λ (g : Formula). record (line_gives signal_of leaf_of l) { holds = g } ∷ []) (always f)

  line_given : (l : SumLine) (s : Statement) → IsKnownLine d signal_of leaf_of l → IsLine l s → statement_gives (formulas d) d guard s ≡ line_gives signal_of leaf_of l ∷ []
  line_given l s known is =
      let named : Tree = AName (word (name_text l.pin) is.named.0) l.extension in
      let target : term_of d.known named ≡ Read (signal_of l.pin) l.extension =
      ap (extended_if l.extension) known.target ∙ extended_read l.extension (signal_of l.pin) in
      let value = sums d leaf_of l.products is.value known.reads is.sum in
      ap (statement_gives (formulas d) d guard) is.is
      ∙ ap (λ (t : Tree). statement_gives (formulas d) d guard (AnAssign is.place l.negated t sign.Equal is.sign_place is.value)) is.named.1
      ∙ given_one l (term_of d.known named) (λ n. (formulas d).word n (term_of d.known is.value)) (sum_formula leaf_of l.products) target value

  lines_given : (ls : List SumLine) (ss : List Statement) → AllByRecursion (IsKnownLine d signal_of leaf_of) ls → AreLines ls ss
      → statements_give (formulas d) d guard (statements_of ss) ≡ map (line_gives signal_of leaf_of) ls
  lines_given [] ss known are = ap (λ (xs : List Statement). statements_give (formulas d) d guard (statements_of xs)) are
  lines_given (l ∷ ls) ss known are =
      ap (λ (xs : List Statement). statements_give (formulas d) d guard (statements_of xs)) are.4
      ∙ ap (λ (cs : List (Contribution Formula)). cs ++ statements_give (formulas d) d guard (statements_of are.1)) (line_given l are.0 known.0 are.2)
      ∙ ap (λ (cs : List (Contribution Formula)). line_gives signal_of leaf_of l ∷ cs) (lines_given ls are.1 known.1 are.3)

pub gives : LinesGive
gives d on signal_of leaf_of ls ss known are = lines_given d on signal_of leaf_of ls ss known are
