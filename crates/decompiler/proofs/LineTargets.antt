-- What the contributions of a decompiled source are: each is one of its lines.
use Rattle.std.proofs.Common.{◌≡◌, ℕ, List, [], ◌∷◌, map}
use Rattle.decompiler.proofs.Common.{AllByRecursion, Leaf, Formula, Contribution, view_contribution, PinLiteral, SumLine, line_gives}

module _ (signal_of : ℕ → ℕ) (leaf_of : PinLiteral → Leaf) (Good : SumLine → Type 0) (fs : List Formula) where
  -- it is that of a good line
  pub record IsOfLine (c : Contribution) : Type 0 where
    pub line : SumLine
    pub good : Good line
    pub is : view_contribution fs c ≡ line_gives signal_of leaf_of line

  same_first : {A : Type 0} (x y : A) (xs ys : List A) → x ∷ xs ≡ y ∷ ys → x ≡ y
  same_first x y xs ys e = cc

  same_rest : {A : Type 0} (x y : A) (xs ys : List A) → x ∷ xs ≡ y ∷ ys → xs ≡ ys
  same_rest x y xs ys e = cc

  pub each_of_line : (cs : List Contribution) (ls : List SumLine) → map (view_contribution fs) cs ≡ map (line_gives signal_of leaf_of) ls → AllByRecursion Good ls
      → AllByRecursion IsOfLine cs
  each_of_line [] ls same good = tt
  each_of_line (c ∷ cs) [] same good = absurd cc
  each_of_line (c ∷ cs) (l ∷ ls) same good = (
    record { line = l; good = good.0; is = same_first (view_contribution fs c) (line_gives signal_of leaf_of l) (map (view_contribution fs) cs) (map (line_gives signal_of leaf_of) ls) same },
    each_of_line cs ls (same_rest (view_contribution fs c) (line_gives signal_of leaf_of l) (map (view_contribution fs) cs) (map (line_gives signal_of leaf_of) ls) same) good.1,
  )
