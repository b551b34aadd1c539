-- An expression from its first operand and the operators after it, each with its right side.
use Rattle.std.proofs.Common.{◌≡◌, ℕ, ◌<◌, ◌≤◌, List, [], ◌∷◌, ◌++◌, map, refl, sym, ap, ◌∙◌, arith, rules, Bor}
use Rattle.pld_base.specs.declared.place.Place.{Place}
use Rattle.abel_tree.specs.declared.words.Binary.{Binary}
use Rattle.abel_tree.specs.declared.expressions.Expr.{Expr, size-Expr, the_lemmas}
use Rattle.abel_tree.specs.declared.expressions.Expr as expr

-- an operator with its place and its right side
abbrev pub Link : Type 0
Link = Binary × Place × Expr

-- the last operator of the list is the innermost
abbrev pub regrown : Expr → List Link → Expr
regrown e [] = e
regrown e (x ∷ xs) = expr.Binary x.0 x.1 (regrown e xs) x.2

-- each right side is less deep than this
abbrev pub EachBelow : ℕ → List Link → Type 0
EachBelow n [] = Unit {0}
EachBelow n (x ∷ xs) = (size-Expr x.2 < n) × EachBelow n xs

-- an operator whose right side is read elsewhere
abbrev pub seen : Binary × Place × Bor Expr → Link
seen x = (x.0, x.1, x.2.now)

-- what is at hand and what is on the list make up the whole
pub record Regrows (e : Expr) (xs : List Link) (whole : Expr) : Type 0 where
  pub same : regrown e xs ≡ whole
  pub below : EachBelow (size-Expr whole) xs

regrown_push : (e : Expr) (xs : List Link) (s : Binary) (p : Place) (r : Expr) → regrown e (xs ++ (s, p, r) ∷ []) ≡ regrown (expr.Binary s p e r) xs
regrown_push e [] s p r = refl
regrown_push e (x ∷ xs) s p r = ap (λ (l : Expr). expr.Binary x.0 x.1 l x.2) (regrown_push e xs s p r)

below_push : (n : ℕ) (xs : List Link) (y : Link) → EachBelow n xs → size-Expr y.2 < n → EachBelow n (xs ++ y ∷ [])
below_push n [] y b h = (h, tt)
below_push n (x ∷ xs) y b h = (b.0, below_push n xs y b.1 h)

below_pop : (n : ℕ) (xs : List Link) (y : Link) → EachBelow n (xs ++ y ∷ []) → (size-Expr y.2 < n) × EachBelow n xs
below_pop n [] y b = (b.0, tt)
below_pop n (x ∷ xs) y b = let p = below_pop n xs y b.1 in (p.0, (b.0, p.1))

right_below : (s : Binary) (p : Place) (l r : Expr) → size-Expr r < size-Expr (expr.Binary s p l r)
right_below s p l r = search (rules, the_lemmas)

left_below : (s : Binary) (p : Place) (l r : Expr) → size-Expr l < size-Expr (expr.Binary s p l r)
left_below s p l r = search (rules, the_lemmas)

-- one operator further down
pub goes_down : (s : Binary) (p : Place) (l r : Expr) (xs : List Link) (whole : Expr) → Regrows (expr.Binary s p l r) xs whole → size-Expr (expr.Binary s p l r) ≤ size-Expr whole
    → Regrows l (xs ++ (s, p, r) ∷ []) whole × (size-Expr l ≤ size-Expr whole)
goes_down s p l r xs whole g le = (
  record {
    same = regrown_push l xs s p r ∙ g.same;
    below = below_push (size-Expr whole) xs (s, p, r) g.below (omega (arith, le, right_below s p l r));
  },
  omega (arith, le, left_below s p l r),
)

-- one operator back up
pub goes_up : (s : Binary) (p : Place) (e r : Expr) (xs : List Link) (whole : Expr) → Regrows e (xs ++ (s, p, r) ∷ []) whole → Regrows (expr.Binary s p e r) xs whole × (size-Expr r < size-Expr whole)
goes_up s p e r xs whole g =
    let b = below_pop (size-Expr whole) xs (s, p, r) g.below in
    (record { same = sym (regrown_push e xs s p r) ∙ g.same; below = b.1 }, b.0)
