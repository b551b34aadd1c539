-- Operators in a row: the names of their right sides follow those of the first operand.
use Rattle.std.proofs.Common.{◌≡◌, ℕ, ◌<◌, ◌≤◌, List, [], ◌∷◌, ◌++◌, Option, sym, ap, ◌∙◌, arith, rules, append_assoc, Bor}
use Rattle.name_uses.proofs.Common.{append-nil, Place, Extension, Expr, size-Expr, the_lemmas, Tree, ABinary, SetMember, view, expr_layer, member_layer, UsedName, names_used}
use Rattle.abel_tree.specs.declared.words.Binary.{Binary}
use Rattle.abel_tree.specs.declared.expressions.Expr as expr
use Rattle.abel_tree.specs.declared.expressions.Expr.TheFolds.{fold-roll-Expr}
use Rattle.abel_tree.specs.declared.expressions.Expr.TheOpen as open_expr

-- the names of the right sides, the innermost operator's last
abbrev pub rights_used : Option Extension → List Expr → List UsedName
rights_used o [] = []
rights_used o (e ∷ es) = rights_used o es ++ names_used o (view e)

abbrev pub EachBelow : ℕ → List Expr → Type 0
EachBelow n [] = Unit {0}
EachBelow n (e ∷ es) = (size-Expr e < n) × EachBelow n es

-- a right side that is read elsewhere
abbrev pub expr_at : Bor Expr → Expr
expr_at r = r.now

-- what is at hand and the right sides after it are the whole
pub record Unrolls (o : Option Extension) (e : Expr) (rights : List Expr) (whole : Expr) : Type 0 where
  pub same : names_used o (view e) ++ rights_used o rights ≡ names_used o (view whole)
  pub below : EachBelow (size-Expr whole) rights

right_below : (s : Binary) (p : Place) (l r : Expr) → size-Expr r < size-Expr (expr.Binary s p l r)
right_below s p l r = search (rules, the_lemmas)

left_below : (s : Binary) (p : Place) (l r : Expr) → size-Expr l < size-Expr (expr.Binary s p l r)
left_below s p l r = search (rules, the_lemmas)

rights_push : (o : Option Extension) (rs : List Expr) (r : Expr) → rights_used o (rs ++ r ∷ []) ≡ names_used o (view r) ++ rights_used o rs
rights_push o [] r = sym (append-nil (names_used o (view r)))
rights_push o (x ∷ rs) r = ap (λ us. us ++ names_used o (view x)) (rights_push o rs r) ∙ append_assoc (names_used o (view r)) (rights_used o rs) (names_used o (view x))

below_push : (n : ℕ) (rs : List Expr) (r : Expr) → EachBelow n rs → size-Expr r < n → EachBelow n (rs ++ r ∷ [])
below_push n [] r b h = (h, tt)
below_push n (x ∷ rs) r b h = (b.0, below_push n rs r b.1 h)

pub below_pop : (n : ℕ) (rs : List Expr) (r : Expr) → EachBelow n (rs ++ r ∷ []) → (size-Expr r < n) × EachBelow n rs
below_pop n [] r b = (b.0, tt)
below_pop n (x ∷ rs) r b = let p = below_pop n rs r b.1 in (p.0, (b.0, p.1))

view_binary : (s : Binary) (p : Place) (l r : Expr) → view (expr.Binary s p l r) ≡ ABinary s p (view l) (view r)
unfolding expr.roll-Expr denote.Hole.Carrier.roll
view_binary s p l r = fold-roll-Expr Tree SetMember expr_layer member_layer (open_expr.Binary s p l r)

pub binary_uses : (o : Option Extension) (s : Binary) (p : Place) (l r : Expr) → names_used o (view (expr.Binary s p l r)) ≡ names_used o (view l) ++ names_used o (view r)
binary_uses o s p l r = ap (names_used o) (view_binary s p l r)

pub goes_down : (o : Option Extension) (s : Binary) (p : Place) (l r : Expr) (rs : List Expr) (whole : Expr) → Unrolls o (expr.Binary s p l r) rs whole → size-Expr (expr.Binary s p l r) ≤ size-Expr whole
    → Unrolls o l (rs ++ r ∷ []) whole × (size-Expr l ≤ size-Expr whole)
goes_down o s p l r rs whole u le = (
  record {
    same = ap (λ us. names_used o (view l) ++ us) (rights_push o rs r) ∙ (sym (append_assoc (names_used o (view l)) (names_used o (view r)) (rights_used o rs)) ∙ (ap (λ v. names_used o v ++ rights_used o rs) (sym (view_binary s p l r)) ∙ u.same));
    below = below_push (size-Expr whole) rs r u.below (omega (arith, le, right_below s p l r));
  },
  omega (arith, le, left_below s p l r),
)

-- one right side more is listed
pub goes_up : (o : Option Extension) (rs : List Expr) (r : Expr) (us all : List UsedName) → us ++ rights_used o (rs ++ r ∷ []) ≡ all → (us ++ names_used o (view r)) ++ rights_used o rs ≡ all
goes_up o rs r us all e = append_assoc us (names_used o (view r)) (rights_used o rs) ∙ (ap (λ vs. us ++ vs) (sym (rights_push o rs r)) ∙ e)
