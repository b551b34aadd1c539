-- Operators in a row, from their first operand on: the whole that they make up, and that each right side lies less deep.
use Rattle.std.proofs.Common.{◌≡◌, ◌<◌, ◌≤◌, List, [], ◌∷◌, ◌++◌, refl, sym, ap, subst, ◌∙◌, arith, rules, Bor}
use Rattle.set_expr.proofs.Common.{Place, Binary, Expr, size-Expr, the_lemmas, view, Entry, NameFound, names_found, found_of, Table, IsKnown, SumsUp, Found, found_both}
use Rattle.abel_tree.specs.declared.expressions.Expr as expr
use Rattle.set_expr.specs.declared.checked.Checked.{Checked}

-- an operator with its place and its right side
abbrev pub Link : Type 0
Link = Binary × Place × Expr

-- an operator whose right side is read elsewhere
abbrev pub seen : Binary × Place × Bor Expr → Link
seen x = (x.0, x.1, x.2.now)

-- a first operand with the operators after it, the innermost the last of the list
abbrev pub built : Expr → List Link → Expr
built e [] = e
built e (x ∷ xs) = expr.Binary x.0 x.1 (built e xs) x.2

built_push : (e : Expr) (xs : List Link) (s : Binary) (p : Place) (r : Expr) → built e (xs ++ (s, p, r) ∷ []) ≡ built (expr.Binary s p e r) xs
built_push e [] s p r = refl
built_push e (x ∷ xs) s p r = ap (λ l. expr.Binary x.0 x.1 l x.2) (built_push e xs s p r)

right_below : (s : Binary) (p : Place) (l r : Expr) → size-Expr r < size-Expr (expr.Binary s p l r)
right_below s p l r = search (rules, the_lemmas)

left_below : (s : Binary) (p : Place) (l r : Expr) → size-Expr l < size-Expr (expr.Binary s p l r)
left_below s p l r = search (rules, the_lemmas)

first_below : (e : Expr) (xs : List Link) → size-Expr e ≤ size-Expr (built e xs)
first_below e [] = omega arith
first_below e (x ∷ xs) = omega (arith, first_below e xs, left_below x.0 x.1 (built e xs) x.2)

-- an operator's view
view_both : (s : Binary) (p : Place) (l r : Expr) (ns : List NameFound) → found_of ns (view (expr.Binary s p l r)) ≡ found_both s p (found_of ns (view l)) (found_of ns (view r))
view_both s p l r ns = search (rules, the_lemmas)

-- on the way down: the first operand and the operators after it make up the whole
pub record Down (first : Expr) (xs : List Link) (whole : Expr) : Type 0 where
  pub same : built first xs ≡ whole
  pub size : size-Expr first ≤ size-Expr whole

pub goes_down : (s : Binary) (p : Place) (l r : Expr) (xs : List Link) (whole : Expr) → Down (expr.Binary s p l r) xs whole → Down l (xs ++ (s, p, r) ∷ []) whole
goes_down s p l r xs whole d = record { same = built_push l xs s p r ∙ d.same; size = omega (arith, d.size, left_below s p l r) }

-- on the way up: the same, and the first operand was checked
pub record Up (known : Table) (c : Checked) (xs : List Link) (whole : Expr) : Type 0 where
  pub first : Expr
  pub same : built first xs ≡ whole
  pub sums : (es : List Entry) → IsKnown es known → SumsUp c (found_of (names_found es) (view first))

pub goes_up : (known : Table) (c o n : Checked) (xs : List Link) (s : Binary) (p : Place) (r whole : Expr) → Up known c (xs ++ (s, p, r) ∷ []) whole → ((es : List Entry) → IsKnown es known → SumsUp o (found_of (names_found es) (view r))) → ((f g : Found) → SumsUp c f → SumsUp o g → SumsUp n (found_both s p f g)) → Up known n xs whole
goes_up known c o n xs s p r whole u by both =
    record {
      first = expr.Binary s p u.first r;
      same = sym (built_push u.first xs s p r) ∙ u.same;
      sums = λ es k.
          let ns = names_found es in
          subst (λ f. SumsUp n f) (sym (view_both s p u.first r ns)) (both (found_of ns (view u.first)) (found_of ns (view r)) (u.sums es k) (by es k));
    }

pub up_right : (known : Table) (c : Checked) (xs : List Link) (s : Binary) (p : Place) (r whole : Expr) → Up known c (xs ++ (s, p, r) ∷ []) whole → size-Expr r < size-Expr whole
up_right known c xs s p r whole u =
    subst (λ e. size-Expr r < size-Expr e) (sym (built_push u.first xs s p r) ∙ u.same)
    (omega (arith, right_below s p u.first r, first_below (expr.Binary s p u.first r) xs))

pub up_whole : (known : Table) (c : Checked) (whole : Expr) → Up known c [] whole → (es : List Entry) → IsKnown es known → SumsUp c (found_of (names_found es) (view whole))
up_whole known c whole u es k = subst (λ e. SumsUp c (found_of (names_found es) (view e))) u.same (u.sums es k)
