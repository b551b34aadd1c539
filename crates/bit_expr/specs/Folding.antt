-- The folding rules: what an operator over folded formulas makes, and how many nodes (this project's rule).
use Rattle.std.specs.Prelude.{ℕ, ◌+◌, Bool, true, false, not, Option, None, Some}
use Rattle.bit_expr.specs.Formulas.{Formula, Const, Not, And, Or, Xor}

-- something made, and how many nodes it took
pub record Made (A : Type 0) : Type 0 where
  pub what : A
  pub nodes : ℕ

-- something that was there
abbrev pub free : {A : Type 0} → A → Made A
free a = record { what = a; nodes = 0 }

-- something that took one node
abbrev pub fresh : {A : Type 0} → A → Made A
fresh a = record { what = a; nodes = 1 }

-- with this many nodes more
abbrev pub with_nodes : {A : Type 0} → ℕ → Made A → Made A
with_nodes n m = record { what = m.what; nodes = n + m.nodes }

-- something made of what was made, with the nodes of both
infixl 10 ◌>>=◌
abbrev pub ◌>>=◌ : {A B : Type 0} → Made A → (A → Made B) → Made B
a >>= f = with_nodes a.nodes (f a.what)

-- the complement of a formula
unfoldable pub make_not : Formula → Made Formula
make_not (Const level) = free (Const (not level))
make_not (Not f) = free f
make_not f = fresh (Not f)

-- the product of two formulas
unfoldable pub make_and : Formula → Formula → Made Formula
make_and (Const false) g = free (Const false)
make_and (Const true) g = free g
make_and f (Const false) = free (Const false)
make_and f (Const true) = free f
make_and f g = fresh (And f g)

-- the sum of two formulas
unfoldable pub make_or : Formula → Formula → Made Formula
make_or (Const true) g = free (Const true)
make_or (Const false) g = free g
make_or f (Const true) = free (Const true)
make_or f (Const false) = free f
make_or f g = fresh (Or f g)

-- the difference of two formulas; a complement that a rule gives is folded in turn
unfoldable pub make_xor : Formula → Formula → Made Formula
make_xor (Const false) g = free g
make_xor (Const true) g = make_not g
make_xor f (Const false) = free f
make_xor f (Const true) = make_not f
make_xor f g = fresh (Xor f g)

-- the level of a constant
abbrev pub constant_level : Formula → Option Bool
constant_level (Const level) = Some level
constant_level _ = None

-- what a complement is of
abbrev pub inner_of : Formula → Option Formula
inner_of (Not f) = Some f
inner_of _ = None
