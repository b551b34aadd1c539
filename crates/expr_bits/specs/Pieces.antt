-- Private: parts of the formulas of sums and relations, as the code makes them one after another (this project's rule).
use Rattle.expr_bits.specs.Prelude.{Made, ◌>>=◌, make_not, make_and, make_or, make_xor, Formula, Const, ExprId, Word, less_bit, less_bits, equal_bits}
use Rattle.expr_bits.specs.declared.pieces.Relation.{Relation}
use Rattle.expr_bits.specs.declared.pieces.Relation.TheVariants as relation
use Rattle.std.specs.Prelude.{false, true}

-- !(x $ y)
abbrev pub same_of : (x y : Formula) → Made Formula
same_of x y = make_xor x y >>= make_not

-- !x & y
abbrev pub under_of : (x y : Formula) → Made Formula
under_of x y = make_not x >>= λ m. make_and m y

-- !x # y
abbrev pub upto_of : (x y : Formula) → Made Formula
upto_of x y = make_not x >>= λ n. make_or n y

-- p # q & other
abbrev pub or_and_of : (p q other : Formula) → Made Formula
or_and_of p q other = make_and q other >>= λ r. make_or p r

-- ---- relations

-- what is found of two words without positions
abbrev pub start_id : Relation → ExprId
start_id relation.Less = record { 0 = 0 }
start_id relation.Equal = record { 0 = 1 }

abbrev pub start_of : Relation → Formula
start_of relation.Less = Const false
start_of relation.Equal = Const true

-- one position more
abbrev pub relation_step : Relation → (x y found : Formula) → Made Formula
relation_step relation.Less x y found = less_bit x y found
relation_step relation.Equal x y found = same_of x y >>= make_and found

-- all positions, given what was found before
abbrev pub relation_steps : Relation → (found : Formula) → Word → Word → Made Formula
relation_steps relation.Less found xs ys = less_bits found xs ys
relation_steps relation.Equal found xs ys = equal_bits found xs ys
