-- How products are inserted into a list, up to 1,024 of them, and how lists of a sum and of a product are made (this
-- project's rule; that a product that lies in another adds nothing is absorption in switching algebra).
use Rattle.std.specs.Prelude.{Bool, not, ◌||◌, nat_lt, if◌then◌else◌, List, [], ◌∷◌, ◌++◌, length, filter, Option, Some, None}
use Rattle.sop_lowering.specs.Prelude.{list_any, Cube, is_empty, lies_in, union}

-- a list of products; none if it or a list on the way to it would pass 1,024
abbrev pub Products : Type 0
Products = Option (List Cube)

-- inserting the product changes nothing: it has no point, or all its points are in one product of the list
abbrev pub adds_nothing : List Cube → Cube → Bool
adds_nothing rows c = is_empty c || list_any (lies_in c) rows

-- the products that do not lie in it
abbrev pub others : List Cube → Cube → List Cube
others rows c = filter (λ d. not (lies_in d c)) rows

-- the list with one more at its end; none if that is the 1,025th
abbrev pub appended : List Cube → Cube → Products
appended rows c = if nat_lt (length rows) 1024 then Some (rows ++ c ∷ []) else None

-- the list with a product inserted
abbrev pub insert_one : Products → Cube → Products
insert_one None c = None
insert_one (Some rows) c = if adds_nothing rows c then Some rows else appended (others rows c) c

-- with each of a list inserted in turn
abbrev pub insert_all : Products → List Cube → Products
insert_all found [] = found
insert_all found (c ∷ cs) = insert_all (insert_one found c) cs

-- with the union of a product with each of a list inserted
abbrev pub insert_unions : Products → Cube → List Cube → Products
insert_unions found c [] = found
insert_unions found c (d ∷ ds) = insert_unions (insert_one found (union c d)) c ds

-- with the union of each of one list with each of another
abbrev pub insert_products : Products → List Cube → List Cube → Products
insert_products found [] ds = found
insert_products found (c ∷ cs) ds = insert_products (insert_unions found c ds) cs ds

-- none stays none
abbrev pub then_list : Products → (List Cube → Products) → Products
then_list None f = None
then_list (Some rows) f = f rows

-- the list of a sum: the first list, each product of the second inserted
abbrev pub sum_of : Products → Products → Products
sum_of a b = then_list a (λ xs. then_list b (λ ys. insert_all (Some xs) ys))

-- the list of a product: for each of the first list, for each of the second, their union inserted
abbrev pub product_of : Products → Products → Products
product_of a b = then_list a (λ xs. then_list b (λ ys. insert_products (Some []) xs ys))
