-- A list that isn't one stays none.
use Rattle.std.proofs.Common.{◌≡◌, ℕ, ◌+◌, ◌<◌, List, [], ◌∷◌, length, drop, get_or, None, Result, Err, refl}
use Rattle.sop_lowering.proofs.Common.{Cube, union, Fails, IsList, Products, insert_one, insert_all, insert_unions, insert_products}
use Rattle.std.proofs.lemmas.List.{drop_more}
use Rattle.sop_lowering.specs.declared.fault.LowerFault.{LowerFault}
use Rattle.sop_lowering.specs.declared.fault.LowerFault.TheVariants as fault

none_all : (cs : List Cube) → insert_all None cs ≡ None
none_all [] = refl
none_all (c ∷ cs) = none_all cs

none_unions : (c : Cube) (ds : List Cube) → insert_unions None c ds ≡ None
none_unions c [] = refl
none_unions c (d ∷ ds) = none_unions c ds

none_products : (cs ds : List Cube) → insert_products None cs ds ≡ None
none_products [] ds = refl
none_products (c ∷ cs) ds = rw (none_unions c ds) (none_products cs ds)

-- if one list on the way isn't one, so is the last; lack of memory says nothing
stops_with : (e : LowerFault) (one all : Products) → (one ≡ None → all ≡ None) → Fails e one → Fails e all
stops_with fault.TooWide one all f h = f h
stops_with fault.OutOfMemory one all f h = tt

-- at an exit by `?`
pub stops : {A : Type 0} (result : Result A LowerFault) (x : LowerFault) (r : A → List Cube) (one all : Products)
    → ((e : LowerFault) × (result ≡ Err e) × (e ≡ x)) → (one ≡ None → all ≡ None) → Fails x one → IsList r result all
stops result x r one all p f h = rw (p.1, p.2) (stops_with x one all f h)

stopped_all : (found : Products) (cs : List Cube) → found ≡ None → insert_all found cs ≡ None
stopped_all found cs e = rw e (none_all cs)

stopped_unions : (found : Products) (c : Cube) (cs : List Cube) → found ≡ None → insert_unions found c cs ≡ None
stopped_unions found c cs e = rw e (none_unions c cs)

stopped_products : (found : Products) (cs ds : List Cube) → found ≡ None → insert_products found cs ds ≡ None
stopped_products found cs ds e = rw e (none_products cs ds)

pub stop_all : (rows : Products) (cs : List Cube) (i : ℕ) (d : Cube) → i < length cs → insert_one rows (get_or cs i d) ≡ None → insert_all rows (drop i cs) ≡ None
stop_all rows cs i d low e = rw (drop_more cs i d low) (stopped_all (insert_one rows (get_or cs i d)) (drop (i + 1) cs) e)

pub stop_unions : (rows : Products) (c u : Cube) (cs : List Cube) (i : ℕ) (d : Cube) → i < length cs → u ≡ union c (get_or cs i d) → insert_one rows u ≡ None → insert_unions rows c (drop i cs) ≡ None
stop_unions rows c u cs i d low same e = rw (drop_more cs i d low) (stopped_unions (insert_one rows (union c (get_or cs i d))) c (drop (i + 1) cs) (rw (← same) e))

pub stop_products : (rows : Products) (cs ds : List Cube) (i : ℕ) (d : Cube) → i < length cs → insert_unions rows (get_or cs i d) ds ≡ None → insert_products rows (drop i cs) ds ≡ None
stop_products rows cs ds i d low e = rw (drop_more cs i d low) (stopped_products (insert_unions rows (get_or cs i d) ds) (drop (i + 1) cs) ds e)
