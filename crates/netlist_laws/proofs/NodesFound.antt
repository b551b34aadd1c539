-- The function of a node in the netlist of a design is that of the signal with its number.
use Rattle.std.proofs.Common.{◌≡◌, ℕ, zero, suc, ◌+◌, Bool, true, false, ◌==◌, cond, List, [], ◌∷◌, length, get_or, Option, Some, refl, sym, ap, ◌∙◌, inl, inr, arith, slice_get, is_some, nat_lt, unwrap_or}
use Rattle.netlist_laws.proofs.Common.{position_from, option_map, eq-eqb, ne_eqb, lt-ltb, le-ltb, cases_lt, Formula, Kind, APin, ANode, AConstant, ADeviceName, Entry, Contribution, Context, formulas, Function, function_of, is_node_number, node_signal, and_node, nodes_from, gathered_from}
use Rattle.netlist_laws.proofs.CellsFound.{first_place}

-- a node has this number
abbrev pub NumberIs : ℕ → Kind → Type 0
NumberIs n (ANode other) = other ≡ n
NumberIs n _ = Unit {0}

-- the number of the next node
abbrev pub next_number : ℕ → Kind → ℕ
next_number n (ANode other) = suc n
next_number n _ = n

-- the nodes of the list have the numbers from this one on, in order
abbrev pub AreNumbered : ℕ → List Entry → Type 0
AreNumbered n [] = Unit {0}
AreNumbered n (x ∷ xs) = NumberIs n x.kind × AreNumbered (next_number n x.kind) xs

module _ (d : Context) (cs : List (Contribution Formula)) where
  -- the function of the signal of a number
  abbrev pub function_here : ℕ → Function Formula
  function_here s = function_of (formulas d) cs s

  abbrev has_number : ℕ → Entry → Bool
  has_number n x = is_node_number n x.kind

  abbrev place : ℕ → ℕ → List Entry → Option ℕ
  place n s xs = position_from (has_number n) s xs

  onward : (n s : ℕ) (xs : List Entry) → place n (suc s) xs ≡ place n (s + 1) xs
  onward n s xs = ap (λ i. place n i xs) (omega arith)

  by_kind : (n k s : ℕ) (kind : Kind) (xs : List Entry) → NumberIs n kind
      → ((j : ℕ) → slice_get (nodes_from d cs (suc s) xs) j ≡ option_map function_here (place (next_number n kind + j) (suc s) xs))
      → slice_get (and_node kind (function_here s) (nodes_from d cs (suc s) xs)) k
      ≡ option_map function_here (cond (is_node_number (n + k) kind) (Some s) (place (n + k) (s + 1) xs))
  by_kind n k s (APin pin negated) xs is rest = rest k ∙ ap (λ r. option_map function_here r) (onward (n + k) s xs)
  by_kind n k s (AConstant value) xs is rest = rest k ∙ ap (λ r. option_map function_here r) (onward (n + k) s xs)
  by_kind n k s ADeviceName xs is rest = rest k ∙ ap (λ r. option_map function_here r) (onward (n + k) s xs)
  by_kind n zero s (ANode other) xs is rest =
      let hit : (other == (n + 0)) ≡ true = eq-eqb other (n + 0) (omega (arith, is)) in
      rw hit refl
  by_kind n (suc j) s (ANode other) xs is rest =
      let miss : (other == (n + suc j)) ≡ false = ne_eqb other (n + suc j) (λ e. omega (arith, is, e)) in
      rw miss (rest j ∙ ap (λ i. option_map function_here (place i (suc s) xs)) (omega arith) ∙ ap (λ r. option_map function_here r) (onward (n + suc j) s xs))

  found_from : (n s k : ℕ) (xs : List Entry) → AreNumbered n xs → slice_get (nodes_from d cs s xs) k ≡ option_map function_here (place (n + k) s xs)
  found_from n s k [] all = refl
  found_from n s k (x ∷ xs) all = by_kind n k s x.kind xs all.0 (λ j. found_from (next_number n x.kind) (suc s) j xs all.1)

  -- the function of each node
  pub node_found : (k : ℕ) → AreNumbered 0 d.names → slice_get (gathered_from d cs).nodes k ≡ option_map function_here (node_signal d k)
  node_found k all =
      found_from 0 0 k d.names all
      ∙ ap (λ i. option_map function_here (place i 0 d.names)) (omega arith)
      ∙ ap (λ r. option_map function_here r) (sym (first_place (has_number k) d.names))

longer : (a b : ℕ) → nat_lt (suc a) (suc b) ≡ nat_lt a b
longer a b =
    elim (cases_lt a b) [
      | inl less ↦ lt-ltb (suc a) (suc b) (omega (arith, less)) ∙ sym (lt-ltb a b less)
      | inr more ↦ le-ltb (suc a) (suc b) (omega (arith, more)) ∙ sym (le-ltb a b more)
    ]

-- the element of a number is there just if the list is longer
pub there : {X : Type 0} (xs : List X) (k : ℕ) → nat_lt k (length xs) ≡ is_some (slice_get xs k)
there [] k = le-ltb k 0 (omega arith)
there (x ∷ xs) zero = lt-ltb 0 (length (x ∷ xs)) (omega arith)
there (x ∷ xs) (suc k) = longer k (length xs) ∙ there xs k

-- and then it is the one
pub taken : {X : Type 0} (xs : List X) (k : ℕ) (other : X) → get_or xs k other ≡ unwrap_or (slice_get xs k) other
taken [] k other = refl
taken (x ∷ xs) zero other = refl
taken (x ∷ xs) (suc k) other = taken xs k other
