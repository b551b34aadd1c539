-- No fuse of a fitted netlist is opened past those that the lines of a file name.
use Rattle.std.proofs.Common.{◌≡◌, ℕ, suc, ◌+◌, ◌*◌, ◌==◌, ◌≤◌, nat_lt, Bool, true, false, ◌||◌, if◌then◌else◌, List, [], ◌∷◌, refl, ◌∙◌, arith, get_or, drop}
use Rattle.netlist_laws.proofs.Common.{list_any, get_or-drop, control_fuses, Table, has, PlainNetlist, IsFitted}
use Rattle.std.proofs.lemmas.Bool.Decides.{nat_tests}
use Rattle.jedec_file.specs.ControlLines.{past, lines_end, IsIntactPastLines}

-- a list of which no entry is true
none_on : (xs : List Bool) → ((i : ℕ) → get_or xs i false ≡ false) → list_any (λ (fuse : Bool). fuse) xs ≡ false
none_on [] off = refl
none_on (true ∷ xs) off = let first : true ≡ false = off 0 in absurd cc
none_on (false ∷ xs) off = none_on xs (λ i. off (suc i))

or_none : (a b : Bool) → a ≡ false → b ≡ false → (a || b) ≡ false
or_none false false e f = refl
or_none true b e f = absurd cc
or_none false true e f = absurd cc

-- nothing past the greatest is in the list
past_not_in : (ns : List ℕ) (n : ℕ) → past ns ≤ n → has ns n ≡ false
past_not_in [] n le = refl
past_not_in (m ∷ ns) n le = or_none (n == m) (has ns n) (head (nat_lt m (past ns)) refl le) (past_not_in ns n (tail (nat_lt m (past ns)) refl le))
  where
    head : (b : Bool) → nat_lt m (past ns) ≡ b → (if b then past ns else suc m) ≤ n → (n == m) ≡ false
    head true e l = grind (arith, nat_tests)
    head false e l = grind (arith, nat_tests)

    tail : (b : Bool) → nat_lt m (past ns) ≡ b → (if b then past ns else suc m) ≤ n → past ns ≤ n
    tail true e l = l
    tail false e l = grind (arith, nat_tests)

-- both ends of the lines are at or before their end
ends : (a b : ℕ) (c : Bool) → nat_lt a b ≡ c → (a ≤ (if c then b else a)) × (b ≤ (if c then b else a))
ends a b true e = (grind (arith, nat_tests), grind (arith, nat_tests))
ends a b false e = (grind (arith, nat_tests), grind (arith, nat_tests))

pub fitted_intact : (t : Table) (net : PlainNetlist) (fuses : List Bool) → IsFitted t net fuses → IsIntactPastLines t fuses
fitted_intact t net fuses fitted =
    none_on (drop (lines_end t) fuses)
    (λ i. get_or-drop (lines_end t) fuses i false
    ∙ fitted.others (lines_end t + i) (first i) (past_not_in (control_fuses t) (lines_end t + i) (second i)))
  where
    both : (t.columns * t.rows ≤ lines_end t) × (past (control_fuses t) ≤ lines_end t)
    both = ends (t.columns * t.rows) (past (control_fuses t)) (nat_lt (t.columns * t.rows) (past (control_fuses t))) refl

    first : (i : ℕ) → t.columns * t.rows ≤ lines_end t + i
    first i = omega (arith, both.0)

    second : (i : ℕ) → past (control_fuses t) ≤ lines_end t + i
    second i = omega (arith, both.1)
