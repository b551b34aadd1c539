-- Counts over numbers in a row, one more at a time.
use Rattle.std.proofs.Common.{◌≡◌, ℕ, zero, suc, ◌+◌, ◌<◌, ◌≤◌, Bool, true, false, cond, List, length, Option, None, Some, refl, sym, ap, ◌∙◌, arith, is_some}
use Rattle.reports.proofs.Common.{count_by, range_with_len, sum_by, option_map, map-id, Netlist, arena, Wanted, plain_netlist, plain_wanted, wanted_at, cell_wanted, wanted_is, SummaryCountsTheDesign, assigned_cells}
use mir.Val.{bool_byte}
use Rattle.std.proofs.lemmas.List.FromFn.{sum_by-map-range_with_len_more}
use Rattle.abel_meaning.specs.Controls.{signal_on}
use Rattle.abel_meaning.specs.Designs.{design_of}
use Rattle.abel_meaning.specs.SignalReads.{given_formulas}
use Rattle.netlist_laws.proofs.CellsFound.{wanted_found, wanted_here}
use Rattle.netlist_laws.specs.Gathered.{netlist_of}

-- what a Bool counts for
abbrev pub counted : Bool → ℕ
counted b = cond b 1 0

pub counted_is : (b : Bool) → bool_byte b ≡ counted b
counted_is true = refl
counted_is false = refl

pub counted_most : (b : Bool) → counted b ≤ 1
counted_most true = omega arith
counted_most false = omega arith

pub sum_next : (f : ℕ → ℕ) (a n : ℕ) → sum_by f (range_with_len a (n + 1)) ≡ sum_by f (range_with_len a n) + f (a + n)
sum_next f a n =
    ap (sum_by f) (sym (map-id (range_with_len a (n + 1))))
    ∙ (sum_by-map-range_with_len_more f (λ (x : ℕ). x) a n (a + n) refl
    ∙ ap (λ (xs : List ℕ). sum_by f xs + f (a + n)) (map-id (range_with_len a n)))

pub count_next : (p : ℕ → Bool) (a n : ℕ) → count_by p (range_with_len a (n + 1)) ≡ count_by p (range_with_len a n) + counted (p (a + n))
count_next p a n = sum_next (λ x. counted (p x)) a n

-- one number more, which counts if it passes
pub one_more : (p : ℕ → Bool) (a n k count used : ℕ) (b : Bool) → a + n ≡ k → count ≡ count_by p (range_with_len a n) → used ≡ counted b → b ≡ p k → count + used ≡ count_by p (range_with_len a (n + 1))
one_more p a n k count used b at before is here =
    let same : counted b ≡ counted (p (a + n)) = ap counted (here ∙ ap p (sym at)) in
    omega (arith, before, is, same, count_next p a n)

-- counts of tests that agree on each number
pub count_same : (p q : ℕ → Bool) (a n : ℕ) → ((k : ℕ) → a ≤ k → k < a + n → p k ≡ q k) → count_by p (range_with_len a n) ≡ count_by q (range_with_len a n)
count_same p q a zero same = refl
count_same p q a (suc n) same =
    let whole : suc n ≡ n + 1 = omega arith in
    let before = count_same p q a n (λ k low high. same k low (omega (arith, high))) in
    let last : counted (p (a + n)) ≡ counted (q (a + n)) = ap counted (same (a + n) (omega arith) (omega arith)) in
    ap (λ m. count_by p (range_with_len a m)) whole ∙ (omega (arith, before, last, count_next p a n, count_next q a n) ∙ ap (λ m. count_by q (range_with_len a m)) (sym whole))

some_map : {X Y : Type 0} (f : X → Y) (o : Option X) → is_some (option_map f o) ≡ is_some o
some_map f None = refl
some_map f (Some x) = refl

pub wanted_some : (net : Netlist) (c : ℕ) → is_some (wanted_at (plain_netlist net) c) ≡ is_some (cell_wanted net c)
wanted_some net c = ap (λ (o : Option Wanted). is_some o) (wanted_is net c) ∙ some_map (plain_wanted (arena net.exprs)) (cell_wanted net c)

pub counts_the_design : SummaryCountsTheDesign
unfolding assigned_cells
counts_the_design t m net laws is =
    ap (assigned_cells t) is
    ∙ count_same (λ c. is_some (wanted_at (netlist_of t m) c)) (λ c. is_some (signal_on (design_of t m).context c)) 0 (length t.cells)
    (λ c low high. ap (λ (o : Option Wanted). is_some o) (wanted_found (design_of t m).context (given_formulas (design_of t m)) laws c (omega (arith, high)))
    ∙ some_map (wanted_here (design_of t m).context (given_formulas (design_of t m)) laws c (omega (arith, high))) (signal_on (design_of t m).context c))
