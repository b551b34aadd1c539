-- The example's fuses fit its netlist, so the laws speak of something.
use Rattle.std.proofs.Common.{◌≡◌, ℕ, zero, suc, ◌+◌, ◌-◌, ◌<◌, ◌≤◌, Bool, true, false, not, ◌&&◌, ◌||◌, ◌==◌, List, [], ◌∷◌, length, get_or, Option, Some, None, refl, ap, sym, ◌∙◌, subst, arith, inl, inr}
use Rattle.netlist_laws.proofs.Common.{cases_Bool, cases_lt, or_cases, eqb-true, ne_eqb, true≢false, get_or_past, is_on, Levels, IsPoint, Row, Kinds, Registered, Either, control_fuses, data_rows, row_fuses, is_switched_on, row_value, sample, cell_at, has, Ranked, ranked, Formula, Const, Read, formula_value, Wanted, wanted_at, netlist_waits, signal_count, IsValuedFor, is_used, value_without, any_other, IsPrimeCover, IsExactRow, or_may_be, IsFittedCell, IsSpareCell, IsFittedAs, AreShared, IsFitted, example_cell, example, example_fuses, ExampleFits}
use Rattle.pld_device.specs.declared.fuse_bit.FuseBit.{FuseBit}
use Rattle.bit_expr.specs.declared.node.Leaf.TheVariants as leaf
use Rattle.netlist_laws.proofs.Valuing.{valued, valued_pins, is_valued}
use Rattle.netlist_laws.proofs.ExampleSound.{some_formula, none_formula, example_sound}

-- ---- points

ranks : Ranked (signal_count sample example) (netlist_waits sample example)
ranks = ranked (signal_count sample example) (netlist_waits sample example) example_sound.no_loop

zeros : ℕ → List Bool
zeros zero = []
zeros (suc n) = false ∷ zeros n

zeros_long : (n : ℕ) → length (zeros n) ≡ n
unfolding zeros
zeros_long zero = refl
zeros_long (suc n) = ap suc (zeros_long n)

-- the point at which pins 1 and 2 have these levels, and all else is 0
plain_point : Bool → Bool → Levels
plain_point one two = record { pins = false ∷ one ∷ two ∷ zeros 29; q = zeros 32; nodes = zeros 128 }

plain_is : (one two : Bool) → IsPoint (plain_point one two)
unfolding plain_point zeros
plain_is one two = record { pins = refl; q = zeros_long 32; nodes = zeros_long 128 }

point : Bool → Bool → Levels
point one two = valued sample example example_sound ranks (plain_point one two)

point_is : (one two : Bool) → IsValuedFor sample example (point one two)
unfolding point
point_is one two = is_valued sample example example_sound ranks (plain_point one two) (plain_is one two)

point_one : (one two : Bool) → is_on (point one two).pins 1 ≡ one
unfolding point plain_point
point_one one two = ap (λ xs. is_on xs 1) (valued_pins sample example example_sound ranks (plain_point one two))

point_two : (one two : Bool) → is_on (point one two).pins 2 ≡ two
unfolding point plain_point
point_two one two = ap (λ xs. is_on xs 2) (valued_pins sample example example_sound ranks (plain_point one two))

-- ---- rows

and_true : (b : Bool) → (b && true) ≡ b
and_true true = refl
and_true false = refl

or_false : (b : Bool) → (b || false) ≡ b
or_false true = refl
or_false false = refl

value_zero : (at : Levels) → row_value sample example_fuses at 0 ≡ is_on at.pins 2
value_zero at = and_true (is_on at.pins 2)

value_two : (at : Levels) → row_value sample example_fuses at 2 ≡ not (is_on at.pins 1)
value_two at = and_true (not (is_on at.pins 1))

only_row : (r row : ℕ) → has (r ∷ []) row ≡ true → row ≡ r
only_row r row there = eqb-true row r (sym (or_false (row == r)) ∙ there)

reset_column : (column : ℕ) → column < 8 → is_on (row_fuses sample example_fuses 0) column ≡ false → column ≡ 4
reset_column zero low off = absurd (true≢false off)
reset_column (suc zero) low off = absurd (true≢false off)
reset_column (suc (suc zero)) low off = absurd (true≢false off)
reset_column (suc (suc (suc zero))) low off = absurd (true≢false off)
reset_column (suc (suc (suc (suc zero)))) low off = refl
reset_column (suc (suc (suc (suc (suc zero))))) low off = absurd (true≢false off)
reset_column (suc (suc (suc (suc (suc (suc zero)))))) low off = absurd (true≢false off)
reset_column (suc (suc (suc (suc (suc (suc (suc zero))))))) low off = absurd (true≢false off)
reset_column (suc (suc (suc (suc (suc (suc (suc (suc column)))))))) low off = absurd (omega (arith, low))

enable_column : (column : ℕ) → column < 8 → is_on (row_fuses sample example_fuses 1) column ≡ false → ⊥
enable_column zero low off = true≢false off
enable_column (suc zero) low off = true≢false off
enable_column (suc (suc zero)) low off = true≢false off
enable_column (suc (suc (suc zero))) low off = true≢false off
enable_column (suc (suc (suc (suc zero)))) low off = true≢false off
enable_column (suc (suc (suc (suc (suc zero))))) low off = true≢false off
enable_column (suc (suc (suc (suc (suc (suc zero)))))) low off = true≢false off
enable_column (suc (suc (suc (suc (suc (suc (suc zero))))))) low off = true≢false off
enable_column (suc (suc (suc (suc (suc (suc (suc (suc column)))))))) low off = absurd (omega (arith, low))

data_column : (column : ℕ) → column < 8 → is_on (row_fuses sample example_fuses 2) column ≡ false → column ≡ 1
data_column zero low off = absurd (true≢false off)
data_column (suc zero) low off = refl
data_column (suc (suc zero)) low off = absurd (true≢false off)
data_column (suc (suc (suc zero))) low off = absurd (true≢false off)
data_column (suc (suc (suc (suc zero)))) low off = absurd (true≢false off)
data_column (suc (suc (suc (suc (suc zero))))) low off = absurd (true≢false off)
data_column (suc (suc (suc (suc (suc (suc zero)))))) low off = absurd (true≢false off)
data_column (suc (suc (suc (suc (suc (suc (suc zero))))))) low off = absurd (true≢false off)
data_column (suc (suc (suc (suc (suc (suc (suc (suc column)))))))) low off = absurd (omega (arith, low))

-- the reset row is pin 2
reset_exact : IsExactRow sample example example_fuses (Read (leaf.Pin 2)) 0
reset_exact = record {
  at_needed = λ at is on. or_false (row_value sample example_fuses at 0) ∙ (value_zero at ∙ on);
  at_allowed = λ at is on. sym (value_zero at) ∙ (sym (or_false (row_value sample example_fuses at 0)) ∙ on);
  no_literal = λ row there used column low off all. literal row column (only_row 0 row there) low off all;
  no_row = λ row there used all. whole row (only_row 0 row there) all;
}
  where
    literal : (row column : ℕ) → row ≡ 0 → column < 8 → is_on (row_fuses sample example_fuses row) column ≡ false
        → ((at : Levels) → IsValuedFor sample example at → value_without sample example_fuses at row column ≡ true → is_on at.pins 2 ≡ true) → ⊥
    literal zero column first low off all =
        let four = reset_column column low off in
        true≢false (sym (all (point false false) (point_is false false) (rw four refl)) ∙ point_two false false)
    literal (suc row) column first low off all = absurd (omega (arith, first))

    whole : (row : ℕ) → row ≡ 0 → ((at : Levels) → IsValuedFor sample example at → is_on at.pins 2 ≡ true → any_other sample example_fuses at (0 ∷ []) row ≡ true) → ⊥
    whole zero first all = true≢false (sym (all (point false true) (point_is false true) (point_two false true)))
    whole (suc row) first all = absurd (omega (arith, first))

-- the enable row is always true
enable_exact : IsExactRow sample example example_fuses (Const true) 1
enable_exact = record {
  at_needed = λ at is on. refl;
  at_allowed = λ at is on. refl;
  no_literal = λ row there used column low off all. literal row column (only_row 1 row there) low off;
  no_row = λ row there used all. whole row (only_row 1 row there) all;
}
  where
    literal : (row column : ℕ) → row ≡ 1 → column < 8 → is_on (row_fuses sample example_fuses row) column ≡ false → ⊥
    literal row column first low off = enable_column column low (subst (λ r. is_on (row_fuses sample example_fuses r) column ≡ false) first off)

    whole : (row : ℕ) → row ≡ 1 → ((at : Levels) → IsValuedFor sample example at → true ≡ true → any_other sample example_fuses at (1 ∷ []) row ≡ true) → ⊥
    whole row first all = true≢false (sym (subst (λ r. any_other sample example_fuses (point false false) (1 ∷ []) r ≡ true) first (all (point false false) (point_is false false) refl)))

-- the preset row is all 0
preset_exact : IsExactRow sample example example_fuses (Const false) 5
preset_exact = record {
  at_needed = λ at is on. absurd (true≢false (sym on));
  at_allowed = λ at is on. on;
  no_literal = λ row there used column low off all. unused row (only_row 5 row there) used;
  no_row = λ row there used all. unused row (only_row 5 row there) used;
}
  where
    unused : (row : ℕ) → row ≡ 5 → is_used sample example_fuses row ≡ true → ⊥
    unused row first used = true≢false (sym (subst (λ r. is_used sample example_fuses r ≡ true) first used))

-- ---- the data rows: the OR is the complement of pin 1

needs : Levels → Bool → Bool
needs at v = or_may_be sample example_fuses 0 example_cell at v

may_be_1 : (at : Levels) → needs at true ≡ not (is_on at.pins 1)
unfolding needs
may_be_1 at = elim (cases_Bool (is_on at.pins 1)) [ inl on ↦ rw on refl | inr off ↦ rw off refl ]

must_be_1 : (at : Levels) → not (needs at false) ≡ not (is_on at.pins 1)
unfolding needs
must_be_1 at = elim (cases_Bool (is_on at.pins 1)) [ inl on ↦ rw on refl | inr off ↦ rw off refl ]

data_cover : IsPrimeCover sample example example_fuses (data_rows sample 0)
    (λ at. not (or_may_be sample example_fuses 0 example_cell at false)) (λ at. or_may_be sample example_fuses 0 example_cell at true)
unfolding needs
data_cover = record {
  at_needed = λ at is on. or_false (row_value sample example_fuses at 2) ∙ (value_two at ∙ (sym (must_be_1 at) ∙ on));
  at_allowed = λ at is on. may_be_1 at ∙ (sym (value_two at) ∙ (sym (or_false (row_value sample example_fuses at 2)) ∙ on));
  no_literal = λ row there used column low off all. literal row column (used_row row there used) low off all;
  no_row = λ row there used all. whole row (used_row row there used) all;
}
  where
    used_row : (row : ℕ) → has (2 ∷ 3 ∷ []) row ≡ true → is_used sample example_fuses row ≡ true → row ≡ 2
    used_row row there used =
        elim (or_cases (row == 2) (has (3 ∷ []) row) there) [
          | inl here ↦ eqb-true row 2 here
          | inr later ↦ absurd (true≢false (sym (subst (λ r. is_used sample example_fuses r ≡ true) (only_row 3 row later) used)))
        ]

    literal : (row column : ℕ) → row ≡ 2 → column < 8 → is_on (row_fuses sample example_fuses row) column ≡ false
        → ((at : Levels) → IsValuedFor sample example at → value_without sample example_fuses at row column ≡ true → needs at true ≡ true) → ⊥
    literal row column first low off all =
        let one = data_column column low (subst (λ r. is_on (row_fuses sample example_fuses r) column ≡ false) first off) in
        let allowed : needs (point true false) true ≡ true = all (point true false) (point_is true false) (rw (first, one) refl) in
        true≢false (sym allowed ∙ (may_be_1 (point true false) ∙ ap not (point_one true false)))

    whole : (row : ℕ) → row ≡ 2 → ((at : Levels) → IsValuedFor sample example at → not (needs at false) ≡ true → any_other sample example_fuses at (2 ∷ 3 ∷ []) row ≡ true) → ⊥
    whole row first all =
        let other = all (point false false) (point_is false false) (must_be_1 (point false false) ∙ ap not (point_one false false)) in
        true≢false (sym (subst (λ r. any_other sample example_fuses (point false false) (2 ∷ 3 ∷ []) r ≡ true) first other))

-- ---- fuses

cell_zero : IsFittedCell sample example example_fuses 0 example_cell
cell_zero = record { kind = λ either. refl; polarity = λ reg after. refl; enable = enable_exact; rows = data_cover }

cell_one : IsSpareCell sample example_fuses 1
cell_one = record {
  kind = λ either. absurd (not_either either);
  polarity = λ may. refl;
  enable = λ row is. absurd (no_enable_row row is);
  rows = λ row here. let only : row ≡ 4 = omega (arith, here.0, here.1) in rw only refl;
}
  where
    not_either : ◌≡◌ {A = Kinds} Registered Either → ⊥
    not_either e = absurd cc

    no_enable_row : (row : ℕ) → (cell_at sample 1).enable ≡ Row row → ⊥
    no_enable_row row is = absurd cc

each_cell : (c : ℕ) → c < 2 → IsFittedAs sample example example_fuses c (wanted_at example c)
each_cell zero low = cell_zero
each_cell (suc zero) low = cell_one
each_cell (suc (suc c)) low = absurd (omega (arith, low))

none_wanted : (w : Wanted) → ◌≡◌ {A = Option Wanted} None (Some w) → ⊥
none_wanted w e = absurd cc

wanted_none : (c : ℕ) → wanted_at example (suc c) ≡ None
wanted_none c = let off : (0 == suc c) ≡ false = ne_eqb 0 (suc c) (λ e. absurd (omega (arith, e))) in rw off refl

same_resets : AreShared sample example (λ (w : Wanted). w.reset)
same_resets c w f is own at valued = by_cell c is own
  where
    same : (a b : Wanted) → Some a ≡ Some b → a ≡ b
    same a b e = cc

    by_cell : (c : ℕ) → wanted_at example c ≡ Some w → w.reset ≡ Some f → formula_value at f ≡ is_on at.pins 2
    by_cell zero is own =
        let cell : example_cell ≡ w = same example_cell w is in
        let reset : Some (Read (leaf.Pin 2)) ≡ Some f = ap (λ (x : Wanted). x.reset) cell ∙ own in
        ap (formula_value at) (sym (some_formula (Read (leaf.Pin 2)) f reset))
    by_cell (suc c) is own = absurd (none_wanted w (sym (wanted_none c) ∙ is))

same_presets : AreShared sample example (λ (w : Wanted). w.preset)
same_presets c w f is own at valued = by_cell c is own
  where
    same : (a b : Wanted) → Some a ≡ Some b → a ≡ b
    same a b e = cc

    by_cell : (c : ℕ) → wanted_at example c ≡ Some w → w.preset ≡ Some f → formula_value at f ≡ false
    by_cell zero is own =
        let cell : example_cell ≡ w = same example_cell w is in
        let none : ◌≡◌ {A = Option Formula} None (Some f) = ap (λ (x : Wanted). x.preset) cell ∙ own in
        absurd (none_formula f none)
    by_cell (suc c) is own = absurd (none_wanted w (sym (wanted_none c) ∙ is))

each_switch : (row : ℕ) → row < 6 → is_switched_on sample example_fuses row ≡ is_used sample example_fuses row
each_switch zero low = refl
each_switch (suc zero) low = refl
each_switch (suc (suc zero)) low = refl
each_switch (suc (suc (suc zero))) low = refl
each_switch (suc (suc (suc (suc zero)))) low = refl
each_switch (suc (suc (suc (suc (suc zero))))) low = refl
each_switch (suc (suc (suc (suc (suc (suc row)))))) low = absurd (omega (arith, low))

past_end : (n : ℕ) → is_on example_fuses (58 + n) ≡ false
past_end zero = refl
past_end (suc zero) = refl
past_end (suc (suc n)) = get_or_past example_fuses (58 + suc (suc n)) false (omega arith)

others_off : (n : ℕ) → 48 ≤ n → has (control_fuses sample) n ≡ false → is_on example_fuses n ≡ false
others_off n past free =
    elim (cases_lt n 58) [
      | inl low ↦ absurd (listed (n - 48) (omega (arith, past, low)) (let here : 48 + (n - 48) ≡ n = omega (arith, past) in rw here free))
      | inr high ↦ let here : n ≡ 58 + (n - 58) = omega (arith, high) in rw here (past_end (n - 58))
    ]
  where
    listed : (k : ℕ) → k < 10 → has (control_fuses sample) (48 + k) ≡ false → ⊥
    listed zero low e = true≢false e
    listed (suc zero) low e = true≢false e
    listed (suc (suc zero)) low e = true≢false e
    listed (suc (suc (suc zero))) low e = true≢false e
    listed (suc (suc (suc (suc zero)))) low e = true≢false e
    listed (suc (suc (suc (suc (suc zero))))) low e = true≢false e
    listed (suc (suc (suc (suc (suc (suc zero)))))) low e = true≢false e
    listed (suc (suc (suc (suc (suc (suc (suc zero))))))) low e = true≢false e
    listed (suc (suc (suc (suc (suc (suc (suc (suc zero)))))))) low e = true≢false e
    listed (suc (suc (suc (suc (suc (suc (suc (suc (suc zero))))))))) low e = true≢false e
    listed (suc (suc (suc (suc (suc (suc (suc (suc (suc (suc k)))))))))) low e = absurd (omega (arith, low))

one_fixed : (k : ℕ) (d : FuseBit) → k < 1 → is_on example_fuses (get_or sample.fixed k d).fuse ≡ (get_or sample.fixed k d).level
one_fixed zero d low = refl
one_fixed (suc k) d low = absurd (omega (arith, low))

example_fits : IsFitted sample example example_fuses
example_fits = record {
  size = refl;
  cells = each_cell;
  reset = reset_exact;
  preset = preset_exact;
  resets_shared = same_resets;
  presets_shared = same_presets;
  switches = each_switch;
  fixed = one_fixed;
  others = others_off;
}

pub sound_and_fits : ExampleFits
sound_and_fits = (example_sound, example_fits)
