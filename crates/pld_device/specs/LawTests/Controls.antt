-- Tests of a table's control fuses, and what they show (private: for the laws of tables).
use Rattle.std.proofs.Common.{◌≡◌, ◌≢◌, ◌↔◌, ℕ, ◌*◌, Bool, true, false, ◌&&◌, not, Option, Some, None, List, ◌++◌, length, refl, ap, subst, arith}
use Rattle.std.specs.Prelude.{nat_lt, nat_le, is_some, IsSome, Contains}
use Rattle.std.specs.List.{list_all}
use Rattle.std.proofs.lemmas.Bool.Decides.{nat_tests}
use Rattle.std.proofs.lemmas.List.Elements.{Contains-append_left, Contains-append_right}
use Rattle.pld_device.specs.declared.flip.Flip.{Flip}
use Rattle.pld_device.specs.declared.flip.Flip.TheVariants.{Always, AfterRegister, BeforeRegister}
use Rattle.pld_device.specs.declared.fuse_bit.FuseBit.{FuseBit}
use Rattle.pld_device.specs.declared.kinds.Kinds.{Kinds}
use Rattle.pld_device.specs.declared.kinds.Kinds.TheVariants.{Combinational, Registered, Either}
use Rattle.pld_base.specs.Bits.{same_level}
use Rattle.pld_device.specs.Table.{Table}
use Rattle.pld_device.specs.ControlFuses.{fuses_named, control_fuses}
use Rattle.pld_device.specs.Laws.{Control, Inverts, Registers, Switches, IsFixed, fuse_for, IsControlFuse}
use Rattle.pld_device.specs.LawTests.Lists.{get_all}
use Rattle.pld_device.specs.LawTests.FuseLists.{are_apart, fixed_fuses, apart_parts, in_one_part, named, named_once, listed, listed_once, fixed_at}

-- the fuse is past the array and one of the device
abbrev pub control_test : Table → ℕ → Bool
control_test t fuse = nat_le (t.columns * t.rows) fuse && nat_lt fuse t.fuses

-- the device always complements
abbrev pub is_always : Flip → Bool
is_always Always = true
is_always AfterRegister = false
is_always BeforeRegister = false

-- the cell may be either
abbrev pub is_either : Kinds → Bool
is_either Combinational = false
is_either Registered = false
is_either Either = true

-- the lists of control fuses end by the last cell and the last row, and are short
abbrev pub ends_test : Table → Bool
ends_test t =
    nat_le (length t.inverted) (length t.cells)
    && nat_le (length t.registered) (length t.cells)
    && nat_le (length t.row_switches) t.rows
    && nat_le (length t.row_switches) 64
    && nat_le (length t.fixed) 16

pub control_from_test : (t : Table) (fuse : ℕ) → control_test t fuse ≡ true → IsControlFuse t fuse
control_from_test t fuse test = record {
  past = grind (arith, nat_tests);
  below = grind (arith, nat_tests);
}

pub inverted_where : (o : Option FuseBit) (flip : Flip) → same_level (is_some o) (not (is_always flip)) ≡ true → IsSome o ↔ (flip ≢ Always)
inverted_where None Always test = (λ some. absurd cc, λ other. absurd (other refl))
inverted_where None AfterRegister test = absurd cc
inverted_where None BeforeRegister test = absurd cc
inverted_where (Some bit) Always test = absurd cc
inverted_where (Some bit) AfterRegister test = (λ some e. cc, λ other. refl)
inverted_where (Some bit) BeforeRegister test = (λ some e. cc, λ other. refl)

pub registered_where : (o : Option FuseBit) (kinds : Kinds) → same_level (is_some o) (is_either kinds) ≡ true → IsSome o ↔ (kinds ≡ Either)
registered_where None Combinational test = (λ some. absurd cc, λ e. absurd cc)
registered_where None Registered test = (λ some. absurd cc, λ e. absurd cc)
registered_where None Either test = absurd cc
registered_where (Some bit) Combinational test = absurd cc
registered_where (Some bit) Registered test = absurd cc
registered_where (Some bit) Either test = (λ some. refl, λ e. refl)

-- the four parts of the list of control fuses
abbrev parts_of : Table → Control → List ℕ
parts_of t (Inverts c) = fuses_named t.inverted
parts_of t (Registers c) = fuses_named t.registered
parts_of t (Switches row) = t.row_switches
parts_of t (IsFixed index) = fixed_fuses t.fixed

in_part : (t : Table) (what : Control) (fuse : ℕ) → fuse_for t what ≡ Some fuse → Contains (parts_of t what) fuse
in_part t (Inverts c) fuse found = named t.inverted c fuse found
in_part t (Registers c) fuse found = named t.registered c fuse found
in_part t (Switches row) fuse found = listed t.row_switches row fuse found
in_part t (IsFixed index) fuse found = listed (fixed_fuses t.fixed) index fuse (fixed_at t.fixed index fuse found)

in_list : (t : Table) (what : Control) (fuse : ℕ) → Contains (parts_of t what) fuse → Contains (control_fuses t) fuse
in_list t (Inverts c) fuse here =
    Contains-append_left (fuses_named t.inverted ++ fuses_named t.registered ++ t.row_switches) (fixed_fuses t.fixed) fuse
    (Contains-append_left (fuses_named t.inverted ++ fuses_named t.registered) t.row_switches fuse
    (Contains-append_left (fuses_named t.inverted) (fuses_named t.registered) fuse here))
in_list t (Registers c) fuse here =
    Contains-append_left (fuses_named t.inverted ++ fuses_named t.registered ++ t.row_switches) (fixed_fuses t.fixed) fuse
    (Contains-append_left (fuses_named t.inverted ++ fuses_named t.registered) t.row_switches fuse
    (Contains-append_right (fuses_named t.inverted) (fuses_named t.registered) fuse here))
in_list t (Switches row) fuse here =
    Contains-append_left (fuses_named t.inverted ++ fuses_named t.registered ++ t.row_switches) (fixed_fuses t.fixed) fuse
    (Contains-append_right (fuses_named t.inverted ++ fuses_named t.registered) t.row_switches fuse here)
in_list t (IsFixed index) fuse here =
    Contains-append_right (fuses_named t.inverted ++ fuses_named t.registered ++ t.row_switches) (fixed_fuses t.fixed) fuse here

pub control_in : (t : Table) → list_all (control_test t) (control_fuses t) ≡ true → (what : Control) (fuse : ℕ) → fuse_for t what ≡ Some fuse → IsControlFuse t fuse
control_in t test what fuse found =
    let here = in_list t what fuse (in_part t what fuse found) in
    control_from_test t fuse (subst (λ n. control_test t n ≡ true) here.2 (get_all (control_test t) (control_fuses t) here.0 fuse test here.1))

-- no fuse is in two of the four parts, nor twice in one
record PartsApart (t : Table) : Type 0 where
  inverted : are_apart (fuses_named t.inverted) ≡ true
  registered : are_apart (fuses_named t.registered) ≡ true
  switches : are_apart t.row_switches ≡ true
  fixed : are_apart (fixed_fuses t.fixed) ≡ true
  inverted_registered : (n : ℕ) → Contains (fuses_named t.inverted) n → Contains (fuses_named t.registered) n → ⊥
  inverted_switches : (n : ℕ) → Contains (fuses_named t.inverted) n → Contains t.row_switches n → ⊥
  inverted_fixed : (n : ℕ) → Contains (fuses_named t.inverted) n → Contains (fixed_fuses t.fixed) n → ⊥
  registered_switches : (n : ℕ) → Contains (fuses_named t.registered) n → Contains t.row_switches n → ⊥
  registered_fixed : (n : ℕ) → Contains (fuses_named t.registered) n → Contains (fixed_fuses t.fixed) n → ⊥
  switches_fixed : (n : ℕ) → Contains t.row_switches n → Contains (fixed_fuses t.fixed) n → ⊥

parts_apart : (t : Table) → are_apart (control_fuses t) ≡ true → PartsApart t
parts_apart t test =
    let whole = apart_parts (fuses_named t.inverted ++ fuses_named t.registered ++ t.row_switches) (fixed_fuses t.fixed) test in
    let three = apart_parts (fuses_named t.inverted ++ fuses_named t.registered) t.row_switches whole.0 in
    let two = apart_parts (fuses_named t.inverted) (fuses_named t.registered) three.0 in
    let left = Contains-append_left (fuses_named t.inverted) (fuses_named t.registered) in
    let right = Contains-append_right (fuses_named t.inverted) (fuses_named t.registered) in
    let before_switches = in_one_part (fuses_named t.inverted ++ fuses_named t.registered) t.row_switches in
    let before_fixed = in_one_part (fuses_named t.inverted ++ fuses_named t.registered ++ t.row_switches) (fixed_fuses t.fixed) in
    let in_front = Contains-append_left (fuses_named t.inverted ++ fuses_named t.registered) t.row_switches in
    record {
      inverted = two.0;
      registered = two.1;
      switches = three.1;
      fixed = whole.1;
      inverted_registered = λ n here there. in_one_part (fuses_named t.inverted) (fuses_named t.registered) n three.0 here there;
      inverted_switches = λ n here there. before_switches n whole.0 (left n here) there;
      inverted_fixed = λ n here there. before_fixed n test (in_front n (left n here)) there;
      registered_switches = λ n here there. before_switches n whole.0 (right n here) there;
      registered_fixed = λ n here there. before_fixed n test (in_front n (right n here)) there;
      switches_fixed = λ n here there. before_fixed n test (Contains-append_right (fuses_named t.inverted ++ fuses_named t.registered) t.row_switches n here) there;
    }

pub control_once : (t : Table) → are_apart (control_fuses t) ≡ true → (a b : Control) (fuse : ℕ) → fuse_for t a ≡ Some fuse → fuse_for t b ≡ Some fuse → a ≡ b
control_once t test a b fuse here there = once (parts_apart t test) a b here there (in_part t a fuse here) (in_part t b fuse there)
  where
    once : PartsApart t → (a b : Control) → fuse_for t a ≡ Some fuse → fuse_for t b ≡ Some fuse → Contains (parts_of t a) fuse → Contains (parts_of t b) fuse → a ≡ b
    once p (Inverts c) (Inverts d) here there x y = ap Inverts (named_once t.inverted p.inverted c d fuse here there)
    once p (Inverts c) (Registers d) here there x y = absurd (p.inverted_registered fuse x y)
    once p (Inverts c) (Switches row) here there x y = absurd (p.inverted_switches fuse x y)
    once p (Inverts c) (IsFixed index) here there x y = absurd (p.inverted_fixed fuse x y)
    once p (Registers c) (Inverts d) here there x y = absurd (p.inverted_registered fuse y x)
    once p (Registers c) (Registers d) here there x y = ap Registers (named_once t.registered p.registered c d fuse here there)
    once p (Registers c) (Switches row) here there x y = absurd (p.registered_switches fuse x y)
    once p (Registers c) (IsFixed index) here there x y = absurd (p.registered_fixed fuse x y)
    once p (Switches row) (Inverts d) here there x y = absurd (p.inverted_switches fuse y x)
    once p (Switches row) (Registers d) here there x y = absurd (p.registered_switches fuse y x)
    once p (Switches row) (Switches other) here there x y = ap Switches (listed_once t.row_switches p.switches row other fuse here there)
    once p (Switches row) (IsFixed index) here there x y = absurd (p.switches_fixed fuse x y)
    once p (IsFixed index) (Inverts d) here there x y = absurd (p.inverted_fixed fuse y x)
    once p (IsFixed index) (Registers d) here there x y = absurd (p.registered_fixed fuse y x)
    once p (IsFixed index) (Switches row) here there x y = absurd (p.switches_fixed fuse y x)
    once p (IsFixed index) (IsFixed other) here there x y =
        ap IsFixed (listed_once (fixed_fuses t.fixed) p.fixed index other fuse (fixed_at t.fixed index fuse here) (fixed_at t.fixed other fuse there))
