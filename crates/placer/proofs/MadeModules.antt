-- What is made of the first signals is the placed module, and what is refused of them is refused of all.
use Rattle.std.proofs.Common.{◌≡◌, ℕ, ◌==◌, ◌<◌, ◌≤◌, Bool, true, false, List, [], ◌∷◌, All, eqb, length, get_or, map, take, refl, sym, ap, ap₂, subst, ◌∙◌, arith}
use Rattle.placer.proofs.Common.{IsDistinct, or_left, or_right, true≢false, nat_tests, get_or-take, length-map, take-map, take_all, All-from_get_or, All-take, slice_get-get_or, Table, has, eqb_same, Entry, ModuleTree, Statement, no_name, names_of, name_refusals, entries_sound, kind_at, IsKept, IsTaken, has_enable, is_read, TellsKeptSet, IsUnplaced, AreKnown, placed_module, HasNoPlacement, IsPlacedModule, all_released, dc_of, node_pin_of, pin_of, placed_with, with_pins, to_place, wish, wishes}
use Rattle.placer.specs.declared.fault.PlaceFault.{PlaceFault}
use Rattle.placer.specs.declared.fault.PlaceFault.TheVariants.{NoPlacement, OutOfMemory}
use Rattle.placer.proofs.GivenPins.{placed_from}
use Rattle.placer.proofs.FirstSignals.{all_taken, few_signals, kept_of_all, member_first}

-- each name of a module of which nothing is refused is known as what it is declared as
pub names_known : (t : Table) (m : ModuleTree) → name_refusals t m ≡ [] → AreKnown (names_of t m)
names_known t m none s low = kind_at t.pins (names_of t m) (entries_sound t m none) s (get_or (names_of t m) s no_name) (slice_get-get_or (names_of t m) s no_name low)

-- signals are names of the list
pub signals_inside : (t : Table) (es : List Entry) → All (λ s. s < length es) (take 32 (to_place t es))
signals_inside t es =
    All-take (λ s. s < length es) 32 (to_place t es) (All-from_get_or (λ s. s < length es) (to_place t es) 0 (λ i low.
    let there = placed_from t es 0 i low in
    let is = there.is in
    let inside = there.inside in
    omega (arith, is, inside)))

map_same : (f g : ℕ → ℕ) (xs : List ℕ) → ((k : ℕ) → has xs k ≡ true → f k ≡ g k) → map f xs ≡ map g xs
map_same f g [] each = refl
map_same f g (x ∷ xs) each = ap₂ (λ a l. a ∷ l) (each x (or_left (eqb x x) (has xs x) (eqb_same x))) (map_same f g xs (λ k there. each k (or_right (eqb k x) (has xs k) there)))

distinct_none : IsDistinct eqb []
unfolding IsDistinct
distinct_none = tt

-- ---- wishes

first_wishes : (t : Table) (es : List Entry) (read : ℕ → Bool) (ss : List ℕ) (ws : List (List ℕ)) → ss ≡ take 32 (to_place t es) → ws ≡ map (λ s. wish t es (read s) (get_or es s no_name)) ss → ws ≡ take 32 (wishes t es read)
first_wishes t es read ss ws signals is =
    is ∙ (ap (map (λ s. wish t es (read s) (get_or es s no_name))) signals ∙ sym (take-map (λ s. wish t es (read s) (get_or es s no_name)) 32 (to_place t es)))

-- ---- what is placed

module _ (t : Table) (m : ModuleTree) (es : List Entry) (same : es ≡ names_of t m) (none : name_refusals t m ≡ []) (ss : List ℕ) (ws : List (List ℕ)) (signals : ss ≡ take 32 (to_place t es))
    (is : ws ≡ map (λ s. wish t es (is_read es m.sections s) (get_or es s no_name)) ss) where
  first : ws ≡ take 32 (wishes t es (is_read es m.sections))
  first = first_wishes t es (is_read es m.sections) ss ws signals is

  -- as many pins as signals
  pub each_pin : (ps : List ℕ) → IsTaken ws ps → length ps ≡ length ss
  each_pin ps taken = taken.is_assignment.each ∙ (ap length is ∙ length-map ss (λ s. wish t es (is_read es m.sections s) (get_or es s no_name)))

  pub placed_by : t.pins ≤ 24 → 0 < length ss → (ps : List ℕ) → IsTaken ws ps → (more : List Statement) (placed : ModuleTree) → more ≡ all_released es (has_enable es m.sections) (with_pins ss ps)
      → placed ≡ placed_module (pin_of es (with_pins ss ps)) (node_pin_of es (with_pins ss ps)) (dc_of es) more m → IsPlacedModule t m placed
  placed_by high some ps taken more placed released made = record {
    names = none;
    pinned = record {
      pins = ps;
      taken = subst (λ l. IsTaken (wishes t l (is_read l m.sections)) ps) same whole;
      is = subst (λ l. placed ≡ placed_with l (with_pins (to_place t l) ps) m) same result;
    };
  }
    where
      taken_first : IsTaken (take 32 (wishes t es (is_read es m.sections))) ps
      taken_first = subst (λ w. IsTaken w ps) first taken

      whole : IsTaken (wishes t es (is_read es m.sections)) ps
      whole = subst (λ w. IsTaken w ps) (all_taken t es (is_read es m.sections) high ps taken_first.is_assignment) taken_first

      all_signals : ss ≡ to_place t es
      all_signals = signals ∙ take_all 32 (to_place t es) (let small = few_signals t es (is_read es m.sections) high ps taken_first.is_assignment in omega (arith, small))

      result : placed ≡ placed_with es (with_pins (to_place t es) ps) m
      result = made ∙ (ap (λ l. placed_module (pin_of es (with_pins ss ps)) (node_pin_of es (with_pins ss ps)) (dc_of es) l m) released ∙ (by ss ps some (each_pin ps taken) ∙ ap (λ l. placed_with es (with_pins l ps) m) all_signals))
        where
          by : (xs qs : List ℕ) → 0 < length xs → length qs ≡ length xs
              → placed_module (pin_of es (with_pins xs qs)) (node_pin_of es (with_pins xs qs)) (dc_of es) (all_released es (has_enable es m.sections) (with_pins xs qs)) m ≡ placed_with es (with_pins xs qs) m
          by [] qs some_xs each = absurd (omega (arith, some_xs))
          by (x ∷ xs) [] some_xs each = absurd (omega (arith, each))
          by (x ∷ xs) (q ∷ qs) some_xs each = refl

  -- ---- what is refused

  pub unplaced_by : (set told : List ℕ) (count : ℕ) → IsKept ws set count → told ≡ map (λ k. get_or ss k 0) set → HasNoPlacement t m told count
  unplaced_by set told count kept are = record {
    names = none;
    set = set;
    kept = subst (λ l. IsKept (wishes t l (is_read l m.sections)) set count) same (kept_of_all (wishes t es (is_read es m.sections)) set count kept_first);
    are = subst (λ l. told ≡ map (λ k. get_or (to_place t l) k 0) set) same (are ∙ map_same (λ k. get_or ss k 0) (λ k. get_or (to_place t es) k 0) set (λ k there. ap (λ l. get_or l k 0) signals ∙ get_or-take 32 (to_place t es) k 0 (member_first (wishes t es (is_read es m.sections)) set count kept_first k there)));
  }
    where
      kept_first : IsKept (take 32 (wishes t es (is_read es m.sections))) set count
      kept_first = subst (λ w. IsKept w set count) first kept

  pub unplaced_is : (f : PlaceFault) → TellsKeptSet ss ws f → IsUnplaced t m f
  unplaced_is (NoPlacement told places) is_told = unplaced_by is_told.0 told.items places is_told.1.0 is_told.1.1
  unplaced_is OutOfMemory is_told = tt

-- ---- nothing is to be placed

pub is_none : (xs : List ℕ) → (length xs == 0) ≡ true → xs ≡ []
is_none [] none = refl
is_none (x ∷ xs) none = let some : (length (x ∷ xs) == 0) ≡ false = grind (arith, nat_tests) in absurd (true≢false (sym none ∙ some))

pub some_there : (xs : List ℕ) → (length xs == 0) ≡ false → 0 < length xs
some_there [] some = absurd (true≢false some)
some_there (x ∷ xs) some = omega arith

no_signal : (xs : List ℕ) → take 32 xs ≡ [] → xs ≡ []
no_signal [] is = refl
no_signal (x ∷ xs) is = absurd cc

pub itself : (t : Table) (m : ModuleTree) → name_refusals t m ≡ [] → take 32 (to_place t (names_of t m)) ≡ [] → IsPlacedModule t m m
itself t m none empty = record {
  names = none;
  pinned = record {
    pins = [];
    taken = subst (λ ss. IsTaken (map (λ s. wish t (names_of t m) (is_read (names_of t m) m.sections s) (get_or (names_of t m) s no_name)) ss) []) (sym nothing) none_taken;
    is = sym (ap (λ ss. placed_with (names_of t m) (with_pins ss []) m) nothing);
  };
}
  where
    nothing : to_place t (names_of t m) ≡ []
    nothing = no_signal (to_place t (names_of t m)) empty

    none_taken : IsTaken [] []
    none_taken = record {
      is_assignment = record { each = refl; fit = λ s low. absurd (omega (arith, low)); once = distinct_none };
      first = λ s better low. absurd (omega (arith, low));
    }
