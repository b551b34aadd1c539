-- What is promised of the names of a placed module.
use Rattle.std.proofs.Common.{◌≡◌, ℕ, suc, Bool, true, false, not, ◌||◌, Option, List, [], ◌∷◌, ◌++◌, length, get_or, if◌then◌else◌, refl, sym, ap, ap₂, subst, ◌∙◌, arith}
use Rattle.placer.proofs.Common.{list_any, length-map, Flip, Table, Assigned, named_of, sections_assign, Entry, ModuleTree, are_numbered, declared_names, is_unnumbered, no_name, Holds, holds_of, with_kinds, names_of, name_refusals, read_refusals, module_buffers_refused, none_left, none_right, IsAssignment, has_enable, is_read, HasNumberedNames, placed_module, Pins, with_pins, pin_of, node_pin_of, dc_of, all_released, module_wishes, placed_with, IsPlacedModule, needs_pin, to_place, to_place_from, wish}
use Rattle.placer.proofs.GivenPins.{has_pins, all_known, released_quiet, unpinned_if}
use Rattle.placer.proofs.PlacedBuffers.{buffers_none}
use Rattle.placer.proofs.PlacedNames.{ArePlaced}
use Rattle.placer.proofs.PlacedSections.{IsReadSo, module_read}

-- ---- kinds that are settled are kinds that were declared

any_settled : (flip : Flip) (held : Holds) (found : List Assigned) (s : ℕ) (es : List Entry) → list_any (λ (e : Entry). is_unnumbered e.kind) (with_kinds flip held found s es) ≡ list_any (λ (e : Entry). is_unnumbered e.kind) es
any_settled flip held found s [] = refl
any_settled flip held found s (e ∷ es) = ap (λ b. is_unnumbered e.kind || b) (any_settled flip held found (suc s) es)

numbered_settled : (t : Table) (m : ModuleTree) → are_numbered (names_of t m) ≡ are_numbered (declared_names m)
numbered_settled t m = ap not (any_settled t.flip (holds_of (declared_names m) m.sections) (sections_assign (named_of (declared_names m)) m.sections) 0 (declared_names m))

numbered_placed : (pins nodes : List ℕ → Option ℕ) (dc : List ℕ → Bool) (es fs : List Entry) → ArePlaced pins nodes dc es fs → list_any (λ (e : Entry). is_unnumbered e.kind) fs ≡ false
numbered_placed pins nodes dc [] [] are = refl
numbered_placed pins nodes dc [] (f ∷ fs) are = absurd are
numbered_placed pins nodes dc (e ∷ es) [] are = absurd are
numbered_placed pins nodes dc (e ∷ es) (f ∷ fs) are = ap₂ (λ a b. a || b) are.0.numbered (numbered_placed pins nodes dc es fs are.1)

-- if nothing is to be placed, each pin has a number
none_needed : (t : Table) (s : ℕ) (es : List Entry) → to_place_from t s es ≡ [] → list_any (λ (e : Entry). is_unnumbered e.kind) es ≡ false
none_needed t s [] none = refl
none_needed t s (e ∷ es) none = by (needs_pin t e) refl none (none_needed t (suc s) es)
  where
    left : (a b : Bool) → (a || b) ≡ false → a ≡ false
    left true b h = h
    left false b h = refl

    by : (b : Bool) → needs_pin t e ≡ b → (if b then s ∷ to_place_from t (suc s) es else to_place_from t (suc s) es) ≡ [] → (to_place_from t (suc s) es ≡ [] → list_any (λ (x : Entry). is_unnumbered x.kind) es ≡ false) → (is_unnumbered e.kind || list_any (λ (x : Entry). is_unnumbered x.kind) es) ≡ false
    by true needs h later = absurd cc
    by false needs h later = ap₂ (λ a b. a || b) (left (is_unnumbered e.kind) _ needs) (later h)

-- ---- the placed module

module _ (t : Table) (m : ModuleTree) (none : name_refusals t m ≡ []) (ps : List ℕ) (is : IsAssignment (module_wishes t m) ps) where
  abbrev es : List Entry
  es = names_of t m

  abbrev xs : Pins
  xs = with_pins (to_place t es) ps

  read_none : read_refusals t m ≡ []
  read_none = none_left (read_refusals t m) (module_buffers_refused t m) none

  -- with its pins, whether or not there are any
  abbrev with_all : ModuleTree
  with_all = placed_module (pin_of es xs) (node_pin_of es xs) (dc_of es) (all_released es (has_enable es m.sections) xs) m

  pub read_so : IsReadSo t (pin_of es xs) (node_pin_of es xs) (dc_of es) m with_all
  read_so = module_read t (pin_of es xs) (node_pin_of es xs) (dc_of es) m (all_released es (has_enable es m.sections) xs) (has_pins t m none (is_read es m.sections) ps is) read_none (all_known t m none (is_read es m.sections) ps is (has_enable es m.sections))

  pub promised_all : HasNumberedNames t with_all
  promised_all = record {
    none = ap₂ (λ a b. a ++ b) read_so.none
        (buffers_none t (pin_of es xs) (node_pin_of es xs) (dc_of es) m (all_released es (has_enable es m.sections) xs) (released_quiet t m none (is_read es m.sections) ps is (has_enable es m.sections) xs) (unpinned_if t m none (is_read es m.sections) ps is) read_none read_so
        (none_right (read_refusals t m) (module_buffers_refused t m) none));
    numbered = numbered_settled t with_all ∙ ap not (numbered_placed (pin_of es xs) (node_pin_of es xs) (dc_of es) (declared_names m) (declared_names with_all) read_so.names);
  }

  -- if there aren't any, the module itself
  nothing_placed : to_place t es ≡ [] → HasNumberedNames t m
  nothing_placed empty = record { none = none; numbered = ap not (none_needed t 0 es empty) }

pub promised : (t : Table) (m placed : ModuleTree) → IsPlacedModule t m placed → HasNumberedNames t placed
promised t m placed p = subst (HasNumberedNames t) (sym p.pinned.is) (by (to_place t (names_of t m)) p.pinned.pins refl p.pinned.taken.is_assignment)
  where
    by : (ss ps : List ℕ) → to_place t (names_of t m) ≡ ss → IsAssignment (module_wishes t m) ps → HasNumberedNames t (placed_with (names_of t m) (with_pins ss ps) m)
    by [] ps same is = nothing_placed t m p.names ps is same
    by (s ∷ ss) [] same is =
        let each = is.each in
        let long = length-map (to_place t (names_of t m)) (λ k. wish t (names_of t m) (is_read (names_of t m) m.sections k) (get_or (names_of t m) k no_name)) in
        let some : length (to_place t (names_of t m)) ≡ length (s ∷ ss) = ap length same in
        absurd (omega (arith, each, long, some))
    by (s ∷ ss) (q ∷ ps) same is =
        subst (λ l. HasNumberedNames t (placed_module (pin_of (names_of t m) (with_pins l (q ∷ ps))) (node_pin_of (names_of t m) (with_pins l (q ∷ ps))) (dc_of (names_of t m)) (all_released (names_of t m) (has_enable (names_of t m) m.sections) (with_pins l (q ∷ ps))) m)) same
        (promised_all t m p.names (q ∷ ps) is)
