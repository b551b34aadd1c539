-- The parts of a unit: nodes that are added one after another.
use Rattle.std.proofs.Common.{◌≡◌, ℕ, ◌+◌, nat_lt, Bool, true, false, ◌&&◌, List, [], ◌∷◌, length, refl, sym, ap, ◌∙◌, arith}
use Rattle.section_targets.proofs.Common.{nat_tests, append-nil, Place, Node, arena, MOST, Grew, PassesLimit, Contribution, Contributions, Keeps, Appends, Leaves, Stops, AtLimit, IsBuilt, part, is_past, limit_at}
use Rattle.set_expr.specs.declared.fault.SectionFault.TheVariants as fault

not_past : (count n : ℕ) → (PassesLimit MOST count n → ⊥) → is_past count n ≡ false
not_past count n h = past_by (nat_lt 0 n) (nat_lt MOST (count + n)) refl refl
  where
    past_by : (a b : Bool) → nat_lt 0 n ≡ a → nat_lt MOST (count + n) ≡ b → (a && b) ≡ false
    past_by true true p q = absurd (h (grind (arith, nat_tests), grind (arith, nat_tests)))
    past_by _ _ p q = refl

past : (count n : ℕ) → PassesLimit MOST count n → is_past count n ≡ true
past count n h = grind (arith, nat_tests, h.0, h.1)

-- nothing is appended where nodes alone are made
nothing_given : (new : List Node) (list : List Contribution) (old : Contributions) → old.list ≡ list → Appends old (record { exprs = new; list = list }) [] [] [] [] []
nothing_given new list old e =
    record { list = sym (append-nil old.list ∙ e); inside = λ k d lt. absurd (omega (arith, lt)); gives = refl; stand = refl }

-- nothing is appended where making nodes stops
pub leaves_nodes : (old new : List Node) (list : List Contribution) → Keeps (arena old) (arena new) → Leaves (record { exprs = old; list = list }) (record { exprs = new; list = list }) [] []
leaves_nodes old new list k =
    record { keeps = k; more = []; later = []; later_places = []; front = nothing_given new list (record { exprs = old; list = list }) refl }

pub built_nodes : (p : Place) (n : ℕ) (old new : List Node) (list : List Contribution) → Grew (arena old) (arena new) n → (PassesLimit MOST (length (arena old)) n → ⊥) → IsBuilt (part p n ∷ []) [] [] (record { exprs = old; list = list }) (record { exprs = new; list = list })
built_nodes p n old new list g h =
    record {
      accepted = refl;
      within = ap (λ b. limit_at [] p b []) (not_past (length (arena old)) n h);
      made = record {
        grew = record { keeps = g.keeps; count = omega (arith, g.count) };
        more = [];
        whole = nothing_given new list (record { exprs = old; list = list }) refl;
      };
    }

pub limit_here : (p : Place) (n count : ℕ) → PassesLimit MOST count n → Stops (fault.NodeLimit p) count (part p n ∷ [])
limit_here p n count h = AtLimit (ap (λ b. limit_at [] p b []) (past count n h))
