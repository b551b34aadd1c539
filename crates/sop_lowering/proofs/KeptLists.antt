-- What stays right of lists that are kept.
use Rattle.std.proofs.Common.{◌≡◌, ◌≤◌, inl, inr, ℕ, zero, suc, List, [], ◌∷◌, ◌++◌, length, get_or, vec_len, Option, None, Some, refl, sym, ◌∙◌, arith}
use Rattle.sop_lowering.proofs.Common.{same_Some, Netlist, arena, formula_at, Cube, SignedBit, AreRight, KeepsNone, Puts, products_of, written}
use Rattle.std.specs.Global.{Vec}
use Rattle.sop_lowering.specs.declared.kept.Kept.{Kept}

pub none_more : (lists : List (Option (Vec Cube))) → ((i : ℕ) → get_or lists i None ≡ None) → (i : ℕ) → get_or (lists ++ None ∷ []) i None ≡ None
none_more [] none zero = refl
none_more [] none (suc i) = refl
none_more (x ∷ lists) none zero = none 0
none_more (x ∷ lists) none (suc i) = none_more lists (λ j. none (suc j)) i

pub right_none : (net : Netlist) (kept : Kept) → KeepsNone kept → AreRight net kept
right_none net kept none bit rows is = absurd (no_some rows (sym (none bit) ∙ is)) where
  no_some : (list : List Cube) → None ≡ Some list → ⊥
  no_some list e = absurd cc

-- a list that is put there must be that of its bit
pub right_put : (net : Netlist) (old new : Kept) (bit : SignedBit) (rows : Option (Vec Cube)) → AreRight net old → Puts old new bit rows
    → ((list : List Cube) → products_of rows ≡ Some list → (written net (formula_at (arena net.exprs) bit.id) bit.positive ≡ Some list) × (length list ≤ 1024))
    → AreRight net new
right_put net old new bit rows right puts own other list is =
    elim (puts other list is) [
      | inl before ↦ right other list before
      | inr here ↦ rw here.0 (own list here.1)
    ]

pub right_gone : (net : Netlist) (old new : Kept) (bit : SignedBit) → AreRight net old → Puts old new bit None → AreRight net new
right_gone net old new bit right puts = right_put net old new bit None right puts (λ list is. absurd cc)

pub right_rows : (net : Netlist) (old new : Kept) (bit : SignedBit) (rows : Vec Cube) → AreRight net old → Puts old new bit (Some rows)
    → written net (formula_at (arena net.exprs) bit.id) bit.positive ≡ Some rows.items → vec_len rows ≤ 1024 → AreRight net new
right_rows net old new bit rows right puts is few = right_put net old new bit (Some rows) right puts (λ list same.
    let e = same_Some rows.items list same in
    (is ∙ same, rw (← e) (omega (arith, few, rows.ok))))
