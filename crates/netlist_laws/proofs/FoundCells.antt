-- What is found of the cells of a netlist has what all of them have.
use Rattle.std.proofs.Common.{◌≡◌, ℕ, ◌==◌, List, [], ◌∷◌, Some, inl, inr, subst, find}
use Rattle.netlist_laws.proofs.Common.{All, cases_Bool, eqb-true, All-head, All-tail, same_Some, Wanted}

-- what is found passes the test, and has what all have
pub record IsFound (P : Wanted → Type 0) (c : ℕ) (w : Wanted) : Type 0 where
  pub has : P w
  pub cell : w.cell ≡ c

pub found : (P : Wanted → Type 0) (ws : List Wanted) (c : ℕ) (w : Wanted) → All P ws → find (λ (x : Wanted). x.cell == c) ws ≡ Some w → IsFound P c w
found P [] c w all is = absurd cc
found P (x ∷ ws) c w all is =
    elim (cases_Bool (x.cell == c)) [
      | inl hit ↦ subst (IsFound P c) (same_Some x w (rw hit at is)) (record { has = All-head P x ws all; cell = eqb-true x.cell c hit })
      | inr miss ↦ found P ws c w (All-tail P x ws all) (rw miss at is)
    ]
