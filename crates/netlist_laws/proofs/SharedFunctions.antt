-- The function that all registers share is one of theirs, or 0.
use Rattle.std.proofs.Common.{◌≡◌, false, nat_lt, List, [], ◌∷◌, Option, Some, None, refl, inl, inr, is_some, IfSome, unwrap_or}
use Rattle.netlist_laws.proofs.Common.{All, cases_Bool, All-head, All-tail, Formula, Const, Wanted, PlainNetlist, earlier_name, first_with, own_of, shared_function}

module _ (own : Wanted → Option Formula) (P : Formula → Type 0) where
  -- the cell's own function, if there, has it
  abbrev pub OwnHas : Wanted → Type 0
  OwnHas w = (f : Formula) → own w ≡ Some f → P f

  earlier_has : (w : Wanted) (other : Option Wanted) → OwnHas w → IfSome other OwnHas → OwnHas (earlier_name w other)
  earlier_has w None here there = here
  earlier_has w (Some v) here there = elim (cases_Bool (nat_lt v.name w.name)) [ inl less ↦ rw less there | inr more ↦ rw more here ]

  first_has : (ws : List Wanted) → All OwnHas ws → IfSome (first_with own ws) OwnHas
  first_has [] all = tt
  first_has (w ∷ ws) all =
      let rest = first_has ws (All-tail OwnHas w ws all) in
      elim (cases_Bool (is_some (own w))) [
        | inl some ↦ rw some (earlier_has w (first_with own ws) (All-head OwnHas w ws all) rest)
        | inr none ↦ rw none rest
      ]

  by_own : (e : Option Formula) → ((f : Formula) → e ≡ Some f → P f) → P (Const false) → P (unwrap_or e (Const false))
  by_own None each zero = zero
  by_own (Some f) each zero = each f refl

  by_first : (found : Option Wanted) → IfSome found OwnHas → P (Const false) → P (unwrap_or (own_of own found) (Const false))
  by_first None here zero = zero
  by_first (Some w) here zero = by_own (own w) here zero

  -- what each cell's own function has, and 0 has, the shared_function one has
  pub shared_has : (net : PlainNetlist) → All OwnHas net.cells → P (Const false) → P (shared_function own net)
  shared_has net all zero = by_first (first_with own net.cells) (first_has net.cells all) zero
