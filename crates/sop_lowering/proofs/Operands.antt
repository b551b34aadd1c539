-- The operands of a bit that can be lowered can be lowered, and the bit is too wide if one of them is.
use Rattle.std.proofs.Common.{◌≡◌, ℕ, ◌<◌, ◌⊎◌, inl, inr, Bool, true, false, not, List, [], ◌∷◌, ◌++◌, length, slice_get, Option, None, Some, IfSome, refl, subst, sym, ◌∙◌, arith}
use Rattle.sop_lowering.proofs.Common.{complement_if, Function, Netlist, Leaf, arena, formula_at, Formula, Read, Not, And, Or, Xor, SignedBit, Leads, StepsLead, bit_of, signed_list, CanLower, HasPair, Products, product_of, sum_of, Reaches, ReachesThrough, leaf_list, list_of, node_list}
use Rattle.std.proofs.lemmas.List.Elements.{All-pop, All-push}
use Rattle.bit_expr.specs.declared.node.ExprId.{ExprId}
use Rattle.bit_expr.specs.declared.node.Leaf.TheVariants as leaf
use Rattle.sop_lowering.specs.declared.walking.Step.{Step}
use Rattle.sop_lowering.specs.declared.walking.Step.TheVariants.{Make, Walk}
use Rattle.sop_lowering.proofs.Turns.{function_reaches_all, function_written}

-- ---- lists that are made of one that isn't one

sum_left : (x y : Products) → x ≡ None → sum_of x y ≡ None
sum_left x y e = rw e refl

sum_right : (x y : Products) → y ≡ None → sum_of x y ≡ None
sum_right None y e = refl
sum_right (Some xs) y e = rw e refl

product_left : (x y : Products) → x ≡ None → product_of x y ≡ None
product_left x y e = rw e refl

product_right : (x y : Products) → y ≡ None → product_of x y ≡ None
product_right None y e = refl
product_right (Some xs) y e = rw e refl

module _ (leaves : Leaf → Bool → Products) where
  and_left : (f g : Formula) (p : Bool) → list_of leaves f p ≡ None → list_of leaves (And f g) p ≡ None
  and_left f g true e = product_left (list_of leaves f true) (list_of leaves g true) e
  and_left f g false e = sum_left (list_of leaves f false) (list_of leaves g false) e

  and_right : (f g : Formula) (p : Bool) → list_of leaves g p ≡ None → list_of leaves (And f g) p ≡ None
  and_right f g true e = product_right (list_of leaves f true) (list_of leaves g true) e
  and_right f g false e = sum_right (list_of leaves f false) (list_of leaves g false) e

  or_left : (f g : Formula) (p : Bool) → list_of leaves f p ≡ None → list_of leaves (Or f g) p ≡ None
  or_left f g true e = sum_left (list_of leaves f true) (list_of leaves g true) e
  or_left f g false e = product_left (list_of leaves f false) (list_of leaves g false) e

  or_right : (f g : Formula) (p : Bool) → list_of leaves g p ≡ None → list_of leaves (Or f g) p ≡ None
  or_right f g true e = sum_right (list_of leaves f true) (list_of leaves g true) e
  or_right f g false e = product_right (list_of leaves f false) (list_of leaves g false) e

  xor_left : (f g : Formula) (p q : Bool) → list_of leaves f q ≡ None → list_of leaves (Xor f g) p ≡ None
  xor_left f g true true e = sum_left (product_of (list_of leaves f true) (list_of leaves g false)) (product_of (list_of leaves f false) (list_of leaves g true)) (product_left (list_of leaves f true) (list_of leaves g false) e)
  xor_left f g true false e = sum_right (product_of (list_of leaves f true) (list_of leaves g false)) (product_of (list_of leaves f false) (list_of leaves g true)) (product_left (list_of leaves f false) (list_of leaves g true) e)
  xor_left f g false true e = sum_left (product_of (list_of leaves f true) (list_of leaves g true)) (product_of (list_of leaves f false) (list_of leaves g false)) (product_left (list_of leaves f true) (list_of leaves g true) e)
  xor_left f g false false e = sum_right (product_of (list_of leaves f true) (list_of leaves g true)) (product_of (list_of leaves f false) (list_of leaves g false)) (product_left (list_of leaves f false) (list_of leaves g false) e)

  xor_right : (f g : Formula) (p q : Bool) → list_of leaves g q ≡ None → list_of leaves (Xor f g) p ≡ None
  xor_right f g true true e = sum_right (product_of (list_of leaves f true) (list_of leaves g false)) (product_of (list_of leaves f false) (list_of leaves g true)) (product_right (list_of leaves f false) (list_of leaves g true) e)
  xor_right f g true false e = sum_left (product_of (list_of leaves f true) (list_of leaves g false)) (product_of (list_of leaves f false) (list_of leaves g true)) (product_right (list_of leaves f true) (list_of leaves g false) e)
  xor_right f g false true e = sum_left (product_of (list_of leaves f true) (list_of leaves g true)) (product_of (list_of leaves f false) (list_of leaves g false)) (product_right (list_of leaves f true) (list_of leaves g true) e)
  xor_right f g false false e = sum_right (product_of (list_of leaves f true) (list_of leaves g true)) (product_of (list_of leaves f false) (list_of leaves g false)) (product_right (list_of leaves f false) (list_of leaves g false) e)

-- ---- operands

module _ (net : Netlist) (bit : SignedBit) (can : CanLower net bit.id) where
  abbrev At : ExprId → Formula
  At id = formula_at (arena net.exprs) id

  abbrev leaves : Leaf → Bool → Products
  leaves = leaf_list net (node_list net (length net.nodes))

  -- the formula of the bit, if it is known
  reaches : (f : Formula) → f ≡ At bit.id → Reaches net (HasPair net) f
  reaches f is = subst (Reaches net (HasPair net)) (sym is) can.1

  wide : (f : Formula) → f ≡ At bit.id → list_of leaves f bit.positive ≡ None → signed_list net bit ≡ None
  wide f is none = subst (λ h. list_of leaves h bit.positive ≡ None) is none

  pub not_leads : (a : ExprId) → Not (At a) ≡ At bit.id → a.0 < bit.id.0 → (found : Option SignedBit)
      → IfSome found (λ (o : SignedBit). o ≡ record { id = a; positive = not bit.positive }) → IfSome found (Leads net bit)
  not_leads a is low None e = tt
  not_leads a is low (Some o) e = rw e ((omega (arith, low, can.0), reaches (Not (At a)) is), λ none. wide (Not (At a)) is none)

  pub and_leads : (a b : ExprId) → And (At a) (At b) ≡ At bit.id → (a.0 < bit.id.0) × (b.0 < bit.id.0) → (found : Option SignedBit)
      → IfSome found (λ (o : SignedBit). (o ≡ record { id = a; positive = bit.positive }) ⊎ (o ≡ record { id = b; positive = bit.positive })) → IfSome found (Leads net bit)
  and_leads a b is low None e = tt
  and_leads a b is low (Some o) (inl e) =
      rw e ((omega (arith, low.0, can.0), (reaches (And (At a) (At b)) is).0), λ none. wide (And (At a) (At b)) is (and_left leaves (At a) (At b) bit.positive none))
  and_leads a b is low (Some o) (inr e) =
      rw e ((omega (arith, low.1, can.0), (reaches (And (At a) (At b)) is).1), λ none. wide (And (At a) (At b)) is (and_right leaves (At a) (At b) bit.positive none))

  pub or_leads : (a b : ExprId) → Or (At a) (At b) ≡ At bit.id → (a.0 < bit.id.0) × (b.0 < bit.id.0) → (found : Option SignedBit)
      → IfSome found (λ (o : SignedBit). (o ≡ record { id = a; positive = bit.positive }) ⊎ (o ≡ record { id = b; positive = bit.positive })) → IfSome found (Leads net bit)
  or_leads a b is low None e = tt
  or_leads a b is low (Some o) (inl e) =
      rw e ((omega (arith, low.0, can.0), (reaches (Or (At a) (At b)) is).0), λ none. wide (Or (At a) (At b)) is (or_left leaves (At a) (At b) bit.positive none))
  or_leads a b is low (Some o) (inr e) =
      rw e ((omega (arith, low.1, can.0), (reaches (Or (At a) (At b)) is).1), λ none. wide (Or (At a) (At b)) is (or_right leaves (At a) (At b) bit.positive none))

  pub xor_leads : (a b : ExprId) → Xor (At a) (At b) ≡ At bit.id → (a.0 < bit.id.0) × (b.0 < bit.id.0) → (found : Option SignedBit)
      → IfSome found (λ (o : SignedBit). (o.id ≡ a) ⊎ (o.id ≡ b)) → IfSome found (Leads net bit)
  xor_leads a b is low None e = tt
  xor_leads a b is low (Some o) (inl e) =
      rw e ((omega (arith, low.0, can.0), (reaches (Xor (At a) (At b)) is).0), λ none. wide (Xor (At a) (At b)) is (xor_left leaves (At a) (At b) bit.positive o.positive none))
  xor_leads a b is low (Some o) (inr e) =
      rw e ((omega (arith, low.1, can.0), (reaches (Xor (At a) (At b)) is).1), λ none. wide (Xor (At a) (At b)) is (xor_right leaves (At a) (At b) bit.positive o.positive none))

  -- the node that the bit reads is reached
  pub node_reached : (n : ℕ) → Read (leaf.Node n) ≡ At bit.id → ReachesThrough net (HasPair net) (length net.nodes) n
  node_reached n is = reaches (Read (leaf.Node n)) is

  pub node_leads : (n : ℕ) → Read (leaf.Node n) ≡ At bit.id → (f : Function) → slice_get net.nodes n ≡ Some f → (found : Option SignedBit)
      → IfSome found (λ (o : SignedBit). o ≡ record { id = f.one; positive = complement_if f.complement bit.positive }) → IfSome found (Leads net bit)
  node_leads n is f there None e = tt
  node_leads n is f there (Some o) e =
      let reach = node_reached n is in
      let has = function_reaches_all net (HasPair net) (length net.nodes) n f there (omega arith) reach in
      let same = function_written net (HasPair net) (length net.nodes) n f bit.positive there (omega arith) reach in
      rw e ((has.inside, has.leaves), λ none. wide (Read (leaf.Node n)) is (same ∙ none))

-- ---- a stack of steps about bits that the root is made of

module _ (net : Netlist) (root : SignedBit) where
  abbrev StepLeads : Step → Type 0
  StepLeads step = Leads net root (bit_of step)

  pub walk_popped : (bit : SignedBit) (step : Step) (before rest : List Step) → before ≡ rest ++ step ∷ [] → step ≡ Walk bit
      → StepsLead net root before → StepsLead net root rest × Leads net root bit
  walk_popped bit step before rest is walk all =
      let parts = All-pop StepLeads before rest (Some step) is all in
      (parts.0, subst StepLeads walk parts.1)

  pub make_pushed : (bit : SignedBit) (before after : List Step) → after ≡ before ++ Make bit ∷ [] → Leads net root bit
      → StepsLead net root before → StepsLead net root after
  make_pushed bit before after put leads all = rw put (All-push StepLeads before (Make bit) all leads)

  -- what an operand is made of, the root is made of
  pub walk_pushed : (bit operand : SignedBit) (before after : List Step) → after ≡ before ++ Walk operand ∷ [] → Leads net root bit
      → Leads net bit operand → StepsLead net root before → StepsLead net root after
  walk_pushed bit operand before after put leads below all =
      rw put (All-push StepLeads before (Walk operand) all (below.0, λ none. leads.1 (below.1 none)))
