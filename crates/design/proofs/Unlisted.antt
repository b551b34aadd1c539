-- What an empty list of refusals says of each contribution, of each name and of a design.
use Rattle.std.proofs.Common.{◌≡◌, ℕ, zero, suc, Bool, true, false, ◌&&◌, Some, List, [], ◌∷◌, ◌++◌, map, refl, subst, slice_get}
use Rattle.design.proofs.Common.{AllByRecursion, same_Some, Formula, Entry, is_data, Context, Design, name_at, view_contribution, left_empty, right_empty, is_lacking, is_wrong_target, lacking_controls, targets_refused, wrong_kinds, has_wrong_kind, is_registered_node, lacks_control, node_refused, registered_nodes, missing_uses, unread_uses, other_levels, target_controls, HasSoundSignals, HasNoRefusal, IsUnrefused}
use Rattle.design_checks.specs.UsesRefused.{told_if, told}
use Rattle.abel_meaning.specs.Contributions as meant
use Rattle.set_expr.specs.declared.contributions.Contribution.{Contribution}
use Rattle.design_checks.specs.Written.{unwritten}
use Rattle.design_checks.specs.declared.refused.RefusedUse.{RefusedUse}

not_refused : (b : Bool) (r : RefusedUse) → told_if b r ≡ [] → b ≡ false
not_refused true r e = absurd cc
not_refused false r e = refl

module _ (d : Context) (fs : List Formula) where
  -- data are to signals that their cells can be
  abbrev pub FitsKind : meant.Contribution Formula → Type 0
  FitsKind c = (is_data c.extension && has_wrong_kind d.device (name_at d c.signal)) ≡ false

  -- a control is one that its signal has
  abbrev pub HasControl : meant.Contribution Formula → Type 0
  HasControl c = lacks_control d.device (name_at d c.signal) c.extension ≡ false

  -- what a test refuses of none, it refuses of no contribution
  each_passes : (test : Entry → Contribution → Bool) (P : meant.Contribution Formula → Type 0) → ((c : Contribution) → test (name_at d c.target.signal) c ≡ false → P (view_contribution fs c))
      → (cs : List Contribution) → targets_refused test d.names cs ≡ [] → AllByRecursion P (map (view_contribution fs) cs)
  each_passes test P says [] e = tt
  each_passes test P says (c ∷ cs) e =
      let told : RefusedUse = record { place = c.place; name = c.target.signal } in
      let own = told_if (test (name_at d c.target.signal) c) told in (
        says c (not_refused (test (name_at d c.target.signal) c) told (left_empty own (targets_refused test d.names cs) e)),
        each_passes test P says cs (right_empty own (targets_refused test d.names cs) e),
      )

  pub kinds_fit : (cs : List Contribution) → wrong_kinds d.device d.names cs ≡ [] → AllByRecursion FitsKind (map (view_contribution fs) cs)
  kinds_fit cs e = each_passes (is_wrong_target d.device) FitsKind (λ c fits. fits) cs e

  pub controls_there : (cs : List Contribution) → lacking_controls d.device d.names cs ≡ [] → AllByRecursion HasControl (map (view_contribution fs) cs)
  controls_there cs e = each_passes (is_lacking d.device) HasControl (λ c has. has) cs e

pub no_registered : (s : ℕ) (xs : List Entry) → registered_nodes s xs ≡ [] → (k : ℕ) (x : Entry) → slice_get xs k ≡ Some x → is_registered_node x ≡ false
no_registered s [] e k x is = absurd cc
no_registered s (y ∷ xs) e zero x is =
    subst (λ z. is_registered_node z ≡ false) (same_Some y x is) (not_refused (is_registered_node y) (record { place = y.place; name = s }) (left_empty (node_refused s y) (registered_nodes (suc s) xs) e))
no_registered s (y ∷ xs) e (suc k) x is =
    no_registered (suc s) xs (right_empty (node_refused s y) (registered_nodes (suc s) xs) e) k x is

-- ---- a design of whose signals nothing is refused, and that has no chains

mapped_empty : {X Y : Type 0} (f : X → Y) (xs : List X) → map f xs ≡ [] → xs ≡ []
mapped_empty f [] e = refl
mapped_empty f (x ∷ xs) e = absurd cc

module _ (d : Design) (fs : List Formula) (cs : List Contribution) where
  -- no target names what its signal doesn't have
  pub had : HasSoundSignals d fs cs → lacking_controls d.context.device d.context.names cs ≡ []
  had sound =
      left_empty (lacking_controls d.context.device d.context.names cs) (other_levels d.context.device fs d.context.names cs)
      (left_empty (target_controls d.context.device fs d.context.names cs) (unwritten d ++ map told (missing_uses d)) sound.uses.controls.controls)

  pub unrefused : HasNoRefusal d fs cs → IsUnrefused d cs
  unrefused none = record {
    kinds = none.signals.kinds.kinds;
    nodes = none.signals.kinds.nodes;
    controls = had none.signals;
    missing = mapped_empty told (missing_uses d) (right_empty (unwritten d) (map told (missing_uses d)) (right_empty (target_controls d.context.device fs d.context.names cs) (unwritten d ++ map told (missing_uses d)) none.signals.uses.controls.controls));
    unread = mapped_empty told (unread_uses d) none.signals.uses.paths;
    no_loop = none.no_loop;
    no_path = none.no_path;
  }
