-- A device can take the netlist of a decompiled source.
use Rattle.std.proofs.Common.{◌≡◌, ℕ, suc, ◌<◌, inl, inr, Bool, true, false, not, Some, List, slice_get, refl, sym, ap, ◌∙◌, eqb-true}
use Rattle.decompiler.proofs.Common.{true≢false, Flip, Always, AfterRegister, BeforeRegister, IsDevice, pin_complements, is_inverted, Table, arena, Kind, ANode, follows_q, ModuleTree, is_on_pin, Design, design_of, name_at, HasNoSignalLoop, HasNoSignalPath, NodesAreFew, PinsApart, Contributions, AreContributed, SparesPowerDown, IsSourceTree, pins_of, source_of, taken_once, cell_name, IsNameAt, names_at, is_named, DesignsAreTakeable}
use Rattle.design.specs.Accepted.{BuffersAreBehind}
use Rattle.design.specs.Unrefused.{IsUnrefused, UnrefusedIsTakeable}
use Rattle.design.specs.AssignedCorrect.{HasSoundDeclarations}
use Rattle.design.proofs.SoundModules.{all_accepted}
use Rattle.design_checks.specs.declared.rules.Rule.TheVariants as rule
use Rattle.decompiler.proofs.PlainNames.{names_plain}
use Rattle.decompiler.proofs.UnrefusedSections.{good_lines, sections_pass}
use Rattle.decompiler.proofs.CellChains.{no_signal_loop, no_signal_path}
use Rattle.decompiler.proofs.PinTargets.{no_nodes, targets_pass}
use Rattle.decompiler.proofs.ReadUses.{none_missing, none_unread}
use Rattle.decompiler.proofs.SignalCells.{IsOn, on_or_none, on_stored}
use Rattle.decompiler.proofs.UnrefusedDesigns.{all_of}

-- the name is no node
abbrev is_no_node : Kind → Bool
is_no_node (ANode number) = false
is_no_node _ = true

module _ (t : Table) (fuses : List Bool) (laws : IsDevice t) (m : ModuleTree) (is : IsSourceTree (source_of t fuses) m) where
  abbrev d : Design
  d = design_of t m

  -- ---- names

  -- a name that has this pin, by its number
  record IsPinAt (pin i : ℕ) : Type 0 where
    pub place : ℕ
    pub number : i ≡ suc place
    pub there : slice_get (pins_of t fuses) place ≡ Some pin

  pin_at : (pin i : ℕ) → is_on_pin pin (name_at d.context i).kind ≡ true → IsPinAt pin i
  pin_at pin i has = by_name (names_at t fuses laws m is i)
    where
      by_name : IsNameAt t fuses laws m is i → IsPinAt pin i
      by_name (inl device) = absurd (true≢false (sym has ∙ ap (is_on_pin pin) device.0))
      by_name (inr of) =
          let same : of.1 ≡ pin = eqb-true of.1 pin (sym (ap (is_on_pin pin) of.4) ∙ has) in
          record { place = of.0; number = of.2; there = of.3 ∙ ap Some same }

  pins_apart : PinsApart d.context
  pins_apart pin i j has_i has_j =
      let a = pin_at pin i has_i in
      let b = pin_at pin j has_j in
      a.number ∙ ap suc (taken_once (is_named t fuses laws) 1 t.pins a.place b.place pin a.there b.there) ∙ sym b.number

  no_node : (k : Kind) (n : ℕ) → is_no_node k ≡ true → k ≡ ANode n → ⊥
  no_node k n plain is_node = true≢false (sym plain ∙ ap is_no_node is_node)

  nodes_few : NodesAreFew d.context
  nodes_few s n kind = by_name (names_at t fuses laws m is s)
    where
      by_name : IsNameAt t fuses laws m is s → n < 128
      by_name (inl device) = absurd (no_node (name_at d.context s).kind n (ap is_no_node device.0) kind)
      by_name (inr of) = absurd (no_node (name_at d.context s).kind n (ap is_no_node of.4) kind)

  -- a register whose pin equals Q is one of a device that complements after it
  behind : (flip : Flip) (inverted : Bool) → not (pin_complements flip true inverted) ≡ true → flip ≡ AfterRegister
  behind Always inverted e = absurd (true≢false (sym e))
  behind AfterRegister inverted e = refl
  behind BeforeRegister inverted e = absurd (true≢false (sym e))

  buffers_behind : BuffersAreBehind d.context
  buffers_behind s stored follows clocked = elim (on_or_none t fuses laws m is s) [
    | inl on ↦ on_this on
    | inr none ↦ absurd (true≢false (sym stored ∙ none.plain))
  ]
    where
      on_this : IsOn t fuses laws m is s → t.flip ≡ AfterRegister
      on_this on =
          let c = cell_name t fuses laws m is on.cell on.within on.declared in
          behind t.flip (is_inverted t fuses on.cell)
          (
          sym (ap (λ (i : ℕ). follows_q (name_at d.context i)) on.at ∙ c.follows (sym (on_stored t fuses laws m is s on) ∙ stored))
          ∙ follows
          )

  declarations : HasSoundDeclarations d.context
  declarations = record { pins = pins_apart; nodes = nodes_few; buffers = buffers_behind }

  -- ---- the whole

  module _ (found : Contributions) (of : AreContributed d found) where
    pub unrefused_by : SparesPowerDown t fuses → (no_loop : HasNoSignalLoop d) → ((s : ℕ) → HasNoSignalPath d s) → IsUnrefused d found.list
    unrefused_by spares no_loop no_path = record {
      kinds = targets_pass t fuses laws m is (arena found.exprs) rule.Kinds found.list (all_of t fuses laws m is found of);
      nodes = no_nodes 0 d.context.names (names_plain t fuses laws m is);
      controls = targets_pass t fuses laws m is (arena found.exprs) rule.Controls found.list (all_of t fuses laws m is found of);
      missing = none_missing t fuses laws m is spares (good_lines t fuses laws m is);
      unread = none_unread t fuses laws m is spares (good_lines t fuses laws m is);
      no_loop = no_loop;
      no_path = no_path;
    }

pub designs_takeable : UnrefusedIsTakeable → DesignsAreTakeable
designs_takeable takes t fuses m laws long is no_loop no_path spares found of =
    takes (design_of t m) (arena found.exprs) found.list laws
    (all_accepted t m (declarations t fuses laws m is) (sections_pass t fuses laws m is)) of.gives
    (unrefused_by t fuses laws m is found of spares (no_signal_loop t fuses laws long m is no_loop) (λ s. no_signal_path t fuses laws long m is s no_path))
