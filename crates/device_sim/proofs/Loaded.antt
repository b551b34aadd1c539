-- The vectors' run on a device with its fuses, and why one isn't run.
use Rattle.std.proofs.Common.{◌≡◌, ℕ, ◌≤◌, Bool, Option, None, List, sym, ◌∙◌, subst, arith}
use Rattle.device_sim.proofs.Common.{All, length-take, All-map, Vector, device_logic, Table, all_chars, IsOrdered, RunsOnce, device_lookups, same_logic, Mismatch, first_unsupported, IsSimFault, IsVectorRun, chars_at, all_chars_at, mismatches_after}
use Rattle.jedec_file.specs.FuseFile.{FuseFile}
use Rattle.device_logic.specs.LoadFaults.{IsLoadFault}
use Rattle.device_logic.specs.declared.fault.SimFault.{SimFault}
use Rattle.device_logic.specs.declared.fault.SimFault.TheVariants.{UnsupportedCondition, DeviceLoop, DeviceResetReadsRegister, OutOfMemory}
use Rattle.device_sim.proofs.OneList.{IsNarrow, is_vector_run, one_list}

-- the characters at the pins of a device are few
pub narrow : (pins : ℕ) (vectors : List Vector) → pins ≤ 24 → All IsNarrow (all_chars_at pins vectors)
narrow pins vectors few = All-map IsNarrow (chars_at pins) vectors (λ k d within. omega (arith, length-take {A = ℕ}))

module _ (t : Table) (default : Bool) (vectors : List Vector) (few : t.pins ≤ 24) where
  -- the computed list is that of the device's run
  device_run : (fuses : List Bool) (order : List ℕ) → IsOrdered (device_lookups t fuses order) → IsVectorRun (device_logic t fuses) default (all_chars t vectors) (mismatches_after (device_lookups t fuses order) default 1 None (all_chars_at t.pins vectors))
  device_run fuses order ordered =
      subst (λ m. IsVectorRun m default (all_chars t vectors) (mismatches_after (device_lookups t fuses order) default 1 None (all_chars_at t.pins vectors)))
      (same_logic t fuses order)
      (is_vector_run (device_lookups t fuses order) ordered default (all_chars_at t.pins vectors) (narrow t.pins vectors few))

  -- and so is the same list of a loaded device
  pub is_device_run : (fuses loaded : List Bool) (order : List ℕ) (pins : ℕ) (slice : List Vector) (items list : List Mismatch) → loaded ≡ fuses → pins ≡ t.pins → slice ≡ vectors → IsOrdered (device_lookups t loaded order) → items ≡ mismatches_after (device_lookups t loaded order) default 1 None (all_chars_at pins slice) → list ≡ items → IsVectorRun (device_logic t fuses) default (all_chars t vectors) list
  is_device_run fuses loaded order pins slice items list same_fuses same_pins same_vectors ordered items_are list_is =
      rw (list_is, items_are, same_pins, same_vectors)
      (subst (λ fs. IsVectorRun (device_logic t fs) default (all_chars t vectors) (mismatches_after (device_lookups t loaded order) default 1 None (all_chars_at t.pins vectors))) same_fuses (device_run loaded order ordered))

  -- no other list is
  pub only_device_run : (fuses : List Bool) → RunsOnce (device_logic t fuses) → (list other : List Mismatch) → IsVectorRun (device_logic t fuses) default (all_chars t vectors) list → IsVectorRun (device_logic t fuses) default (all_chars t vectors) other → other ≡ list
  only_device_run fuses once list other list_is other_is =
      one_list (device_logic t fuses) once default (all_chars t vectors) (narrow t.pins vectors few) other list other_is list_is

-- every character is simulated
pub none_unsupported : (t : Table) (pins : ℕ) (slice vectors : List Vector) (found : Option (ℕ × ℕ)) → pins ≡ t.pins → slice ≡ vectors → found ≡ first_unsupported 1 (all_chars_at pins slice) → found ≡ None → first_unsupported 1 (all_chars t vectors) ≡ None
none_unsupported t pins slice vectors found pins_is same found_is none = rw (pins_is, same) at (sym found_is ∙ none)

-- why a device isn't loaded is why it isn't simulated, if every character is simulated
pub load_fault : (t : Table) (file : FuseFile) (fault : SimFault) → first_unsupported 1 file.vectors ≡ None → IsLoadFault t file.fuses fault → IsSimFault t file fault
load_fault t file (UnsupportedCondition vector pin) none is = absurd is
load_fault t file (DeviceLoop pins) none is = (none, is)
load_fault t file (DeviceResetReadsRegister pins) none is = (none, is.0, is.1)
load_fault t file OutOfMemory none is = tt
