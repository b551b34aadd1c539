-- Sound names have pins below 32 and nodes below 128.
use Rattle.std.proofs.Common.{ℕ, ◌≤◌, List, arith}
use Rattle.compile_phases.proofs.Common.{Kind, APin, ANode, AConstant, ADeviceName, Entry}
use Rattle.pld_base.specs.declared.device_name.DeviceName.{DeviceName}
use Rattle.abel_tree.specs.declared.names.Names.{Names}
use Rattle.abel_tree.specs.SoundNames.{IsSoundKind, SoundNames}
use Rattle.set_expr.specs.Scopes.{IsPlacedKind, ArePlaced}

placed_kind : (pins : ℕ) (es : List Entry) (x : Kind) → pins ≤ 24 → IsSoundKind pins es x → IsPlacedKind x
placed_kind pins es (APin p negated) few sound = omega (arith, few, sound.1)
placed_kind pins es (ANode n) few sound = sound
placed_kind pins es (AConstant value) few sound = tt
placed_kind pins es ADeviceName few sound = tt

pub sound_placed : (name : DeviceName) (pins : ℕ) (n : Names) → pins ≤ 24 → SoundNames name pins n → ArePlaced n
sound_placed name pins n few sound k e is = placed_kind pins _ e.kind few (sound.kinds k e is)
