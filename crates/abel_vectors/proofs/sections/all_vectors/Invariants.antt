-- What is found of the sections that are left is found of all.
use Rattle.std.proofs.Common.{◌≡◌, ℕ, ◌-◌, drop}
use Rattle.abel_vectors.proofs.Common.{sections_vectors, context_for, view_sections, Found, Finds, refused_behind}
use Rattle.abel_vectors.proofs.sections.all_vectors.Given as goal

abbrev pub invariant-loop-section : goal.invariant-loop-section
invariant-loop-section g l =
    let d = context_for g.D.Device.table l.on.scope.now in
    let left = view_sections (drop l.section-index l.section-items) in
    let all = view_sections l.section-items in
    (before : ℕ) × (l.room ≡ 9999 - before)
    × ((later : Found) → Finds d.device (refused_behind d before left) (sections_vectors d left) l.found later → Finds d.device (refused_behind d 0 all) (sections_vectors d all) l.initial.found later)
