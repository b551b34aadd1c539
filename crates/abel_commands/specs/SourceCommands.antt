-- `compile IN OUT` and `list IN`: how they end, and what that means (this project's rule).
use Rattle.std.specs.Prelude.{◌≡◌, ℕ, ◌≤◌, ◌⊎◌, List, length, Some, None}
use Rattle.abel_commands.specs.Prelude.{Compiled, IsCompiled}
use Rattle.fitter.specs.declared.fault.FitFault.{FitFault}
use Rattle.compile_phases.specs.declared.fault.SourceFault.{SourceFault}
use Rattle.compile_phases.specs.Fits.{FitsAsWritten, IsOfFit, IsUnfitFor}
use Rattle.placer.specs.declared.fault.PlaceFault.{PlaceFault}
use Rattle.compile_phases.specs.Placings.{IsPlacedFor, IsUnplacedFor}
use Rattle.compile_phases.specs.SourceRefusals.{IsAcceptedFor, IsReadFor, IsSourceRefused}
use Rattle.abel_commands.specs.Ending.{Ending, ends, too_long_line}
use Rattle.abel_commands.specs.Limit.{limit, IsTooLong}

-- ---- of a source; what its bytes amount to, and which report they have, is for the compiler to say

-- the source is refused, with this report
abbrev pub IsRefusedWith : (text report : List ℕ) → Type 0
IsRefusedWith text report = (f : SourceFault) × IsSourceRefused text f report

-- the source is accepted, and its signals can't all be placed, or it does not fit its device, with this report
abbrev pub IsUnfitWith : (text report : List ℕ) → Type 0
IsUnfitWith text report =
    ((f : PlaceFault) × IsReadFor text (IsUnplacedFor f report))
    ⊎ ((f : FitFault) × IsOfFit f × IsReadFor text (IsPlacedFor (IsUnfitFor f report)))

-- the source is too long, or refused
abbrev pub IsRefused : (text : List ℕ) → Type 0
IsRefused text = IsTooLong text ⊎ ((report : List ℕ) × IsRefusedWith text report)

-- the source is within the limit, and can't be placed or does not fit its device
abbrev pub IsUnfit : (text : List ℕ) → Type 0
IsUnfit text = (length text ≤ limit) × (report : List ℕ) × IsUnfitWith text report

-- the source is within the limit, accepted, and fits its device as it is written
abbrev pub Fits : (text : List ℕ) → Type 0
Fits text = (length text ≤ limit) × IsReadFor text (IsPlacedFor (λ t m. IsAcceptedFor t m × FitsAsWritten t m))

-- ---- what is reported of a compiled source

-- `compile`: the file goes under OUT, and the summary is the report
abbrev pub written : (output : List ℕ) → Compiled → Ending
written output c =
    record { status = 0; text = c.summary.items; output = Some (record { name = output; bytes = c.file.items }) }

-- `list`: the listing is the report
abbrev pub listed : Compiled → Ending
listed c = ends 0 c.listing.items

-- ---- endings

-- how a command ends with a source that isn't compiled: with the report on why
abbrev pub EndsUncompiled : (text : List ℕ) → Ending → Type 0
EndsUncompiled text e =
    ((report : List ℕ) × IsRefusedWith text report × (e ≡ ends 2 report))
    ⊎ ((report : List ℕ) × IsUnfitWith text report × (e ≡ ends 3 report))

module _ (text : List ℕ) (told : Compiled → Ending) where
  -- how it ends with a source within the limit
  abbrev pub SourceEndsWithin : Ending → Type 0
  SourceEndsWithin e = ((c : Compiled) × IsCompiled text c × (e ≡ told c)) ⊎ EndsUncompiled text e

  -- how it ends
  abbrev pub SourceEnds : Ending → Type 0
  SourceEnds e = (IsTooLong text × (e ≡ ends 2 too_long_line)) ⊎ ((length text ≤ limit) × SourceEndsWithin e)

  -- what such an ending means
  pub record SourceMeans (e : Ending) : Type 0 where
    -- 0, 2 and 3 are its statuses
    pub statuses : (e.status ≡ 0) ⊎ ((e.status ≡ 2) ⊎ (e.status ≡ 3))
    -- 0 occurs for a compiled source alone, and for each that fits as it is written
    pub compiled : e.status ≡ 0 → (c : Compiled) × IsCompiled text c × (e ≡ told c)
    pub compiled_where : Fits text → e.status ≡ 0
    -- 2 is answered exactly for a source that is too long or refused
    pub refused : e.status ≡ 2 → IsRefused text
    pub refused_where : IsRefused text → e.status ≡ 2
    -- 3 is answered only for one that does not fit
    pub unfit : e.status ≡ 3 → IsUnfit text
    -- only under 0 is anything written
    pub unwritten : 1 ≤ e.status → e.output ≡ None
