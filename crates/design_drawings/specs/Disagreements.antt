-- The list of a page's disagreements, which are those of the run (this project's rule).
use Rattle.std.specs.Prelude.{ℕ, ◌==◌, if◌then◌else◌, List, [], ◌∷◌, codes, flat_map, take}
use Rattle.std.specs.Fmt.{decimal}
use Rattle.std.specs.List.{concat}
use Rattle.device_sim.specs.declared.report.Mismatch.{Mismatch}
use Rattle.design_drawings.specs.Escaped.{escaped}
use Rattle.page_model.specs.Pins.{label_at}
use Rattle.page_model.specs.declared.pin_facts.PinFacts.{PinFacts}

-- the most disagreements that are listed
abbrev pub listed : ℕ
listed = 256

-- what a tested character says, or what was found: H, L or Z
abbrev pub level_words : (char : ℕ) → List ℕ
level_words char =
    if char == 72 then codes "driven high" else (if char == 76 then codes "driven low" else codes "released")

-- a disagreement, as a line of the list
unfoldable pub mismatch_item : List PinFacts → Mismatch → List ℕ
mismatch_item pins m =
    concat (codes "<li>vector " ∷ decimal m.vector ∷ codes ", pin " ∷ decimal m.pin
    ∷ codes " <code>" ∷ escaped (label_at pins m.pin) ∷ codes "</code>: expected " ∷ level_words m.expects
    ∷ codes ", found " ∷ level_words m.finds ∷ codes "</li>\n" ∷ [])

-- the first disagreements, in the order of the run
abbrev pub mismatch_items : List PinFacts → List Mismatch → List ℕ
mismatch_items pins list = flat_map (mismatch_item pins) (take listed list)
