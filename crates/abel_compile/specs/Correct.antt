-- What holds of a compiled source beside the main statement: what is accepted, its fuses, the listing and the summary (this
-- project's rule).
use Rattle.std.specs.Prelude.{◌≡◌, ℕ, List, []}
use Rattle.abel_compile.specs.Prelude.{design_of, names_of, SpellsModule, IsRead, IsTakeable, listing_text, design_cells, summary_of, table_at, IsAcceptedFor}
use Rattle.decls.specs.NameRefusals.{name_refusals}
use Rattle.abel_compile.specs.declared.compiled.Compiled.{Compiled}
use Rattle.abel_compile.specs.Fuses.{AreFusesOf}
use Rattle.abel_compile.specs.Statement.{IsRightFile}

-- the file is right for the text; no construct of the text nests too deep, nothing is refused of the names of its module or
-- of its placed module for the device, and the device can take that module's design; so are its fuses; and the listing and the
-- summary are of just these
pub record IsCompiled (text : List ℕ) (c : Compiled) : Type 0 where
  pub right : IsRightFile SpellsModule table_at text c.device c.file.items
  pub read : IsRead text right.source
  pub names : name_refusals (table_at c.device) right.source ≡ []
  pub accepted : IsAcceptedFor (table_at c.device) right.placed
  pub takeable : IsTakeable (design_of (table_at c.device) right.placed)
  pub fuses : AreFusesOf (table_at c.device) right.placed right.fuses
  pub listing : c.listing.items ≡ listing_text (table_at c.device) right.fuses (names_of (table_at c.device) right.source) (names_of (table_at c.device) right.placed)
  pub summary : c.summary.items ≡ summary_of (table_at c.device) (design_cells (design_of (table_at c.device) right.placed).context) right.fuses
