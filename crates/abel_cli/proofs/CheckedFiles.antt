-- After `compile`, `check` of OUT gives the figures of the report.
use Rattle.std.proofs.Common.{◌≡◌, ℕ, List, [], ◌++◌, Option, sym, ap, ◌∙◌, subst, unwrap_or}
use Rattle.abel_cli.proofs.Common.{bytes_at, Asked, Heard, file_table, table_at, Promises, source_at}
use Rattle.jedec_reader.specs.DeviceFiles.{IsFileOf}
use Rattle.abel_meaning.specs.Designs.{design_of}
use Rattle.abel_meaning.specs.Vectors.{source_vectors}
use Rattle.reports.specs.Summary.{design_cells}
use Rattle.abel_compile.specs.Statement.{fuses_and_vectors}
use Rattle.abel_commands.specs.CheckCommand.{CheckEnds}
use Rattle.abel_commands.proofs.CheckMeaning.{checked_as}
use Rattle.file_models.proofs.ModelFiles.{file_table_is}
use Rattle.abel_cli.specs.Checked.{HasChecked}
use Rattle.abel_cli.proofs.Kept.{compiled}

module _ (a : Asked) (h : Heard) where
  -- `check` of OUT reads the file that is there, and gives its numbers
  pub checked : Promises a h → a.told → h.status ≡ 0 → HasChecked a.words a.new h.told h.old h.new
  checked p tells is i o w =
      let r = compiled a h p tells is i o w in
      let t = table_at r.0.device in
      let own : bytes_at a.new o ≡ r.0.file.items = ap (λ (found : Option (List ℕ)). unwrap_or found []) r.2 in
      let says = fuses_and_vectors t r.1.right.fuses (source_vectors t r.1.right.placed) in
      let is_file : IsFileOf t (bytes_at a.new o) says =
      subst (λ (bytes : List ℕ). IsFileOf t bytes says) (sym own)
      (record { within = r.1.right.within; read = r.1.right.reads_back; mode = r.1.right.mode }) in
      record {
        device = r.0.device;
        fuses = r.1.right.fuses;
        vectors = source_vectors t r.1.right.placed;
        is_file = is_file;
        checked = λ e ends.
            let of_file = subst (λ (s : List (List ℕ)). CheckEnds (file_table r.0.device.name (source_at s 0)) (source_at s 0) e) (ends.own tt) ends.ends in
            checked_as t (bytes_at a.new o) says is_file e
            (subst (λ x. CheckEnds x (bytes_at a.new o) e) (file_table_is r.0.device (bytes_at a.new o) says is_file) of_file);
        cells = design_cells (design_of t r.1.right.placed).context;
        summary = λ reports. r.3 reports ∙ ap (λ (text : List ℕ). h.old ++ text) r.1.summary;
      }
