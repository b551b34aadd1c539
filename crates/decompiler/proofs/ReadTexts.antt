-- The text of a device's fuses is read as the module of their source, which is right.
use Rattle.std.proofs.Common.{◌≡◌, ℕ, Bool, List, length, sym, subst}
use Rattle.decompiler.proofs.Common.{IsRead, HasNoLoop, IsDevice, Table, cell_reads, HasNoResetPath, decompiled_text, source_of, SourcesAreRight, IsDecompiled, IsReadAsSource}
use Rattle.decompiled.proofs.ReadTexts.{read}
use Rattle.decompiler.proofs.LowPins.{source_low}

pub read_as_source : (t : Table) (fuses : List Bool) → IsDevice t → (text : List ℕ) → text ≡ decompiled_text t fuses → IsReadAsSource t fuses text
read_as_source t fuses laws text is =
    let there = read (source_of t fuses) (source_low t fuses laws) in
    (there.0, there.1, subst (λ (v : List ℕ). IsRead v there.0) (sym is) there.2)

module _ (right : SourcesAreRight) (t : Table) (fuses : List Bool) (laws : IsDevice t) (long : length fuses ≡ t.fuses)
    (no_loop : HasNoLoop (length t.cells) (cell_reads t fuses)) (no_path : HasNoResetPath t fuses) where
  pub is_decompiled : (text : List ℕ) → text ≡ decompiled_text t fuses → IsDecompiled t fuses text
  is_decompiled text is =
      let there = read_as_source t fuses laws text is in
      record { source = there.0; read = there.2; right = right t fuses there.0 laws long there.1 no_loop no_path }
