-- Nothing is refused of the text of a device's fuses.
use Rattle.std.proofs.Common.{◌≡◌, ◌≢◌, Result, Ok, Err, refl}
use Rattle.decompiler.proofs.Common.{Table, model_sound, table_at, decompiled_text, SourcesAreRight, IsDecompiled, DecompiledTextsAreAccepted, DecompiledTextsAreShort, DecompiledTextsCompile, IsAnswered}
use Rattle.compile_phases.specs.declared.fault.CompileFault.{CompileFault}
use Rattle.compile_phases.specs.declared.fault.CompileFault.TheVariants.{Source, Place, Fit, OutOfMemory}
use Rattle.abel_compile.specs.declared.compiled.Compiled.{Compiled}
use Rattle.abel_compile.proofs.NeverRefused.{spelled}
use Rattle.decompiler.proofs.ReadTexts.{is_decompiled}
use Rattle.decompiler.proofs.TextSizes.{text_short}

pub texts_are_short : DecompiledTextsAreShort
texts_are_short device fuses = text_short (table_at device) fuses (model_sound device)

pub texts_are_accepted : SourcesAreRight → DecompiledTextsAreAccepted
texts_are_accepted right device fuses can spares asks =
    let t : Table = table_at device in
    let text : IsDecompiled t fuses (decompiled_text t fuses) =
    is_decompiled right t fuses (model_sound device) can.size can.no_loop can.no_path (decompiled_text t fuses) refl in
    record {
      source = text.source;
      read = text.read;
      device = device;
      named = asks text.source (spelled (decompiled_text t fuses) text.source text.read);
      so = (text.right.placed, text.right.accepted spares, text.right.fits spares);
    }

pub texts_compile : DecompiledTextsAreAccepted → DecompiledTextsCompile
texts_compile accepted device fuses r can spares asks never =
    let text = accepted device fuses can spares asks in
    by_answer r (never (record {
      source = text.source;
      read = text.read;
      device = text.device;
      named = text.named;
      so = record { placed = text.source; is = text.so.0; so = (text.so.1, text.so.2) };
    }))
  where
    by_answer : (r : Result Compiled CompileFault) → ((f : CompileFault) → f ≢ OutOfMemory → r ≡ Err f → ⊥) → IsAnswered r
    by_answer (Ok c) refuses = tt
    by_answer (Err OutOfMemory) refuses = tt
    by_answer (Err (Source f line)) refuses = refuses (Source f line) (λ e. cc) refl
    by_answer (Err (Place f line)) refuses = refuses (Place f line) (λ e. cc) refl
    by_answer (Err (Fit f line)) refuses = refuses (Fit f line) (λ e. cc) refl
