-- What the phases answer for the module of a text, as an answer for the text.
use Rattle.std.proofs.Common.{◌≡◌, ℕ, ◌≤◌, Some, List, [], length, Result, Ok, Err, sym, ap, ◌∙◌, subst, inl, inr, IfOk, IfErr, option_map}
use Rattle.abel_compile.proofs.Common.{Model, canonical_file, Word, ModuleTree, model_named, model_of, names_of, name_refusals, source_vectors, SpellsModule, IsRead, IsPinned, Compiled, CompileFault, Source, Place, Fit, OutOfMemory, SourceFault, Expand, Scan, Parse, Names, Sections, Design, Width, CompileAnswers, IsRightFile, table_at, IsOfSource, IsTextFault, IsNameFault, IsUnnamed, IsReadAlone, IsRefusedBy, IsPlacedFor, IsCompiledFor, IsCompiledOn, IsSourceRefused, placed_name}
use Rattle.abel_lexer.specs.Kinds.{longest_name}
use Rattle.module_reader.proofs.ShortNames.{name_is_short}
use Rattle.abel_compile.proofs.NeverRefused.{spelled}

-- ---- the text

text_refused : (text : List ℕ) (f : SourceFault) (line : List ℕ) → IsTextFault text f line → IsSourceRefused text f line
text_refused text (Expand f) line h = h
text_refused text (Scan f) line h = h
text_refused text (Parse f) line h = h
text_refused text (Names f) line h = absurd h
text_refused text (Sections f) line h = absurd h
text_refused text (Design f) line h = absurd h
text_refused text (Width f) line h = absurd h

pub of_text : (text : List ℕ) (e : CompileFault) → IsOfSource (IsTextFault text) e → CompileAnswers text (Err e)
of_text text (Source f line) h = text_refused text f line.items h
of_text text (Place f line) h = absurd h
of_text text (Fit f line) h = absurd h
of_text text OutOfMemory h = tt

-- ---- its device

device_refused : (text : List ℕ) (m : ModuleTree) (f : SourceFault) (line : List ℕ) → IsRead text m → IsNameFault (IsUnnamed m) f line
    → IsSourceRefused text f line
device_refused text m (Names f) line read h = inl (record { source = m; read = read; unnamed = ap (option_map (model_of m)) h.0.0; fault = h.0.1 }, h.1)
device_refused text m (Expand f) line read h = absurd h
device_refused text m (Scan f) line read h = absurd h
device_refused text m (Parse f) line read h = absurd h
device_refused text m (Sections f) line read h = absurd h
device_refused text m (Design f) line read h = absurd h
device_refused text m (Width f) line read h = absurd h

pub of_device : (text : List ℕ) (m : ModuleTree) (e : CompileFault) → IsRead text m → IsOfSource (IsNameFault (IsUnnamed m)) e
    → CompileAnswers text (Err e)
of_device text m (Source f line) read h = device_refused text m f line.items read h
of_device text m (Place f line) read h = absurd h
of_device text m (Fit f line) read h = absurd h
of_device text m OutOfMemory read h = tt

-- ---- its module for the device

module _ (text : List ℕ) (m : ModuleTree) (device : Model) (read : IsRead text m) (named : model_named m ≡ Some device) where
  pub of_refused : (e : CompileFault) → IsRefusedBy (table_at device) m e → CompileAnswers text (Err e)
  of_refused (Source (Names f) line) h = inr (record { source = m; read = read; device = device; named = named; so = h })
  of_refused (Source (Sections f) line) h = record { source = m; read = read; device = device; named = named; so = h }
  of_refused (Source (Design f) line) h = record { source = m; read = read; device = device; named = named; so = h }
  of_refused (Source (Width f) line) h = record { source = m; read = read; device = device; named = named; so = h }
  of_refused (Source (Expand f) line) h = let never : ⊥ = h.so in absurd never
  of_refused (Source (Scan f) line) h = let never : ⊥ = h.so in absurd never
  of_refused (Source (Parse f) line) h = let never : ⊥ = h.so in absurd never
  of_refused (Place f line) h = record { source = m; read = read; device = device; named = named; so = h }
  of_refused (Fit f line) h = (h.0, record { source = m; read = read; device = device; named = named; so = h.1 })
  of_refused OutOfMemory h = tt

-- the module is compiled for the device that it names
pub of_compiled : (text : List ℕ) (m : ModuleTree) (device : Model) (c : Compiled) → IsReadAlone text m → model_named m ≡ Some device
    → IsPlacedFor (λ t p. IsCompiledOn t (names_of t m) device p c) (table_at device) m → CompileAnswers text (Ok c)
of_compiled text m device c alone named is =
    let here : IsCompiledFor (table_at c.device) (names_of (table_at c.device) m) is.placed c =
    subst (λ (d : Model). IsCompiledFor (table_at d) (names_of (table_at d) m) is.placed c) (sym is.so.device_is) is.so.compiled in
    record {
      right = record {
        source = m;
        read = spelled text m alone.read;
        only = alone.only;
        named = subst (λ (d : Model). model_named m ≡ Some d) (sym is.so.device_is) named;
        placed = is.placed;
        is_placed = subst (λ (d : Model). IsPinned (table_at d) m is.placed) (sym is.so.device_is) is.is.pinned;
        fuses = here.fuses;
        size = here.right.size;
        mode = here.right.so.fixed;
        one_rest = here.right.does.one_rest;
        does = here.right.does;
        canonical = here.told.canonical ∙ ap (λ (w : Word). canonical_file (table_at c.device) w.text here.fuses (source_vectors (table_at c.device) is.placed)) (placed_name (table_at device) m is.placed is.is);
        within = here.told.within (subst (λ (w : Word). length w.text ≤ longest_name) (sym (placed_name (table_at device) m is.placed is.is)) (name_is_short text m (spelled text m alone.read)));
        reads_back = here.told.reads_back;
      };
      read = alone.read;
      names = subst (λ (d : Model). name_refusals (table_at d) m ≡ []) (sym is.so.device_is) is.is.names;
      accepted = here.accepted;
      takeable = here.right.takeable;
      fuses = here.right.so;
      listing = here.told.listing;
      summary = here.told.summary;
    }

-- either answer of the module's device
pub answers_of : (text : List ℕ) (m : ModuleTree) (device : Model) (r : Result Compiled CompileFault) → IsReadAlone text m
    → model_named m ≡ Some device → IfOk r (λ c. IsPlacedFor (λ t p. IsCompiledOn t (names_of t m) device p c) (table_at device) m) → IfErr r (IsRefusedBy (table_at device) m)
    → CompileAnswers text r
answers_of text m device (Ok c) alone named ok err = of_compiled text m device c alone named ok
answers_of text m device (Err e) alone named ok err = of_refused text m device alone.read named e err

-- the file that there may be is right for the text
abbrev pub HasRightFile : List ℕ → Result Compiled CompileFault → Type 0
HasRightFile text r = IfOk r (λ c. IsRightFile SpellsModule table_at text c.device c.file.items)

pub file_is_right : (text : List ℕ) (r : Result Compiled CompileFault) → CompileAnswers text r → HasRightFile text r
file_is_right text (Ok c) is = is.right
file_is_right text (Err e) is = tt
