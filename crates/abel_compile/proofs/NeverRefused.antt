-- A source that is accepted and fits as it is written is refused only for lack of memory.
use Rattle.std.proofs.Common.{◌≡◌, ◌≢◌, ℕ, Some, None, List, Result, Ok, Err, refl, sym, ap, ◌∙◌, subst, IfErr, option_map}
use Rattle.abel_compile.proofs.Common.{Model, IsDevice, Table, ModuleTree, model_named, model_of, name_order, name_refusals, SpellsModule, IsRead, read_or_not, Compiled, CompileFault, Source, Place, Fit, OutOfMemory, SourceFault, Expand, Scan, Parse, Names, Sections, Design, Width, FitsAsWritten, IsUnfitFor, IsNeverRefused, table_at, IsOfSource, IsTextFault, IsNameFault, IsUnnamed, IsReadAlone, IsRefusedBy, IsPlacedFor, IsAcceptedFor, IsRefusedSo, no_first, not_fit, not_source, one_placed, placed_not_unplaced}
use Rattle.module_reader.specs.declared.fault.ReadFault.TheVariants as reading

-- ---- of the text

abbrev refused : CompileFault → Result Compiled CompileFault
refused e = Err e

same_fault : (e f : CompileFault) → refused e ≡ refused f → e ≡ f
same_fault e f is = cc

unread : (text : List ℕ) (m : ModuleTree) (f : SourceFault) (line : List ℕ) → IsRead text m → IsTextFault text f line → ⊥
unread text m (Expand f) line read h = read_or_not text m (reading.Expand f) (λ e. cc) read h.0
unread text m (Scan f) line read h = read_or_not text m (reading.Scan f) (λ e. cc) read h.0
unread text m (Parse f) line read h = read_or_not text m (reading.Parse f) (λ e. cc) read h.0
unread text m (Names f) line read h = h
unread text m (Sections f) line read h = h
unread text m (Design f) line read h = h
unread text m (Width f) line read h = h

unread_fault : (text : List ℕ) (m : ModuleTree) (e : CompileFault) → e ≢ OutOfMemory → IsRead text m → IsOfSource (IsTextFault text) e → ⊥
unread_fault text m (Source f line) memory read h = unread text m f line.items read h
unread_fault text m (Place f line) memory read h = h
unread_fault text m (Fit f line) memory read h = h
unread_fault text m OutOfMemory memory read h = memory refl

pub never_text : (text : List ℕ) (e : CompileFault) → IsOfSource (IsTextFault text) e → IsNeverRefused text (Err e)
never_text text e h = λ p f memory is. unread_fault text p.source e (λ out. memory (sym (same_fault e f is) ∙ out)) p.read h

-- what is read is spelled
pub spelled : (text : List ℕ) (m : ModuleTree) → IsRead text m → SpellsModule text m
spelled text m read =
    record { expanded = read.expanded; expands = read.expands; tokens = read.tokens; scanned = read.scanned; so = (64, read.so) }

not_unnamed : (m : ModuleTree) (device : Model) (e : CompileFault) → model_named m ≡ Some device → e ≢ OutOfMemory
    → IsOfSource (IsNameFault (IsUnnamed m)) e → ⊥
not_unnamed m device (Source (Names f) line) named memory h = let gone : None ≡ Some device = sym (ap (option_map (model_of m)) h.0.0) ∙ named in absurd (cc)
not_unnamed m device (Source (Expand f) line) named memory h = h
not_unnamed m device (Source (Scan f) line) named memory h = h
not_unnamed m device (Source (Parse f) line) named memory h = h
not_unnamed m device (Source (Sections f) line) named memory h = h
not_unnamed m device (Source (Design f) line) named memory h = h
not_unnamed m device (Source (Width f) line) named memory h = h
not_unnamed m device (Place f line) named memory h = h
not_unnamed m device (Fit f line) named memory h = h
not_unnamed m device OutOfMemory named memory h = memory refl

pub never_device : (text : List ℕ) (m : ModuleTree) (e : CompileFault) → IsReadAlone text m → IsOfSource (IsNameFault (IsUnnamed m)) e
    → IsNeverRefused text (Err e)
never_device text m e alone h = λ p f memory is.
    let same : p.source ≡ m = alone.only p.source (spelled text p.source p.read) in
    not_unnamed m p.device e (sym (ap model_named same) ∙ p.named) (λ out. memory (sym (same_fault e f is) ∙ out)) h

-- ---- of its module

same_device : (a b : Model) → Some a ≡ Some b → a ≡ b
same_device a b e = cc

abbrev AcceptedAndFits : Table → ModuleTree → Type 0
AcceptedAndFits t m = IsAcceptedFor t m × FitsAsWritten t m

-- what holds of another placed module holds of this one
brought : (t : Table) (m : ModuleTree) (p : IsPlacedFor AcceptedAndFits t m) (Q : Table → ModuleTree → Type 0) → IsPlacedFor Q t m → Q t p.placed
brought t m p Q q = subst (λ (x : ModuleTree). Q t x) (one_placed t m q.placed p.placed q.is.pinned p.is.pinned) q.so

-- a module whose placed module is accepted and fits as it is written is refused only for lack of memory
not_by : (t : Table) (m : ModuleTree) → IsDevice t → IsPlacedFor AcceptedAndFits t m → (e : CompileFault) → e ≢ OutOfMemory → IsRefusedBy t m e → ⊥
not_by t m laws p (Source (Names f) line) memory h = no_first name_order (name_refusals t m) f p.is.names h.0
not_by t m laws p (Source (Expand f) line) memory h = h.so
not_by t m laws p (Source (Scan f) line) memory h = h.so
not_by t m laws p (Source (Parse f) line) memory h = h.so
not_by t m laws p (Source (Sections f) line) memory h = not_source t p.placed laws p.so.0 (Sections f) line.items (brought t m p (IsRefusedSo (Sections f) line.items) h)
not_by t m laws p (Source (Design f) line) memory h = not_source t p.placed laws p.so.0 (Design f) line.items (brought t m p (IsRefusedSo (Design f) line.items) h)
not_by t m laws p (Source (Width f) line) memory h = not_source t p.placed laws p.so.0 (Width f) line.items (brought t m p (IsRefusedSo (Width f) line.items) h)
not_by t m laws p (Place f line) memory h = placed_not_unplaced t m p.placed f line.items p.is h
not_by t m laws p (Fit f line) memory h = not_fit t p.placed laws p.so.0 p.so.1 f line.items h.0 (brought t m p (IsUnfitFor f line.items) h.1)
not_by t m laws p OutOfMemory memory h = memory refl

pub never_on : (text : List ℕ) (m : ModuleTree) (device : Model) (r : Result Compiled CompileFault) → IsDevice (table_at device) → IsReadAlone text m
    → model_named m ≡ Some device → IfErr r (IsRefusedBy (table_at device) m) → IsNeverRefused text r
never_on text m device (Ok c) laws alone named h = λ p f memory is. absurd cc
never_on text m device (Err e) laws alone named h = λ p f memory is.
    let same : p.source ≡ m = alone.only p.source (spelled text p.source p.read) in
    let here : p.device ≡ device = same_device p.device device (sym p.named ∙ ap model_named same ∙ named) in
    let so : IsPlacedFor AcceptedAndFits (table_at device) m =
    subst (λ (d : Model). IsPlacedFor AcceptedAndFits (table_at d) m) here
    (subst (λ (x : ModuleTree). IsPlacedFor AcceptedAndFits (table_at p.device) x) same p.so) in
    not_by (table_at device) m laws so e (λ out. memory (sym (same_fault e f is) ∙ out)) h
