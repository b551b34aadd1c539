-- Expanding, scanning and parsing have one fate each, and so has the text.
use Rattle.std.proofs.Common.{◌≡◌, ◌≢◌, ℕ, List, [], Ok, refl, sym, ap, subst, ◌∙◌}
use Rattle.module_reader.proofs.Common.{Spells, Place, ScanFault, Token, IsTokensOf, IsFirstFault, first_place, place_past, IsExpanded, ModuleTree, source, ParseFault, IsParsed, IsRefused, place_at, HasTokens, IsNotScanned}
use Rattle.abel_grammar.proofs.VerdictLaws.{tree_only}
use Rattle.abel_lexer.proofs.Found.{only_tokens, only_fault}
use Rattle.abel_grammar.specs.ModuleReaders.{read_source}
use Rattle.abel_grammar.proofs.ModuleLaws.{source_laws}
use Rattle.abel_parser.specs.declared.fault.ParseFault.TheVariants as parse
use Rattle.module_reader.specs.declared.fault.ReadFault.TheVariants.{Expand, Scan, Parse, OutOfMemory}
use Rattle.module_reader.proofs.Ends.{expanded_once}
use Rattle.module_reader.specs.Fates.{TextIsReadOrNot, TextHasOneRefusal, TextSpellsOneModule}
use Rattle.module_reader.proofs.Expansions.{no_refusal, one_refusal}
use Rattle.module_reader.proofs.Modules.{source_begun}
use Rattle.module_reader.proofs.Stops.{no_syntax, no_too_deep, syntax_once, deep_once, either_stop}

-- ---- the tokens of a text are one

-- what is said of a text with its tokens is said of the tokens that it has
tokens_once : (text w : List ℕ) (ts : List Token) (P : List ℕ → List Token → Type 0) → IsExpanded text w → IsTokensOf w ts → (h : HasTokens text P) → P w ts
tokens_once text w ts P expands scanned h =
    let here : h.expanded ≡ w = expanded_once text w h.expanded expands h.expands in
    let those : h.tokens ≡ ts = (only_tokens w ts scanned).tokens h.tokens (subst (λ (u : List ℕ). IsTokensOf u h.tokens) here h.scanned) in
    subst (λ (us : List Token). P w us) those (subst (λ (u : List ℕ). P u h.tokens) here h.so)

-- the first fault of a text, of the bytes that it expands to
fault_of_text : (text w : List ℕ) (f : ScanFault) → IsExpanded text w → (h : IsNotScanned text f) → IsFirstFault w f
fault_of_text text w f expands h = subst (λ (u : List ℕ). IsFirstFault u f) (expanded_once text w h.expanded expands h.expands) h.fault

-- a text that has tokens has no fault
no_fault : (text : List ℕ) (f : ScanFault) (P : List ℕ → List Token → Type 0) → HasTokens text P → IsNotScanned text f → ⊥
no_fault text f P h n = (only_tokens h.expanded h.tokens h.scanned).faults f (fault_of_text text h.expanded f h.expands n)

-- ---- read, or refused

-- tokens that are accepted are not refused
no_refused : (ts : List Token) (m : ModuleTree) (end : Place) (f : ParseFault) → f ≢ parse.OutOfMemory → IsParsed ts m → IsRefused ts end f → ⊥
no_refused ts m end (parse.Syntax p) some s r = no_syntax source 64 source_begun ts m s r.0 r.2
no_refused ts m end (parse.TooDeep p) some s r = no_too_deep source 64 source_begun ts m s r.0 r.2
no_refused ts m end parse.OutOfMemory some s r = some refl

pub read_or_not : TextIsReadOrNot
read_or_not text m (Expand f) some read (real, (done, refusal)) = no_refusal text read.expanded done f real read.expands refusal
read_or_not text m (Scan f) some read (real, unscanned) = no_fault text f _ read unscanned
read_or_not text m (Parse f) some read (real, refused) =
    no_refused read.tokens m _ f real read.so (tokens_once text read.expanded read.tokens _ read.expands read.scanned refused)
read_or_not text m OutOfMemory some read unread = some refl

-- ---- one refusal

refused_once : (ts : List Token) (end : Place) (f g : ParseFault) → f ≢ parse.OutOfMemory → g ≢ parse.OutOfMemory → IsRefused ts end f → IsRefused ts end g → f ≡ g
refused_once ts end (parse.Syntax p) (parse.Syntax q) some more r s =
    ap parse.Syntax (sym r.1 ∙ ap (place_at ts end) (syntax_once source 64 source_begun ts r.0 s.0 r.2 s.2) ∙ s.1)
refused_once ts end (parse.Syntax p) (parse.TooDeep q) some more r s = absurd (either_stop source 64 source_begun ts r.0 s.0 r.2 s.2)
refused_once ts end (parse.TooDeep p) (parse.Syntax q) some more r s = absurd (either_stop source 64 source_begun ts s.0 r.0 s.2 r.2)
refused_once ts end (parse.TooDeep p) (parse.TooDeep q) some more r s =
    ap parse.TooDeep (sym r.1 ∙ ap (place_at ts end) (deep_once source 64 source_begun ts r.0 s.0 r.2 s.2) ∙ s.1)
refused_once ts end parse.OutOfMemory g some more r s = absurd (some refl)
refused_once ts end (parse.Syntax p) parse.OutOfMemory some more r s = absurd (more refl)
refused_once ts end (parse.TooDeep p) parse.OutOfMemory some more r s = absurd (more refl)

pub refusal_once : TextHasOneRefusal
refusal_once text OutOfMemory g some more x y = absurd (some refl)
refusal_once text (Expand f) OutOfMemory some more x y = absurd (more refl)
refusal_once text (Scan f) OutOfMemory some more x y = absurd (more refl)
refusal_once text (Parse f) OutOfMemory some more x y = absurd (more refl)
refusal_once text (Expand f) (Expand g) some more x y = ap Expand (one_refusal text x.1.0 y.1.0 f g x.0 y.0 x.1.1 y.1.1)
refusal_once text (Expand f) (Scan g) some more x y = absurd (no_refusal text y.1.expanded x.1.0 f x.0 y.1.expands x.1.1)
refusal_once text (Expand f) (Parse g) some more x y = absurd (no_refusal text y.1.expanded x.1.0 f x.0 y.1.expands x.1.1)
refusal_once text (Scan f) (Expand g) some more x y = absurd (no_refusal text x.1.expanded y.1.0 g y.0 x.1.expands y.1.1)
refusal_once text (Scan f) (Scan g) some more x y =
    ap Scan ((only_fault x.1.expanded g (fault_of_text text x.1.expanded g x.1.expands y.1)).faults f x.1.fault)
refusal_once text (Scan f) (Parse g) some more x y = absurd (no_fault text f _ y.1 x.1)
refusal_once text (Parse f) (Expand g) some more x y = absurd (no_refusal text x.1.expanded y.1.0 g y.0 x.1.expands y.1.1)
refusal_once text (Parse f) (Scan g) some more x y = absurd (no_fault text g _ x.1 y.1)
refusal_once text (Parse f) (Parse g) some more x y =
    ap Parse (refused_once x.1.tokens (place_past first_place x.1.expanded) f g x.0 y.0 x.1.so (tokens_once text x.1.expanded x.1.tokens _ x.1.expands x.1.scanned y.1))

-- ---- one module

-- tokens spell one module
tree_once : (ts : List Token) (a b : ModuleTree) → Spells source ts a → Spells source ts b → b ≡ a
tree_once ts a b (n, s) t =
    let found : read_source n ts ≡ Ok (a, []) = (source_laws n).only ts a [] s refl in
    tree_only source read_source _ _ _ source_laws n ts a found b t

pub one_module : TextSpellsOneModule
one_module text a b x y =
    sym (tree_once x.tokens a b x.so (tokens_once text x.expanded x.tokens (λ w ts. Spells source ts b) x.expands x.scanned y))
