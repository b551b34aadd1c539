-- What expanding, scanning and parsing answer, as what is said of the whole text.
use Rattle.std.proofs.Common.{◌≡◌, ◌≢◌, ◌⊎◌, inl, inr, ℕ, List, subst, sym, ◌∙◌}
use Rattle.module_reader.proofs.Common.{Spells, Place, ScanFault, Token, IsTokensOf, AreOnlyTokens, IsFirstFault, first_place, place_past, IsExpanded, ModuleTree, source, ParseFault, IsRefused, SpellsModule, IsNotScanned, IsNotParsed}
use Rattle.abel_lexer.specs.declared.fault.ScanFault.TheVariants as fault
use Rattle.abel_grammar.specs.Order.{TokensRise}
use Rattle.abel_grammar.proofs.Texts.{tokens_rise}
use Rattle.module_reader.proofs.Ends.{expanded_once}

-- a text with one expanded text that has these tokens alone spells what they spell, and nothing else
pub only_module : (text w v : List ℕ) (ts us : List Token) (m : ModuleTree) → IsExpanded text w → v ≡ w
    → AreOnlyTokens v ts → us ≡ ts → ((t : ModuleTree) → Spells source us t → t ≡ m)
    → (t : ModuleTree) → SpellsModule text t → t ≡ m
only_module text w v ts us m expands same tokens its only t spells =
    let here : spells.expanded ≡ v = expanded_once text w spells.expanded expands spells.expands ∙ sym same in
    let those : spells.tokens ≡ ts = tokens.tokens spells.tokens (subst (λ (u : List ℕ). IsTokensOf u spells.tokens) here spells.scanned) in
    only t (subst (λ (xs : List Token). Spells source xs t) (those ∙ sym its) spells.so)

-- the tokens of a text rise
pub rising_tokens : (w : List ℕ) (ts us : List Token) → us ≡ ts → IsTokensOf w ts → TokensRise us
rising_tokens w ts us its scanned = subst TokensRise (sym its) (tokens_rise w ts scanned)

-- the first fault of an expanded text
pub not_scanned : (text w v : List ℕ) (f : ScanFault) → IsExpanded text w → v ≡ w → (f ≡ fault.OutOfMemory) ⊎ IsFirstFault v f
    → f ≢ fault.OutOfMemory → IsNotScanned text f
not_scanned text w v f expands same (inl memory) refused = absurd (refused memory)
not_scanned text w v f expands same (inr first) refused =
    record { expanded = w; expands = expands; fault = subst (λ (u : List ℕ). IsFirstFault u f) same first }

-- refused tokens of an expanded text
pub not_parsed : (text w v : List ℕ) (ts us : List Token) (end : Place) (f : ParseFault) → IsExpanded text w → v ≡ w
    → IsTokensOf v ts → us ≡ ts → end ≡ place_past first_place w → IsRefused us end f → IsNotParsed text f
not_parsed text w v ts us end f expands same scanned its behind refused =
    record {
      expanded = w;
      expands = expands;
      tokens = ts;
      scanned = subst (λ (u : List ℕ). IsTokensOf u ts) same scanned;
      so = subst (λ (x : Place). IsRefused ts x f) behind (subst (λ (xs : List Token). IsRefused xs end f) its refused);
    }
