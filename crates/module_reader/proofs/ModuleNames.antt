-- The name of a module is the text of an identifier: a word that is no token of another kind and has nothing wrong.
use Rattle.std.proofs.Common.{◌≡◌, ℕ, Bool, true, false, not, ◌==◌, ◌||◌, List, [], ◌∷◌, Option, None, if◌then◌else◌, refl, sym, ap, ◌∙◌, subst}
use Rattle.module_reader.proofs.Common.{and_parts, not-true, true≢false, Token, Remainder, Lexeme, Shown, Radix, Leads, IsTokensOf, tokens_among, whole, ModuleTree, Word, Terminal, Place, ScanFault, source, name}
use Rattle.std.specs.List.{list_all}
use Rattle.std.specs.Str.{bytes_eq, str_eq_ignore_ascii_case}
use Rattle.abel_lexer.specs.declared.token.TokenKind.{TokenKind}
use Rattle.abel_lexer.specs.declared.token.TokenKind.TheVariants as kind
use Rattle.abel_lexer.specs.Kinds.{IsToken, fault_of}
use Rattle.abel_grammar.specs.declared.terminal.Terminal.TheVariants as terminal
use Rattle.abel_grammar.specs.Terminals.{among, keywords, look_up, number_of, signs, terminal_by, terminal_of}

-- the bytes are a token of the kind, and nothing is wrong with it
pub record IsGoodToken (k : TokenKind) (w : List ℕ) : Type 0 where
  pub token : IsToken k w
  pub radix : ℕ
  pub place : Place
  pub good : fault_of radix k w place ≡ None

-- ---- identifiers

-- no entry of a list without the identifier is one
no_identifier : (same : List ℕ → Bool) (entries : List (List ℕ × Terminal)) → list_all (λ e. not (0 == number_of e.1)) entries ≡ true
    → (0 == number_of (look_up same entries)) ≡ false
no_identifier same [] all = refl
no_identifier same (entry ∷ more) all =
    let parts = and_parts (not (0 == number_of entry.1)) (list_all (λ e. not (0 == number_of e.1)) more) all in
    by_test (same entry.0) (not-true (0 == number_of entry.1) parts.0) (no_identifier same more parts.1)
  where
    by_test : (b : Bool) → (0 == number_of entry.1) ≡ false → (0 == number_of (look_up same more)) ≡ false
        → (0 == number_of (if b then entry.1 else look_up same more)) ≡ false
    by_test true here later = here
    by_test false here later = later

-- a token whose terminal is the identifier is of that kind
pub identifier_kind : (k : TokenKind) (w : List ℕ) → ((0 == number_of (terminal_by k w)) || false) ≡ true → k ≡ kind.Identifier
identifier_kind kind.Identifier w is = refl
identifier_kind kind.Keyword w is =
    absurd (true≢false (sym is ∙ ap (λ b. b || false) (no_identifier (str_eq_ignore_ascii_case w) keywords refl)))
identifier_kind kind.Number w is = absurd (true≢false (sym is))
identifier_kind kind.Special w is = absurd (true≢false (sym is))
identifier_kind kind.Extension w is = absurd (true≢false (sym is))
identifier_kind kind.Text w is = absurd (true≢false (sym is))
identifier_kind kind.Directive w is = absurd (true≢false (sym is))
identifier_kind kind.Sign w is =
    absurd (true≢false (sym is ∙ ap (λ b. b || false) (no_identifier (bytes_eq w) signs refl)))

-- ---- tokens

abbrev AreTokens : List Token → Type 0
AreTokens [] = Unit {0}
AreTokens (t ∷ ts) = IsGoodToken t.kind t.text × AreTokens ts

-- each of the tokens of a text is one of its kind, with nothing wrong
each_is_token : (ls : List Lexeme) (at end : Remainder) → Leads at ls end → AreTokens (tokens_among ls)
each_is_token [] at end leads = tt
each_is_token (Shown t ∷ ls) at end leads =
    let front = leads.0 in
    (record { token = leads.3.0.token; radix = front.radix; place = front.place; good = leads.3.1 }, each_is_token ls leads.1 end leads.4)
each_is_token (Radix w n ∷ ls) at end leads = each_is_token ls leads.1 end leads.4

second_token : (text : List ℕ) (tokens : List Token) (s t : Token) (more : List Token) → IsTokensOf text tokens → tokens ≡ s ∷ t ∷ more → IsGoodToken t.kind t.text
second_token text tokens s t more scans is =
    let each = each_is_token scans.lexemes (whole text) scans.end scans.leads in
    (subst AreTokens (sym scans.tokens ∙ is) each).1.0

-- ---- the tree

-- the tokens of a module begin with one more and then an identifier, which is the module's name
record NamesAt (tokens : List Token) (name : List ℕ) : Type 0 where
  before : Token
  identifier : Token
  more : List Token
  are : tokens ≡ before ∷ identifier ∷ more
  is : among (terminal.Identifier ∷ []) identifier ≡ true
  text : identifier.text ≡ name

name_at : (n : ℕ) (tokens : List Token) (m : ModuleTree) → (source n).spells tokens m [] → NamesAt tokens m.name.text
unfolding source name
name_at n tokens m (x, (mid, (first_is, first), (rests, (identifier, (second_is, is), word), others)), made_tree) = record {
  before = x.0;
  identifier = identifier;
  more = rests;
  are = first_is ∙ ap (λ (ts : List Token). x.0 ∷ ts) second_is;
  is = is;
  text = ap (λ (w : Word). w.text) word ∙ ap (λ (tree : ModuleTree). tree.name.text) made_tree;
}

-- the name of a module that tokens of a text spell is a good identifier
pub name_is_identifier : (text : List ℕ) (tokens : List Token) (m : ModuleTree) (n : ℕ) → IsTokensOf text tokens → (source n).spells tokens m []
    → IsGoodToken kind.Identifier m.name.text
unfolding terminal_of
name_is_identifier text tokens m n scans spells =
    let at = name_at n tokens m spells in
    let token = second_token text tokens at.before at.identifier at.more scans at.are in
    let k = identifier_kind at.identifier.kind at.identifier.text at.is in
    subst (λ (w : List ℕ). IsGoodToken kind.Identifier w) at.text (subst (λ (k : TokenKind). IsGoodToken k at.identifier.text) k token)
