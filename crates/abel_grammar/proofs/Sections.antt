-- The places of sections rise from section to section, if the tokens' places rise.
use Rattle.std.proofs.Common.{◌≡◌, ℕ, List, [], ◌∷◌, ◌++◌, refl, sym, ap, subst, ◌∙◌}
use Rattle.abel_grammar.proofs.Common.{All, flat_map, append-nil, All-nil, All-cons, All-head, All-tail, All-append, All-weaker, repeated, flatten, Spells, Place, Token, SectionTree, ModuleTree, Module, End, Identifier, takes_dont_care, dont_care_section, sections, source, places_of_section, Along, IsBefore, TokensRise, SectionsRise}
use Rattle.abel_grammar.proofs.Forms.{some_lies}
use Rattle.abel_grammar.proofs.Expressions.{one_lies, end_lies, name_lies}
use Rattle.abel_grammar.proofs.Modules.{proper_lies, dont_care_section_lies, options_lies, first_decls_lies, title_lies}
use Rattle.abel_grammar.proofs.Pieces.{InPieces, Parts, one_part, no_part, turned_parts, followed_parts, parts_then, unless_parts, many_parts}

-- ---- the sections of a module lie in pieces

in_one : (ss : List SectionTree) → ss ≡ flat_map (λ s. s ∷ []) ss
in_one [] = refl
in_one (s ∷ ss) = ap (λ (l : List SectionTree). s ∷ l) (in_one ss)

in_groups : (ls : List (List SectionTree)) → flatten ls ≡ flat_map (λ l. l) ls
in_groups [] = refl
in_groups (l ∷ ls) = ap (λ (m : List SectionTree). l ++ m) (in_groups ls)

dont_cares_parts : Parts (repeated dont_care_section) (λ ss. ss)
dont_cares_parts = turned_from (many_parts (one_part dont_care_section_lies))
  where
    turned_from : Parts (repeated dont_care_section) (flat_map (λ s. s ∷ [])) → Parts (repeated dont_care_section) (λ ss. ss)
    turned_from h = record {
      pieces = λ ts t rest s.
          let k = h.pieces ts t rest s in
          (k.0, k.1, subst (λ (l : List SectionTree). InPieces k.0 l) (sym (in_one t)) k.2);
    }

sections_parts : (n : ℕ) → Parts (sections n) (λ ss. ss)
unfolding sections
sections_parts n =
    turned_parts in_groups
    (many_parts (turned_parts (λ x. refl)
    (followed_parts (one_part (proper_lies n))
    (λ s. unless_parts (takes_dont_care s) [] refl dont_cares_parts))))

source_parts : (n : ℕ) → Parts (source n) (λ m. m.sections)
unfolding source
source_parts n =
    turned_parts (λ x. sym (append-nil x.1.1.1.1.1.1.0))
    (parts_then (no_part (one_lies Module)) (parts_then (no_part name_lies) (parts_then (no_part end_lies)
    (parts_then (no_part (some_lies title_lies)) (parts_then (no_part options_lies)
    (parts_then (no_part (first_decls_lies n)) (parts_then (sections_parts n)
    (parts_then (no_part (one_lies End)) (parts_then (no_part (some_lies (one_lies Identifier))) (no_part end_lies))))))))))

pub in_pieces : (ts : List Token) (m : ModuleTree) → Spells source ts m → InPieces ts m.sections
in_pieces ts m s =
    let h = (source_parts s.0).pieces ts m [] s.1 in
    subst (λ (us : List Token). InPieces us m.sections) (sym (h.1 ∙ append-nil h.0)) h.2

-- ---- what holds of all tokens holds of all places along them

pub along_all : (P : Place → Type 0) (ts : List Token) (ps : List Place) → Along ts ps → All (λ t. P t.place) ts → All P ps
along_all P [] ps h a = subst (All P) (sym h) (All-nil P)
along_all P (t ∷ ts) ps h a =
    subst (All P) (sym h.2)
    (All-append P h.0 h.1
    (All-weaker (λ (p : Place). p ≡ t.place) P (λ p e. subst P (sym e) (All-head (λ (u : Token). P u.place) t ts a)) h.0 h.3)
    (along_all P ts h.1 h.4 (All-tail (λ (u : Token). P u.place) t ts a)))

module _ (P : Place → Type 0) where
  abbrev on_tokens : Token → Type 0
  on_tokens t = P t.place

  all_left : (us vs : List Token) → All on_tokens (us ++ vs) → All on_tokens us
  all_left [] vs a = All-nil on_tokens
  all_left (u ∷ us) vs a = All-cons on_tokens u us (All-head on_tokens u (us ++ vs) a) (all_left us vs (All-tail on_tokens u (us ++ vs) a))

  all_right : (us vs : List Token) → All on_tokens (us ++ vs) → All on_tokens vs
  all_right [] vs a = a
  all_right (u ∷ us) vs a = all_right us vs (All-tail on_tokens u (us ++ vs) a)

  -- the places of all sections are places of the tokens
  pieces_all : (ts : List Token) (ss : List SectionTree) → InPieces ts ss → All on_tokens ts → All P (flat_map places_of_section ss)
  pieces_all ts [] h a = All-nil P
  pieces_all ts (s ∷ ss) h a =
      let b = all_right h.0 (h.1 ++ h.2) (subst (All on_tokens) h.3 a) in
      All-append P (places_of_section s) (flat_map places_of_section ss)
      (along_all P h.1 (places_of_section s) h.4 (all_left h.1 h.2 b))
      (pieces_all h.2 ss h.5 (all_right h.1 h.2 b))

-- ---- rising

rise_right : (us vs : List Token) → TokensRise (us ++ vs) → TokensRise vs
rise_right [] vs r = r
rise_right (u ∷ us) vs r = rise_right us vs r.1

-- each of the first tokens precedes each of the others
abbrev Before : List Token → Token → Type 0
Before vs u = All (λ v. IsBefore u.place v.place) vs

all_before : (us vs : List Token) → TokensRise (us ++ vs) → All (Before vs) us
all_before [] vs r = All-nil (Before vs)
all_before (u ∷ us) vs r =
    All-cons (Before vs) u us (all_right (λ (p : Place). IsBefore u.place p) us vs r.0) (all_before us vs r.1)

abbrev ComesBefore : List SectionTree → Place → Type 0
ComesBefore ss p = All (λ q. IsBefore p q) (flat_map places_of_section ss)

pub sections_rise : (ts : List Token) (ss : List SectionTree) → InPieces ts ss → TokensRise ts → SectionsRise ss
sections_rise ts [] h r = tt
sections_rise ts (s ∷ ss) h r =
    let own = rise_right h.0 (h.1 ++ h.2) (subst TokensRise h.3 r) in (
      along_all (ComesBefore ss) h.1 (places_of_section s) h.4
          (All-weaker (Before h.2) (λ (u : Token). ComesBefore ss u.place)
          (λ u a. pieces_all (λ (p : Place). IsBefore u.place p) h.2 ss h.5 a) h.1 (all_before h.1 h.2 own)),
      sections_rise h.2 ss h.5 (rise_right h.1 h.2 own),
    )

-- the places of sections rise where those of the tokens that spell them do
pub places_rise : (ts : List Token) (m : ModuleTree) → Spells source ts m → TokensRise ts → SectionsRise m.sections
places_rise ts m s r = sections_rise ts m.sections (in_pieces ts m s) r
