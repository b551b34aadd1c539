-- The tokens of a plain text are those of its pieces.
use Rattle.std.proofs.Common.{◌≡◌, ℕ, true, List, [], ◌∷◌, ◌++◌, map, refl, sym, ap, append-nil}
use Rattle.decompiled.proofs.Common.{list_all, Place, Token, is_blank, Remainder, Shown, Leads, place_past, first_place, tokens_among, begins_dark, Piece, text_of, place_in, place_behind, tokens_from, ArePlain, PlainTextsHaveTheirTokens}
use Rattle.decompiled.proofs.Tokens.{some_bytes, is_token, is_longest}

abbrev left : Place → List ℕ → Remainder
left at text = record { place = at; radix = 10; text = text }

-- the place after the pieces and the blanks at the end
abbrev end_from : Place → List Piece → List ℕ → Place
end_from at [] end = place_past at end
end_from at (p ∷ ps) end = end_from (place_behind at p) ps end

leads : (ps : List Piece) (at : Place) (end : List ℕ) → list_all is_blank end ≡ true → ArePlain ps end
    → Leads (left at (text_of ps end)) (map Shown (tokens_from at ps)) (left (end_from at ps end) [])
leads [] at end blank plain = record { gap = end; parts = sym (append-nil end); blank = blank; all = refl; place = refl; radix = refl }
leads (p ∷ ps) at end blank plain =
    let behind : List ℕ = text_of ps end in
    let some = some_bytes p.word plain.0.some in (
      left (place_in at p) (p.word ++ behind),
      left (place_behind at p) behind,
      record {
        gap = p.gap;
        parts = refl;
        blank = plain.0.blank;
        all = begins_dark p.kind p.word behind (is_token p.kind p.word behind some plain.1);
        place = refl;
        radix = refl;
      },
      (is_longest p.kind p.word behind some plain.1, plain.0.sound (place_in at p), refl, refl, refl, refl),
      leads ps (place_behind at p) end blank plain.2,
    )

among_shown : (ts : List Token) → ts ≡ tokens_among (map Shown ts)
among_shown [] = refl
among_shown (t ∷ ts) = ap (λ (us : List Token). t ∷ us) (among_shown ts)

pub scans : PlainTextsHaveTheirTokens
scans ps end blank plain =
    record {
      lexemes = map Shown (tokens_from first_place ps);
      end = left (end_from first_place ps end) [];
      leads = leads ps first_place end blank plain;
      empty = refl;
      tokens = among_shown (tokens_from first_place ps);
    }
