-- Equations are spelled.
use Rattle.std.proofs.Common.{ℕ, suc, inl, inr, Bool, true, false, List, [], ◌∷◌, refl, codes}
use Rattle.decompiled.proofs.Common.{SpellsList, Place, Token, Statement, AnAssign, terminal_of, Piece, token_at, place_in, place_behind, tokens_from, SumLine, name_text, none, space, feed, sign, identifier, extension_pieces, sum_pieces, line_pieces, lines_pieces, IsLine, AreLines}
use Rattle.abel_tree.specs.declared.words.Sign.TheVariants as a_sign
use Rattle.abel_grammar.specs.Statements.{target, complemented_at, assign, stmt}
use Rattle.decompiled.proofs.Expressions.{name_spelled, sum_spelled}

abbrev equal : Piece
equal = sign space (codes "=")

abbrev semicolon : Piece
semicolon = sign none (codes ";")

abbrev not_piece : Piece
not_piece = sign feed (codes "!")

abbrev LineSpelled : ℕ → SumLine → Place → (more : List Piece) → Type 0
LineSpelled n l at more =
    (s : Statement) × (behind : Place) × IsLine l s × (stmt n).spells (tokens_from at (line_pieces l more)) s (tokens_from behind more)

line_by : (n : ℕ) (l : SumLine) (signed : Bool) (at : Place) (more : List Piece) → LineSpelled (suc n) (record l { negated = signed }) at more
unfolding stmt assign target complemented_at terminal_of
line_by n l false at more =
    let value_pieces : List Piece = sum_pieces l.products (semicolon ∷ more) in
    let t = name_spelled feed l.pin l.extension at (equal ∷ value_pieces) in
    let v = sum_spelled n l.products (place_behind t.1 equal) (semicolon ∷ more) in
    let first : Token = token_at (place_in at (identifier feed (name_text l.pin))) (identifier feed (name_text l.pin)) in
    let q : Token = token_at (place_in t.1 equal) equal in
    let end : Token = token_at (place_in v.1 semicolon) semicolon in (
      AnAssign first.place false t.0 a_sign.Equal q.place v.0,
      place_behind v.1 semicolon,
      record { place = first.place; target = t.0; named = t.2; sign_place = q.place; value = v.0; sum = v.2; is = refl },
      inl (inl (
        (first, ((false, t.0), (q, (v.0, end)))),
        (
          tokens_from (place_behind at (identifier feed (name_text l.pin))) (extension_pieces l.extension (equal ∷ value_pieces)),
          refl,
          (
            tokens_from t.1 (equal ∷ value_pieces),
            inr (t.0, inl t.3, refl),
            (tokens_from (place_behind t.1 equal) value_pieces, (refl, refl), (tokens_from v.1 (semicolon ∷ more), v.3, (refl, refl))),
          ),
        ),
        refl,
      )),
    )
line_by n l true at more =
    let value_pieces : List Piece = sum_pieces l.products (semicolon ∷ more) in
    let here : Place = place_behind at not_piece in
    let name : Piece = identifier none (name_text l.pin) in
    let t = name_spelled none l.pin l.extension here (equal ∷ value_pieces) in
    let v = sum_spelled n l.products (place_behind t.1 equal) (semicolon ∷ more) in
    let first : Token = token_at (place_in at not_piece) not_piece in
    let q : Token = token_at (place_in t.1 equal) equal in
    let end : Token = token_at (place_in v.1 semicolon) semicolon in (
      AnAssign first.place true t.0 a_sign.Equal q.place v.0,
      place_behind v.1 semicolon,
      record { place = first.place; target = t.0; named = t.2; sign_place = q.place; value = v.0; sum = v.2; is = refl },
      inl (inl (
        (first, ((true, t.0), (q, (v.0, end)))),
        (
          tokens_from here (name ∷ extension_pieces l.extension (equal ∷ value_pieces)),
          refl,
          (
            tokens_from t.1 (equal ∷ value_pieces),
            inl ((first, t.0), (tokens_from here (name ∷ extension_pieces l.extension (equal ∷ value_pieces)), (refl, refl), inl t.3), refl),
            (tokens_from (place_behind t.1 equal) value_pieces, (refl, refl), (tokens_from v.1 (semicolon ∷ more), v.3, (refl, refl))),
          ),
        ),
        refl,
      )),
    )

pub line_spelled : (n : ℕ) (l : SumLine) (at : Place) (more : List Piece) → LineSpelled (suc n) l at more
line_spelled n l at more = line_by n l l.negated at more

pub lines_spelled : (n : ℕ) (ls : List SumLine) (at : Place) (more : List Piece)
    → (ss : List Statement) × (behind : Place) × AreLines ls ss × SpellsList (stmt (suc n)).spells (tokens_from at (lines_pieces ls more)) ss (tokens_from behind more)
lines_spelled n [] at more = ([], at, refl, refl)
lines_spelled n (l ∷ ls) at more =
    let s = line_spelled n l at (lines_pieces ls more) in
    let rest = lines_spelled n ls s.1 more in
    (s.0 ∷ rest.0, rest.1, (s.0, rest.0, s.2, rest.2, refl), (tokens_from s.1 (lines_pieces ls more), s.3, rest.3))
