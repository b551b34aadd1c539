-- The whole source is spelled.
use Rattle.std.proofs.Common.{◌≡◌, ℕ, suc, inl, inr, Bool, false, Option, None, Some, List, [], ◌∷◌, ◌++◌, refl, ap, codes, if◌then◌else◌}
use Rattle.decompiled.proofs.Common.{decimal, SpellsList, Place, device_text, Token, number_value, first_place, Number, Statement, Declaration, ADevice, SomePins, Equations, ModuleTree, terminal_of, name, text, numeral_of, Piece, token_at, place_in, place_behind, tokens_from, PinLine, SumLine, PinSource, name_text, none, space, feed, sign, keyword, identifier, number_piece, string, pin_pieces, pins_pieces, lines_pieces, source_pieces, word, IsPinLine, ArePins, AreLines, IsSourceTree}
use Rattle.abel_tree.specs.declared.words.Word.{Word}
use Rattle.abel_grammar.specs.Words.{number}
use Rattle.abel_grammar.specs.Declarations.{item, names, num, nums, texts, istype, device, pins, naming, decl, other_decl}
use Rattle.abel_grammar.specs.Modules.{equations, proper, sections, options, first_decls, source}
use Rattle.decompiled.proofs.Statements.{lines_spelled}

abbrev semicolon : Piece
semicolon = sign none (codes ";")

-- ---- pins

abbrev PinSpelled : ℕ → PinLine → Place → (more : List Piece) → Type 0
PinSpelled n l at more =
    (d : Declaration) × (behind : Place) × IsPinLine l d × (decl n).spells (tokens_from at (pin_pieces l more)) d (tokens_from behind more)

abbrev numeral : ℕ → Place → Number
numeral value p = record { value = value; place = p }

pin_by : (n : ℕ) (l : PinLine) (follows : Option Bool) (at : Place) (more : List Piece) → number_value 10 (decimal l.pin) ≡ l.pin → PinSpelled n (record l { follows = follows }) at more
unfolding decl naming pins names item name nums num number istype texts text terminal_of
pin_by n l None at more e =
    let p : Piece = identifier feed (name_text l.pin) in
    let k : Piece = keyword space (codes "pin") in
    let v : Piece = number_piece space (decimal l.pin) in
    let at_k : Place = place_behind at p in
    let at_v : Place = place_behind at_k k in
    let at_s : Place = place_behind at_v v in
    let w : Word = word (name_text l.pin) (place_in at p) in
    let value : Number = numeral l.pin (place_in at_v v) in
    let t : Token = token_at (place_in at_v v) v in
    let is : numeral_of t ≡ value = ap (λ (i : ℕ). numeral i (place_in at_v v)) e in (
      SomePins (record { negated = false; first = w; last = None } ∷ []) (record { first = value; last = None } ∷ []) [],
      place_behind at_s semicolon,
      record { name = place_in at p; number = place_in at_v v; attributes = at; is = refl },
      inl (inr (inl (
        (
          record { negated = false; first = w; last = None } ∷ [],
          (token_at (place_in at_k k) k, (Some (record { first = value; last = None } ∷ []), (None, token_at (place_in at_s semicolon) semicolon))),
        ),
        (
          tokens_from at_k (k ∷ v ∷ semicolon ∷ more),
          (
            (record { negated = false; first = w; last = None }, []),
            (
              tokens_from at_k (k ∷ v ∷ semicolon ∷ more),
              ((None, (w, None)), (tokens_from at (p ∷ k ∷ v ∷ semicolon ∷ more), refl, (tokens_from at_k (k ∷ v ∷ semicolon ∷ more), (token_at (place_in at p) p, (refl, refl), refl), refl)), refl),
              refl,
            ),
            refl,
          ),
          (
            tokens_from at_v (v ∷ semicolon ∷ more),
            (refl, refl),
            (
              tokens_from at_s (semicolon ∷ more),
              (
                (record { first = value; last = None }, []),
                (tokens_from at_s (semicolon ∷ more), ((value, None), (tokens_from at_s (semicolon ∷ more), (t, (refl, refl), is), refl), refl), refl),
                refl,
              ),
              (tokens_from at_s (semicolon ∷ more), refl, (refl, refl)),
            ),
          ),
        ),
        refl,
      ))),
    )
pin_by n l (Some follows) at more e =
    let p : Piece = identifier feed (name_text l.pin) in
    let k : Piece = keyword space (codes "pin") in
    let v : Piece = number_piece space (decimal l.pin) in
    let i : Piece = keyword space (codes "istype") in
    let s : Piece = string space (if follows then codes "'reg,buffer'" else codes "'reg,invert'") in
    let at_k : Place = place_behind at p in
    let at_v : Place = place_behind at_k k in
    let at_i : Place = place_behind at_v v in
    let at_s : Place = place_behind at_i i in
    let at_e : Place = place_behind at_s s in
    let w : Word = word (name_text l.pin) (place_in at p) in
    let value : Number = numeral l.pin (place_in at_v v) in
    let said : Word = word (if follows then codes "'reg,buffer'" else codes "'reg,invert'") (place_in at_s s) in
    let t : Token = token_at (place_in at_v v) v in
    let is : numeral_of t ≡ value = ap (λ (j : ℕ). numeral j (place_in at_v v)) e in (
      SomePins (record { negated = false; first = w; last = None } ∷ []) (record { first = value; last = None } ∷ []) (said ∷ []),
      place_behind at_e semicolon,
      record { name = place_in at p; number = place_in at_v v; attributes = place_in at_s s; is = refl },
      inl (inr (inl (
        (
          record { negated = false; first = w; last = None } ∷ [],
          (token_at (place_in at_k k) k, (Some (record { first = value; last = None } ∷ []), (Some (said ∷ []), token_at (place_in at_e semicolon) semicolon))),
        ),
        (
          tokens_from at_k (k ∷ v ∷ i ∷ s ∷ semicolon ∷ more),
          (
            (record { negated = false; first = w; last = None }, []),
            (
              tokens_from at_k (k ∷ v ∷ i ∷ s ∷ semicolon ∷ more),
              ((None, (w, None)), (tokens_from at (p ∷ k ∷ v ∷ i ∷ s ∷ semicolon ∷ more), refl, (tokens_from at_k (k ∷ v ∷ i ∷ s ∷ semicolon ∷ more), (token_at (place_in at p) p, (refl, refl), refl), refl)), refl),
              refl,
            ),
            refl,
          ),
          (
            tokens_from at_v (v ∷ i ∷ s ∷ semicolon ∷ more),
            (refl, refl),
            (
              tokens_from at_i (i ∷ s ∷ semicolon ∷ more),
              (
                (record { first = value; last = None }, []),
                (tokens_from at_i (i ∷ s ∷ semicolon ∷ more), ((value, None), (tokens_from at_i (i ∷ s ∷ semicolon ∷ more), (t, (refl, refl), is), refl), refl), refl),
                refl,
              ),
              (
                tokens_from at_e (semicolon ∷ more),
                (
                  (token_at (place_in at_i i) i, said ∷ []),
                  (
                    tokens_from at_s (s ∷ semicolon ∷ more),
                    (refl, refl),
                    ((said, []), (tokens_from at_e (semicolon ∷ more), (token_at (place_in at_s s) s, (refl, refl), refl), refl), refl),
                  ),
                  refl,
                ),
                (refl, refl),
              ),
            ),
          ),
        ),
        refl,
      ))),
    )

pub pin_spelled : (n : ℕ) (l : PinLine) (at : Place) (more : List Piece) → number_value 10 (decimal l.pin) ≡ l.pin → PinSpelled n l at more
pin_spelled n l at more e = pin_by n l l.follows at more e

-- the number of each pin says it
abbrev pub AreNumbers : List PinLine → Type 0
AreNumbers [] = Unit {0}
AreNumbers (l ∷ ls) = (number_value 10 (decimal l.pin) ≡ l.pin) × AreNumbers ls

pins_spelled : (n : ℕ) (ls : List PinLine) (at : Place) (more : List Piece) → AreNumbers ls
    → (ds : List Declaration) × (behind : Place) × ArePins ls ds × SpellsList (decl n).spells (tokens_from at (pins_pieces ls more)) ds (tokens_from behind more)
pins_spelled n [] at more are = ([], at, refl, refl)
pins_spelled n (l ∷ ls) at more are =
    let d = pin_spelled n l at (pins_pieces ls more) are.0 in
    let rest = pins_spelled n ls d.1 more are.1 in
    (d.0 ∷ rest.0, rest.1, (d.0, rest.0, d.2, rest.2, refl), (tokens_from d.1 (pins_pieces ls more), d.3, rest.3))

-- ---- the module

abbrev WholeSpelled : ℕ → PinSource → Type 0
WholeSpelled n c = (m : ModuleTree) × IsSourceTree c m × (source n).spells (tokens_from first_place (source_pieces c)) m []

device_spelled : (n : ℕ) (name : List ℕ) (at : Place) (more : List Piece)
    → (d : Declaration) × (behind : Place) × ((p : Place) × (q : Place) × (d ≡ ADevice (word (codes "d") p) (word (codes "'" ++ name ++ codes "'") q)))
    × (other_decl n).spells (tokens_from at (identifier feed (codes "d") ∷ keyword space (codes "device") ∷ string space (codes "'" ++ name ++ codes "'") ∷ semicolon ∷ more)) d (tokens_from behind more)
unfolding other_decl naming device name text terminal_of
device_spelled n chip at more =
    let p : Piece = identifier feed (codes "d") in
    let k : Piece = keyword space (codes "device") in
    let s : Piece = string space (codes "'" ++ chip ++ codes "'") in
    let at_k : Place = place_behind at p in
    let at_s : Place = place_behind at_k k in
    let at_e : Place = place_behind at_s s in
    let w : Word = word (codes "d") (place_in at p) in
    let said : Word = word (codes "'" ++ chip ++ codes "'") (place_in at_s s) in (
      ADevice w said,
      place_behind at_e semicolon,
      (place_in at p, place_in at_s s, refl),
      inl (inl (
        (w, (token_at (place_in at_k k) k, (said, token_at (place_in at_e semicolon) semicolon))),
        (
          tokens_from at_k (k ∷ s ∷ semicolon ∷ more),
          (token_at (place_in at p) p, (refl, refl), refl),
          (
            tokens_from at_s (s ∷ semicolon ∷ more),
            (refl, refl),
            (tokens_from at_e (semicolon ∷ more), (token_at (place_in at_s s) s, (refl, refl), refl), (refl, refl)),
          ),
        ),
        refl,
      )),
    )

sections_spelled : (n : ℕ) (ls : List SumLine) (at : Place) (more : List Piece)
    → (ss : List Statement) × (behind : Place) × AreLines ls ss × (sections (suc n)).spells (tokens_from at (keyword feed (codes "equations") ∷ lines_pieces ls more)) (Equations ss ∷ []) (tokens_from behind more)
unfolding sections proper equations terminal_of
sections_spelled n ls at more =
    let k : Piece = keyword feed (codes "equations") in
    let r = lines_spelled n ls (place_behind at k) more in (
      r.0,
      r.1,
      r.2,
      (
        (Equations r.0 ∷ []) ∷ [],
        (
          tokens_from r.1 more,
          (
            (Equations r.0, []),
            (
              tokens_from r.1 more,
              inr (inl ((token_at (place_in at k) k, r.0), (tokens_from (place_behind at k) (lines_pieces ls more), (refl, refl), r.3), refl)),
              (refl, refl),
            ),
            refl,
          ),
          refl,
        ),
        refl,
      ),
    )

pub whole : (n : ℕ) (c : PinSource) → AreNumbers c.pins → WholeSpelled (suc n) c
unfolding source options first_decls name terminal_of
whole n c are =
    let m : Piece = keyword none (codes "module") in
    let i : Piece = identifier space (codes "chip") in
    let stop : Piece = keyword feed (codes "end") in
    let at_i : Place = place_behind first_place m in
    let at_d : Place = place_behind at_i i in
    let equations_pieces : List Piece = keyword feed (codes "equations") ∷ lines_pieces c.lines (stop ∷ []) in
    let d = device_spelled (suc n) (device_text c.device) at_d (pins_pieces c.pins equations_pieces) in
    let ps = pins_spelled (suc n) c.pins d.1 equations_pieces are in
    let ss = sections_spelled n c.lines ps.1 (stop ∷ []) in
    let decls : List Piece = identifier feed (codes "d") ∷ keyword space (codes "device") ∷ string space (codes "'" ++ device_text c.device ++ codes "'") ∷ semicolon ∷ pins_pieces c.pins equations_pieces in
    let start : Token = token_at (place_in first_place m) m in
    let title : Word = word (codes "chip") (place_in at_i i) in
    let end : Token = token_at (place_in ss.1 stop) stop in (
      record { place = start.place; name = title; title = None; options = []; decls = d.0 ∷ ps.0; sections = Equations ss.0 ∷ [] },
      record {
        place = start.place;
        name = title.place;
        device = d.2.0;
        text = d.2.1;
        pins = ps.0;
        are_pins = ps.2;
        lines = ss.0;
        are_lines = ss.2;
        is = ap (λ (x : Declaration). record { place = start.place; name = title; title = None; options = []; decls = x ∷ ps.0; sections = Equations ss.0 ∷ [] }) d.2.2;
      },
      (
        (start, (title, (None, (None, ([], (d.0 ∷ ps.0, (Equations ss.0 ∷ [], (end, (None, None))))))))),
        (
          tokens_from at_i (i ∷ decls),
          (refl, refl),
          (
            tokens_from at_d decls,
            (token_at (place_in at_i i) i, (refl, refl), refl),
            (
              tokens_from at_d decls,
              refl,
              (
                tokens_from at_d decls,
                refl,
                (
                  tokens_from at_d decls,
                  ([], refl, refl),
                  (
                    tokens_from ps.1 equations_pieces,
                    (Some (d.0, ps.0), (tokens_from d.1 (pins_pieces c.pins equations_pieces), d.3, ps.3), refl),
                    (tokens_from ss.1 (stop ∷ []), ss.3, ([], (refl, refl), ([], refl, refl))),
                  ),
                ),
              ),
            ),
          ),
        ),
        refl,
      ),
    )
