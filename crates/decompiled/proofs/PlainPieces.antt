-- The pieces of such a source are plain and apart from one another.
use Rattle.std.proofs.Common.{◌≡◌, ℕ, ◌+◌, ◌<◌, Bool, true, false, Option, None, Some, List, [], ◌∷◌, ◌++◌, refl, sym, ap, subst, arith, ◌-◌, ◌==◌, codes}
use Rattle.decompiled.proofs.Common.{AllByRecursion, list_all, decimal, is_ascii_digit, is_ascii_alphanumeric, str_eq_ignore_ascii_case, and_parts, true≢false, device_text, quote, is_blank, is_name_first, is_name_later, starts, longest_at, is_good_number, in_range, Extension, Piece, text_of, is_marked, IsPlainPiece, IsApart, ArePlain, PinLiteral, PinLine, SumLine, PinSource, q_if, name_text, extension_text, literal_text, product_text, sum_text, none, space, feed, sign, keyword, identifier, number, name_pieces, extension_pieces, literal_pieces, further, product_pieces, sum_pieces, line_pieces, lines_pieces, attribute_pieces, pin_pieces, pins_pieces, source_pieces}
use Rattle.abel_lexer.specs.declared.token.TokenKind.TheVariants as kind
use Rattle.abel_tree.specs.declared.words.Extension.TheVariants as an_extension
use Rattle.decompiled.proofs.Apart.{name_apart, number_apart, digit_is}
use Rattle.decompiled.proofs.PinNumbers.{IsPinNumber, is_number_word}
use Rattle.decompiled.proofs.PieceTexts.{IsWritten, literal_is, product_is, sum_is}
use Rattle.decompiled.proofs.NameTexts.{device_plain, device_apart}
use Rattle.decompiled.proofs.PlainWords.{Stops, stopped, not_apart, and_apart, or_apart, equal_apart, semicolon_apart, extension_apart, extension_plain, sign_plain, not_plain, and_plain, or_plain, equal_plain, semicolon_plain, one_apart, zero_apart, one_plain, zero_plain, pin_keyword, istype_keyword, pin_apart, istype_apart, buffer_apart, invert_apart, module_plain, module_apart, chip_word, chip_apart, d_word, d_apart, device_word, device_word_apart, equations_word, equations_apart, end_word, end_apart}

-- ---- names

name_plain : (g : List ℕ) (pin : ℕ) → list_all is_blank g ≡ true → IsPinNumber pin → IsPlainPiece (identifier g (name_text pin))
name_plain g pin blank is =
    record {
      some = refl;
      sound = λ at. rw is.short refl;
      unmarked = refl;
      first = refl;
      quoted = refl;
      no_macro = refl;
      blank = blank;
    }

-- a name before a text that begins with no part of it
name_before : (g : List ℕ) (pin : ℕ) (text : List ℕ) → IsPinNumber pin → starts is_name_later text ≡ false → IsApart (identifier g (name_text pin)) text
name_before g pin text is ends = name_apart (decimal pin) text is.later ends is.plain

stop_ends : (text : List ℕ) → Stops text → starts is_name_later text ≡ false
stop_ends text e = stopped (λ v. starts is_name_later v ≡ false) text e (λ r. refl) (λ r. refl) (λ r. refl)

-- a name and the extension that there may be, before what ends them
named_plain : (g : List ℕ) (pin : ℕ) (e : Option Extension) (more : List Piece) (rest : List ℕ) → list_all is_blank g ≡ true → IsPinNumber pin
    → Stops (text_of more rest) → ArePlain more rest → ArePlain (identifier g (name_text pin) ∷ extension_pieces e more) rest
named_plain g pin None more rest blank is stops plain = (name_plain g pin blank is, name_before g pin (text_of more rest) is (stop_ends (text_of more rest) stops), plain)
named_plain g pin (Some e) more rest blank is stops plain = (
  name_plain g pin blank is,
  name_before g pin (extension_text (Some e) ++ text_of more rest) is (dotted e),
  (extension_plain e, extension_apart e (text_of more rest) stops, plain),
)
  where
    dotted : (e : Extension) → starts is_name_later (extension_text (Some e) ++ text_of more rest) ≡ false
    dotted an_extension.Clk = refl
    dotted an_extension.Oe = refl
    dotted an_extension.Ar = refl
    dotted an_extension.Sp = refl
    dotted an_extension.D = refl
    dotted an_extension.Q = refl
    dotted an_extension.Fb = refl
    dotted an_extension.Pin = refl

signed_plain : (g : List ℕ) (negated : Bool) (pin : ℕ) (e : Option Extension) (more : List Piece) (rest : List ℕ) → list_all is_blank g ≡ true → IsPinNumber pin
    → Stops (text_of more rest) → ArePlain more rest → ArePlain (name_pieces g negated pin (extension_pieces e more)) rest
signed_plain g false pin e more rest blank is stops plain = named_plain g pin e more rest blank is stops plain
signed_plain g true pin e more rest blank is stops plain = (
  sign_plain g blank 33 not_plain,
  not_apart (decimal pin ++ text_of (extension_pieces e more) rest),
  named_plain none pin e more rest refl is stops plain,
)

-- ---- literals, products and sums

-- parts that are plain before what ends them
abbrev ArePlainParts : {A : Type 0} → (A → List Piece → List Piece) → (A → Type 0) → Type 0
ArePlainParts {A} write Good = (x : A) (more : List Piece) (rest : List ℕ) → Good x → Stops (text_of more rest) → ArePlain more rest → ArePlain (write x more) rest

literal_plain : ArePlainParts literal_pieces (λ (l : PinLiteral). IsPinNumber l.pin)
literal_plain l more rest is stops plain = signed_plain space l.negated l.pin (q_if l.of_q) more rest refl is stops plain

module _ (A : Type 0) (write : A → List Piece → List Piece) (show : A → List ℕ) (written : IsWritten write show) (Good : A → Type 0) (parts : ArePlainParts write Good)
    (c : ℕ) (sound : IsPlainPiece (sign none (c ∷ []))) (apart : (rest : List ℕ) → longest_at (c ∷ 32 ∷ rest) ≡ (kind.Sign, 1)) where
  further_stops : (xs : List A) (more : List Piece) (rest : List ℕ) → Stops (text_of more rest) → Stops (text_of (further (sign space (c ∷ [])) write xs more) rest)
  further_stops [] more rest stops = stops
  further_stops (x ∷ xs) more rest stops = refl

  further_plain : (xs : List A) (more : List Piece) (rest : List ℕ) → AllByRecursion Good xs → Stops (text_of more rest) → ArePlain more rest
      → ArePlain (further (sign space (c ∷ [])) write xs more) rest
  further_plain [] more rest good stops plain = plain
  further_plain (x ∷ xs) more rest good stops plain =
      let later : List Piece = further (sign space (c ∷ [])) write xs more in (
        sign_plain space refl c sound,
        subst (λ (v : List ℕ). longest_at (c ∷ v) ≡ (kind.Sign, 1)) (sym (written x later rest)) (apart (show x ++ text_of later rest)),
        parts x later rest good.0 (further_stops xs more rest stops) (further_plain xs more rest good.1 stops plain),
      )

  joined_plain : (x : A) (xs : List A) (more : List Piece) (rest : List ℕ) → Good x → AllByRecursion Good xs → Stops (text_of more rest) → ArePlain more rest
      → ArePlain (write x (further (sign space (c ∷ [])) write xs more)) rest
  joined_plain x xs more rest good goods stops plain =
      parts x (further (sign space (c ∷ [])) write xs more) rest good (further_stops xs more rest stops) (further_plain xs more rest goods stops plain)

abbrev pub GoodProduct : List PinLiteral → Type 0
GoodProduct ls = AllByRecursion (λ (l : PinLiteral). IsPinNumber l.pin) ls

product_plain : ArePlainParts product_pieces GoodProduct
product_plain [] more rest good stops plain = (one_plain, one_apart (text_of more rest) stops, plain)
product_plain (l ∷ ls) more rest good stops plain =
    joined_plain PinLiteral literal_pieces literal_text literal_is (λ (l : PinLiteral). IsPinNumber l.pin) literal_plain 38 and_plain and_apart l ls more rest good.0 good.1 stops plain

sum_plain : ArePlainParts sum_pieces (AllByRecursion GoodProduct)
sum_plain [] more rest good stops plain = (zero_plain, zero_apart (text_of more rest) stops, plain)
sum_plain (p ∷ ps) more rest good stops plain =
    joined_plain (List PinLiteral) product_pieces product_text product_is GoodProduct product_plain 35 or_plain or_apart p ps more rest good.0 good.1 stops plain

-- ---- lines

abbrev pub GoodLine : SumLine → Type 0
GoodLine l = IsPinNumber l.pin × AllByRecursion GoodProduct l.products

-- a line feed follows them
abbrev Feeds : List Piece → List ℕ → Type 0
Feeds more rest = (text : List ℕ) × (text_of more rest ≡ 10 ∷ text)

pub line_plain : (l : SumLine) (more : List Piece) (rest : List ℕ) → GoodLine l → Feeds more rest → ArePlain more rest → ArePlain (line_pieces l more) rest
line_plain l more rest good feeds plain =
    let end : List Piece = sign none (codes ";") ∷ more in
    let behind : ArePlain end rest = (semicolon_plain, subst (λ (v : List ℕ). longest_at (59 ∷ v) ≡ (kind.Sign, 1)) (sym feeds.1) (semicolon_apart feeds.0), plain) in
    let value : ArePlain (sum_pieces l.products end) rest = sum_plain l.products end rest good.1 refl behind in
    let sum_starts = sum_is l.products end rest in
    signed_plain feed l.negated l.pin l.extension (sign space (codes "=") ∷ sum_pieces l.products end) rest refl good.0 refl (
      sign_plain space refl 61 equal_plain,
      subst (λ (v : List ℕ). longest_at (61 ∷ v) ≡ (kind.Sign, 1)) (sym sum_starts) (equal_apart (sum_text l.products ++ text_of end rest)),
      value,
    )

line_feeds : (l : SumLine) (more : List Piece) (rest : List ℕ) → Feeds (line_pieces l more) rest
line_feeds l more rest = by_sign l.negated
  where
    by_sign : (negated : Bool) → Feeds (line_pieces (record l { negated = negated }) more) rest
    by_sign false = (_, refl)
    by_sign true = (_, refl)

pub lines_plain : (ls : List SumLine) (more : List Piece) (rest : List ℕ) → AllByRecursion GoodLine ls → Feeds more rest → ArePlain more rest → ArePlain (lines_pieces ls more) rest
lines_plain [] more rest good feeds plain = plain
lines_plain (l ∷ ls) more rest good feeds plain = line_plain l (lines_pieces ls more) rest good.0 (later ls) (lines_plain ls more rest good.1 feeds plain)
  where
    later : (ls : List SumLine) → Feeds (lines_pieces ls more) rest
    later [] = feeds
    later (k ∷ ks) = line_feeds k (lines_pieces ks more) rest

-- ---- pins

-- a number begins with a digit
number_starts : (w : List ℕ) → is_number_word w ≡ true
    → (d : ℕ) × (ds : List ℕ) × (w ≡ (48 + d) ∷ ds) × (d < 10) × (list_all is_ascii_alphanumeric ds ≡ true)
number_starts [] e = absurd (true≢false (sym e))
number_starts (b ∷ bs) e =
    let p = and_parts (is_ascii_digit b) (list_all is_ascii_alphanumeric bs) e in
    let r = in_range 48 57 b p.0 in
    let is : b ≡ 48 + (b - 48) = omega (arith, r.0) in
    (b - 48, bs, ap (λ (c : ℕ). c ∷ bs) is, omega (arith, r.0, r.1), p.1)

digit_plain : (g : List ℕ) (d : ℕ) (ds : List ℕ) → list_all is_blank g ≡ true → d < 10 → is_good_number 10 ((48 + d) ∷ ds) ≡ true → IsPlainPiece (number g ((48 + d) ∷ ds))
digit_plain g d ds blank low good =
    let dark : (test : ℕ → Bool) → test 48 ≡ false → test 49 ≡ false → test 50 ≡ false → test 51 ≡ false → test 52 ≡ false → test 53 ≡ false → test 54 ≡ false → test 55 ≡ false → test 56 ≡ false → test 57 ≡ false → test (48 + d) ≡ false =
    λ test a b c e f h i j k l. digit_is (λ x. test x ≡ false) d a b c e f h i j k l low in
    record {
      some = refl;
      sound = λ at. rw good refl;
      unmarked = dark is_marked refl refl refl refl refl refl refl refl refl refl;
      first = dark is_name_first refl refl refl refl refl refl refl refl refl refl;
      quoted = dark (λ b. b == quote) refl refl refl refl refl refl refl refl refl refl;
      no_macro = dark (λ b. str_eq_ignore_ascii_case (codes "MACRO") (b ∷ ds)) refl refl refl refl refl refl refl refl refl refl;
      blank = blank;
    }

number_plain : (g w : List ℕ) (more : List Piece) (rest : List ℕ) → list_all is_blank g ≡ true → is_number_word w ≡ true → is_good_number 10 w ≡ true
    → Stops (text_of more rest) → ArePlain more rest → ArePlain (number g w ∷ more) rest
number_plain g w more rest blank word good stops plain =
    let s = number_starts w word in
    let ends : starts is_ascii_alphanumeric (text_of more rest) ≡ false = stopped (λ v. starts is_ascii_alphanumeric v ≡ false) (text_of more rest) stops (λ r. refl) (λ r. refl) (λ r. refl) in
    let one = digit_plain g s.0 s.1 blank s.3 (subst (λ (v : List ℕ). is_good_number 10 v ≡ true) s.2 good) in
    subst (λ (v : List ℕ). ArePlain (number g v ∷ more) rest) (sym s.2) (one, number_apart s.0 s.1 (text_of more rest) s.3 s.4 ends, plain)

attributes_plain : (o : Option Bool) (more : List Piece) (rest text : List ℕ) → text_of more rest ≡ 59 ∷ text → ArePlain more rest → ArePlain (attribute_pieces o more) rest
attributes_plain None more rest text e plain = plain
attributes_plain (Some true) more rest text e plain = (
  istype_keyword,
  istype_apart (codes "'reg,buffer'" ++ text_of more rest),
  (
    record { some = refl; sound = λ at. refl; unmarked = refl; first = refl; quoted = refl; no_macro = refl; blank = refl },
    subst (λ (v : List ℕ). longest_at (codes "'reg,buffer'" ++ v) ≡ (kind.Text, 12)) (sym e) (buffer_apart text),
    plain,
  ),
)
attributes_plain (Some false) more rest text e plain = (
  istype_keyword,
  istype_apart (codes "'reg,invert'" ++ text_of more rest),
  (
    record { some = refl; sound = λ at. refl; unmarked = refl; first = refl; quoted = refl; no_macro = refl; blank = refl },
    subst (λ (v : List ℕ). longest_at (codes "'reg,invert'" ++ v) ≡ (kind.Text, 12)) (sym e) (invert_apart text),
    plain,
  ),
)

attributes_stop : (o : Option Bool) (more : List Piece) (rest : List ℕ) → Stops (text_of more rest) → Stops (text_of (attribute_pieces o more) rest)
attributes_stop None more rest e = e
attributes_stop (Some follows) more rest e = refl

pin_plain : (l : PinLine) (more : List Piece) (rest : List ℕ) → IsPinNumber l.pin → Feeds more rest → ArePlain more rest → ArePlain (pin_pieces l more) rest
pin_plain l more rest is feeds plain =
    let end : List Piece = sign none (codes ";") ∷ more in
    let behind : ArePlain end rest = (semicolon_plain, subst (λ (v : List ℕ). longest_at (59 ∷ v) ≡ (kind.Sign, 1)) (sym feeds.1) (semicolon_apart feeds.0), plain) in
    let said = attributes_plain l.follows end rest (text_of more rest) refl behind in (
      name_plain feed l.pin refl is,
      name_before feed l.pin (32 ∷ codes "pin" ++ text_of (number space (decimal l.pin) ∷ attribute_pieces l.follows end) rest) is refl,
      (
        pin_keyword,
        pin_apart (decimal l.pin ++ text_of (attribute_pieces l.follows end) rest),
        number_plain space (decimal l.pin) (attribute_pieces l.follows end) rest refl is.word is.good (attributes_stop l.follows end rest refl) said,
      ),
    )

pub pins_plain : (ls : List PinLine) (more : List Piece) (rest : List ℕ) → AllByRecursion (λ (l : PinLine). IsPinNumber l.pin) ls → Feeds more rest → ArePlain more rest → ArePlain (pins_pieces ls more) rest
pins_plain [] more rest good feeds plain = plain
pins_plain (l ∷ ls) more rest good feeds plain = pin_plain l (pins_pieces ls more) rest good.0 (later ls) (pins_plain ls more rest good.1 feeds plain)
  where
    later : (ls : List PinLine) → Feeds (pins_pieces ls more) rest
    later [] = feeds
    later (k ∷ ks) = (_, refl)

-- ---- the whole

-- each pin is below 32
pub record IsNamed (c : PinSource) : Type 0 where
  pub pins : AllByRecursion (λ (l : PinLine). IsPinNumber l.pin) c.pins
  pub lines : AllByRecursion GoodLine c.lines

pub source_plain : (c : PinSource) → IsNamed c → ArePlain (source_pieces c) feed
source_plain c named =
    let stop : List Piece = keyword feed (codes "end") ∷ [] in
    let section : List Piece = keyword feed (codes "equations") ∷ lines_pieces c.lines stop in
    let last : ArePlain stop feed = (end_word, end_apart, tt) in
    let lines = lines_plain c.lines stop feed named.lines (codes "end\n", refl) last in
    let fed = lines_feed c.lines in
    let equations : ArePlain section feed = (equations_word, subst (λ (v : List ℕ). longest_at (codes "equations" ++ v) ≡ (kind.Keyword, 9)) (sym fed.1) (equations_apart fed.0), lines) in
    let pins = pins_plain c.pins section feed named.pins (codes "equations" ++ text_of (lines_pieces c.lines stop) feed, refl) equations in
    let pinned = pins_feed c.pins in
    let string_text : List ℕ = codes "'" ++ device_text c.device ++ codes "'" in
    let body : List Piece = sign none (codes ";") ∷ pins_pieces c.pins section in (
      module_plain,
      module_apart (codes "chip\nd device " ++ (string_text ++ text_of body feed)),
      (
        chip_word,
        chip_apart (codes "d device " ++ (string_text ++ text_of body feed)),
        (
          d_word,
          d_apart (codes "device " ++ (string_text ++ text_of body feed)),
          (
            device_word,
            device_word_apart (string_text ++ text_of body feed),
            (
              device_plain c.device,
              device_apart c.device (text_of body feed),
              (semicolon_plain, subst (λ (v : List ℕ). longest_at (59 ∷ v) ≡ (kind.Sign, 1)) (sym pinned.1) (semicolon_apart pinned.0), pins),
            ),
          ),
        ),
      ),
    )
  where
    lines_feed : (ls : List SumLine) → Feeds (lines_pieces ls (keyword feed (codes "end") ∷ [])) feed
    lines_feed [] = (codes "end\n", refl)
    lines_feed (l ∷ ls) = line_feeds l (lines_pieces ls (keyword feed (codes "end") ∷ [])) feed

    pins_feed : (ls : List PinLine) → Feeds (pins_pieces ls (keyword feed (codes "equations") ∷ lines_pieces c.lines (keyword feed (codes "end") ∷ []))) feed
    pins_feed [] = (_, refl)
    pins_feed (l ∷ ls) = (_, refl)
