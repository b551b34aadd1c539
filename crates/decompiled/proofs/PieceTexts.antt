-- The text of the pieces is that of the source.
use Rattle.std.proofs.Common.{◌≡◌, ℕ, Bool, true, false, Option, None, Some, List, [], ◌∷◌, ◌++◌, refl, sym, ap, ◌∙◌, append_assoc, flat_map, codes}
use Rattle.decompiled.proofs.Common.{decimal, device_text, Extension, Piece, text_of, PinLiteral, PinLine, SumLine, PinSource, q_if, name_text, sign_text, literal_text, product_text, sum_text, extension_text, line_text, attributes_text, pin_text, source_text, none, space, feed, sign, keyword, name_pieces, extension_pieces, literal_pieces, further, product_pieces, sum_pieces, line_pieces, lines_pieces, attribute_pieces, pin_pieces, pins_pieces, source_pieces}

name_is : (gap : List ℕ) (negated : Bool) (pin : ℕ) (more : List Piece) (rest : List ℕ)
    → text_of (name_pieces gap negated pin more) rest ≡ gap ++ (sign_text negated ++ (name_text pin ++ text_of more rest))
name_is gap false pin more rest = refl
name_is gap true pin more rest = refl

extension_is : (e : Option Extension) (more : List Piece) (rest : List ℕ) → text_of (extension_pieces e more) rest ≡ extension_text e ++ text_of more rest
extension_is None more rest = refl
extension_is (Some e) more rest = refl

-- texts before another, grouped from the left
three : (a b c d : List ℕ) → a ++ (b ++ (c ++ d)) ≡ ((a ++ b) ++ c) ++ d
three a b c d = sym (append_assoc a b (c ++ d)) ∙ sym (append_assoc (a ++ b) c d)

five : (a b c d e f : List ℕ) → a ++ (b ++ (c ++ (d ++ (e ++ f)))) ≡ ((((a ++ b) ++ c) ++ d) ++ e) ++ f
five a b c d e f = three a b c (d ++ (e ++ f)) ∙ sym (append_assoc ((a ++ b) ++ c) d (e ++ f)) ∙ sym (append_assoc (((a ++ b) ++ c) ++ d) e f)

six : (a b c d e f g : List ℕ) → a ++ (b ++ (c ++ (d ++ (e ++ (f ++ g))))) ≡ (((((a ++ b) ++ c) ++ d) ++ e) ++ f) ++ g
six a b c d e f g = five a b c d e (f ++ g) ∙ sym (append_assoc ((((a ++ b) ++ c) ++ d) ++ e) f g)

-- a part with a space before it
abbrev pub IsWritten : {A : Type 0} → (A → List Piece → List Piece) → (A → List ℕ) → Type 0
IsWritten {A} write show = (x : A) (more : List Piece) (rest : List ℕ) → text_of (write x more) rest ≡ 32 ∷ show x ++ text_of more rest

pub literal_is : IsWritten literal_pieces literal_text
literal_is l more rest =
    name_is space l.negated l.pin (extension_pieces (q_if l.of_q) more) rest
    ∙ ap (λ (x : List ℕ). space ++ (sign_text l.negated ++ (name_text l.pin ++ x))) (extension_is (q_if l.of_q) more rest)
    ∙ ap (λ (x : List ℕ). space ++ x) (three (sign_text l.negated) (name_text l.pin) (extension_text (q_if l.of_q)) (text_of more rest))

-- further parts, a sign of one byte before each
module _ (A : Type 0) (write : A → List Piece → List Piece) (show : A → List ℕ) (written : IsWritten write show) (c : ℕ) where
  pub further_is : (xs : List A) (more : List Piece) (rest : List ℕ)
      → text_of (further (sign space (c ∷ [])) write xs more) rest ≡ flat_map (λ k. 32 ∷ c ∷ 32 ∷ show k) xs ++ text_of more rest
  further_is [] more rest = refl
  further_is (x ∷ xs) more rest =
      let later : List ℕ = flat_map (λ k. 32 ∷ c ∷ 32 ∷ show k) xs in
      ap (λ (v : List ℕ). 32 ∷ c ∷ v) (written x (further (sign space (c ∷ [])) write xs more) rest)
      ∙ ap (λ (v : List ℕ). 32 ∷ c ∷ 32 ∷ show x ++ v) (further_is xs more rest)
      ∙ ap (λ (v : List ℕ). 32 ∷ c ∷ 32 ∷ v) (sym (append_assoc (show x) later (text_of more rest)))

  pub joined_is : (x : A) (xs : List A) (more : List Piece) (rest : List ℕ)
      → text_of (write x (further (sign space (c ∷ [])) write xs more)) rest ≡ 32 ∷ (show x ++ flat_map (λ k. 32 ∷ c ∷ 32 ∷ show k) xs) ++ text_of more rest
  joined_is x xs more rest =
      let later : List ℕ = flat_map (λ k. 32 ∷ c ∷ 32 ∷ show k) xs in
      written x (further (sign space (c ∷ [])) write xs more) rest
      ∙ ap (λ (v : List ℕ). 32 ∷ show x ++ v) (further_is xs more rest)
      ∙ ap (λ (v : List ℕ). 32 ∷ v) (sym (append_assoc (show x) later (text_of more rest)))

pub product_is : IsWritten product_pieces product_text
product_is [] more rest = refl
product_is (l ∷ ls) more rest = joined_is PinLiteral literal_pieces literal_text literal_is 38 l ls more rest

pub sum_is : IsWritten sum_pieces sum_text
sum_is [] more rest = refl
sum_is (p ∷ ps) more rest = joined_is (List PinLiteral) product_pieces product_text product_is 35 p ps more rest

-- ---- lines; each piece of a line that is its first has the line feed of the line before

-- what follows a line feed
abbrev behind_feed : List Piece → List ℕ → List ℕ → Type 0
behind_feed ps rest text = text_of ps rest ≡ 10 ∷ text

line_is : (l : SumLine) (more : List Piece) (rest text : List ℕ) → behind_feed more rest text → behind_feed (line_pieces l more) rest (line_text l ++ text)
line_is l more rest text e =
    let value : List ℕ = sum_text l.products in
    let a : List ℕ = sign_text l.negated in
    let b : List ℕ = name_text l.pin in
    let c : List ℕ = extension_text l.extension in
    let inner : List Piece = sum_pieces l.products (sign none (codes ";") ∷ more) in
    let end : text_of (sign none (codes ";") ∷ more) rest ≡ codes ";\n" ++ text = ap (λ (v : List ℕ). 59 ∷ v) e in
    let mid : text_of (sign space (codes "=") ∷ inner) rest ≡ codes " = " ++ (value ++ (codes ";\n" ++ text)) =
    ap (λ (v : List ℕ). 32 ∷ 61 ∷ v) (sum_is l.products (sign none (codes ";") ∷ more) rest) ∙ ap (λ (v : List ℕ). codes " = " ++ (value ++ v)) end in
    name_is feed l.negated l.pin (extension_pieces l.extension (sign space (codes "=") ∷ inner)) rest
    ∙ ap (λ (v : List ℕ). 10 ∷ a ++ (b ++ v)) (extension_is l.extension (sign space (codes "=") ∷ inner) rest)
    ∙ ap (λ (v : List ℕ). 10 ∷ a ++ (b ++ (c ++ v))) mid
    ∙ ap (λ (v : List ℕ). 10 ∷ v) (six a b c (codes " = ") value (codes ";\n") text)

lines_are : (ls : List SumLine) (more : List Piece) (rest text : List ℕ) → behind_feed more rest text → behind_feed (lines_pieces ls more) rest (flat_map line_text ls ++ text)
lines_are [] more rest text e = e
lines_are (l ∷ ls) more rest text e =
    line_is l (lines_pieces ls more) rest (flat_map line_text ls ++ text) (lines_are ls more rest text e)
    ∙ ap (λ (v : List ℕ). 10 ∷ v) (sym (append_assoc (line_text l) (flat_map line_text ls) text))

attributes_are : (o : Option Bool) (more : List Piece) (rest : List ℕ) → text_of (attribute_pieces o more) rest ≡ attributes_text o ++ text_of more rest
attributes_are None more rest = refl
attributes_are (Some true) more rest = refl
attributes_are (Some false) more rest = refl

pin_is : (l : PinLine) (more : List Piece) (rest text : List ℕ) → behind_feed more rest text → behind_feed (pin_pieces l more) rest (pin_text l ++ text)
pin_is l more rest text e =
    let a : List ℕ = name_text l.pin in
    let d : List ℕ = decimal l.pin in
    let w : List ℕ = attributes_text l.follows in
    let end : text_of (sign none (codes ";") ∷ more) rest ≡ codes ";\n" ++ text = ap (λ (v : List ℕ). 59 ∷ v) e in
    ap (λ (v : List ℕ). 10 ∷ a ++ (codes " pin " ++ (d ++ v))) (attributes_are l.follows (sign none (codes ";") ∷ more) rest ∙ ap (λ (v : List ℕ). w ++ v) end)
    ∙ ap (λ (v : List ℕ). 10 ∷ v) (five a (codes " pin ") d w (codes ";\n") text)

pins_are : (ls : List PinLine) (more : List Piece) (rest text : List ℕ) → behind_feed more rest text → behind_feed (pins_pieces ls more) rest (flat_map pin_text ls ++ text)
pins_are [] more rest text e = e
pins_are (l ∷ ls) more rest text e =
    pin_is l (pins_pieces ls more) rest (flat_map pin_text ls ++ text) (pins_are ls more rest text e)
    ∙ ap (λ (v : List ℕ). 10 ∷ v) (sym (append_assoc (pin_text l) (flat_map pin_text ls) text))

-- ---- the whole

pub source_is : (c : PinSource) → text_of (source_pieces c) feed ≡ source_text c
source_is c =
    let lines : List ℕ = flat_map line_text c.lines ++ codes "end\n" in
    let stop : Piece = keyword feed (codes "end") in
    let equations : List Piece = keyword feed (codes "equations") ∷ lines_pieces c.lines (stop ∷ []) in
    let body : behind_feed (lines_pieces c.lines (stop ∷ [])) feed lines = lines_are c.lines (stop ∷ []) feed (codes "end\n") refl in
    let section : behind_feed equations feed (codes "equations\n" ++ lines) = ap (λ (v : List ℕ). codes "\nequations" ++ v) body in
    let pins : behind_feed (pins_pieces c.pins equations) feed (flat_map pin_text c.pins ++ (codes "equations\n" ++ lines)) =
    pins_are c.pins equations feed (codes "equations\n" ++ lines) section in
    let name : List ℕ = device_text c.device in
    let pins_text : List ℕ = flat_map pin_text c.pins in
    ap (λ (v : List ℕ). codes "module chip\nd device " ++ ((codes "'" ++ (name ++ codes "'")) ++ (codes ";" ++ v))) pins
    ∙ ap (λ (v : List ℕ). codes "module chip\nd device '" ++ v) (append_assoc name (codes "'") (codes ";\n" ++ (pins_text ++ (codes "equations\n" ++ lines))))
    ∙ six (codes "module chip\nd device '") name (codes "';\n") pins_text (codes "equations\n") (flat_map line_text c.lines) (codes "end\n")
