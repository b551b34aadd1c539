-- Literals, products and sums are spelled.
use Rattle.std.proofs.Common.{◌≡◌, ℕ, zero, suc, inl, inr, Bool, true, false, Option, None, Some, List, [], ◌∷◌, refl, sym, ap, subst, codes}
use Rattle.decompiled.proofs.Common.{Form, SpellsList, ◌then◌, token, grouped, Place, Token, number_value, Extension, Number, Tree, ANumber, AName, AUnary, ABinary, among, terminal_of, name, a_number, numeral_of, extension_of, Piece, token_at, place_in, place_behind, tokens_from, PinLiteral, q_if, name_text, extension_text, none, space, sign, identifier, number, extension_piece, name_pieces, extension_pieces, literal_pieces, further, product_pieces, sum_pieces, IsNumber, IsNamed, IsSigned, IsLiteral, IsJoined, IsProduct, IsSum, word}
use Rattle.abel_tree.specs.declared.words.Extension.TheVariants as extension
use Rattle.abel_tree.specs.declared.words.Unary.TheVariants as unary
use Rattle.abel_tree.specs.declared.words.Binary.{Binary}
use Rattle.abel_tree.specs.declared.words.Binary.TheVariants as binary
use Rattle.abel_grammar.specs.declared.terminal.Terminal.{Terminal}
use Rattle.abel_grammar.specs.Expressions.{name_tree, number_tree, operand, negated, expr, expr_over, joined, level, products, sums, relations, binary_of}

-- a form spells the tokens up to those of the pieces after it, as a tree of which this holds
abbrev pub Spelled : Form Token Tree → (Tree → Type 0) → Place → (pieces more : List Piece) → Type 0
Spelled form Is at pieces more =
    (tree : Tree) × (behind : Place) × Is tree × form.spells (tokens_from at pieces) tree (tokens_from behind more)

-- ---- names

-- the text of an extension names it
extension_named : (e : Extension) → extension_of (extension_text (Some e)) ≡ e
extension_named extension.Clk = refl
extension_named extension.Oe = refl
extension_named extension.Ar = refl
extension_named extension.Sp = refl
extension_named extension.D = refl
extension_named extension.Q = refl
extension_named extension.Fb = refl
extension_named extension.Pin = refl

-- a name and the extension that there may be
pub name_spelled : (gap : List ℕ) (pin : ℕ) (e : Option Extension) (at : Place) (more : List Piece)
    → Spelled name_tree (IsNamed pin e) at (identifier gap (name_text pin) ∷ extension_pieces e more) more
unfolding name_tree name terminal_of
name_spelled gap pin None at more =
    let p : Piece = identifier gap (name_text pin) in
    let w = word (name_text pin) (place_in at p) in (
      AName w None,
      place_behind at p,
      (place_in at p, refl),
      ((w, None), (tokens_from (place_behind at p) more, (token_at (place_in at p) p, (refl, refl), refl), refl), refl),
    )
name_spelled gap pin (Some e) at more =
    let p : Piece = identifier gap (name_text pin) in
    let q : Piece = extension_piece (extension_text (Some e)) in
    let w = word (name_text pin) (place_in at p) in
    let t : Token = token_at (place_in (place_behind at p) q) q in (
      AName w (Some e),
      place_behind (place_behind at p) q,
      (place_in at p, refl),
      (
        (w, Some t),
        (tokens_from (place_behind at p) (q ∷ more), (token_at (place_in at p) p, (refl, refl), refl), (refl, refl)),
        ap (λ (x : Extension). AName w (Some x)) (extension_named e),
      ),
    )

-- it is an operand, however many constructs may be open
pub name_operand : (n : ℕ) (Is : Tree → Type 0) (at : Place) (pieces more : List Piece) → Spelled name_tree Is at pieces more → Spelled (operand n) Is at pieces more
unfolding operand
name_operand zero Is at pieces more s = (s.0, s.1, s.2, inr (inr (inr (inl s.3))))
name_operand (suc n) Is at pieces more s = (s.0, s.1, s.2, inr (inr (inr (inl s.3))))

abbrev numeral : ℕ → Place → Number
numeral value p = record { value = value; place = p }

pub number_operand : (n : ℕ) (Is : Tree → Type 0) (at : Place) (pieces more : List Piece) → Spelled number_tree Is at pieces more → Spelled (operand n) Is at pieces more
unfolding operand
number_operand zero Is at pieces more s = (s.0, s.1, s.2, inr (inr (inr (inr (inl s.3)))))
number_operand (suc n) Is at pieces more s = (s.0, s.1, s.2, inr (inr (inr (inr (inl s.3)))))

-- ---- literals

-- an operand after `!`
complemented : (n : ℕ) (gap : List ℕ) (Is : Tree → Type 0) (at : Place) (pieces more : List Piece)
    → Spelled (operand n) Is (place_behind at (sign gap (codes "!"))) pieces more
    → Spelled (operand (suc n)) (λ tree. (p : Place) × (inner : Tree) × Is inner × (tree ≡ AUnary unary.Not p inner)) at (sign gap (codes "!") ∷ pieces) more
unfolding operand negated terminal_of
complemented n gap Is at pieces more s =
    let p : Piece = sign gap (codes "!") in
    let t : Token = token_at (place_in at p) p in (
      AUnary unary.Not (place_in at p) s.0,
      s.1,
      (place_in at p, s.0, s.2, refl),
      inl ((t, s.0), (tokens_from (place_behind at p) pieces, (refl, refl), s.3), refl),
    )

literal_by : (n : ℕ) (signed : Bool) (pin : ℕ) (of_q : Bool) (at : Place) (more : List Piece)
    → Spelled (operand (suc n)) (IsSigned signed pin (q_if of_q)) at (name_pieces space signed pin (extension_pieces (q_if of_q) more)) more
literal_by n false pin of_q at more =
    name_operand (suc n) (IsNamed pin (q_if of_q)) at (name_pieces space false pin (extension_pieces (q_if of_q) more)) more (name_spelled space pin (q_if of_q) at more)
literal_by n true pin of_q at more =
    let p : Piece = sign space (codes "!") in
    let pieces : List Piece = name_pieces none false pin (extension_pieces (q_if of_q) more) in
    complemented n space (IsNamed pin (q_if of_q)) at pieces more
    (name_operand n (IsNamed pin (q_if of_q)) (place_behind at p) pieces more (name_spelled none pin (q_if of_q) (place_behind at p) more))

literal_spelled : (n : ℕ) (l : PinLiteral) (at : Place) (more : List Piece) → Spelled (operand (suc n)) (IsLiteral l) at (literal_pieces l more) more
literal_spelled n l at more = literal_by n l.negated l.pin l.of_q at more

number_spelled : (w : List ℕ) (value : ℕ) (at : Place) (more : List Piece) → number_value 10 w ≡ value
    → Spelled number_tree (IsNumber value) at (number space w ∷ more) more
unfolding number_tree a_number terminal_of
number_spelled w value at more e =
    let p : Piece = number space w in
    let t : Token = token_at (place_in at p) p in
    let is : numeral_of t ≡ record { value = value; place = place_in at p } = ap (λ (v : ℕ). numeral v (place_in at p)) e in (
      ANumber (numeral value (place_in at p)),
      place_behind at p,
      (place_in at p, refl),
      (numeral value (place_in at p), (t, (refl, refl), is), refl),
    )

-- ---- what is joined to a first part

-- a form of one part alone
single : (a : Form Token Tree) (signs : List Terminal) (Is : Tree → Type 0) (at : Place) (pieces more : List Piece) → Spelled a Is at pieces more → Spelled (level signs a) Is at pieces more
single a signs Is at pieces more s = (s.0, s.1, s.2, ((s.0, []), (tokens_from s.1 more, s.3, refl), refl))

module _ (a : Form Token Tree) (signs : List Terminal) (b : Binary) (s : Piece) (test : (at : Place) → among signs (token_at at s) ≡ true)
    (is : (at : Place) → binary_of (terminal_of (token_at at s)) ≡ b) (A : Type 0) (Is : A → Tree → Type 0) (write : A → List Piece → List Piece)
    (spelled : (x : A) (at : Place) (more : List Piece) → Spelled a (Is x) at (write x more) more) where
  -- parts with the sign before each
  abbrev Joins : (left : Tree) → List A → Place → (more : List Piece) → Type 0
  Joins left xs at more =
      (list : List (Token × Tree)) × (behind : Place) × IsJoined b Is left xs (grouped joined left list)
      × SpellsList (token (among signs) then a).spells (tokens_from at (further s write xs more)) list (tokens_from behind more)

  joins : (left : Tree) (xs : List A) (at : Place) (more : List Piece) → Joins left xs at more
  joins left [] at more = ([], at, refl, refl)
  joins left (x ∷ xs) at more =
      let p : Place = place_in at s in
      let first = spelled x (place_behind at s) (further s write xs more) in
      let rest = joins (ABinary b p left first.0) xs first.1 more in
      let whole = subst (λ (c : Binary). IsJoined b Is (ABinary b p left first.0) xs (grouped joined (ABinary c p left first.0) rest.0)) (sym (is p)) rest.2 in (
        (token_at p s, first.0) ∷ rest.0,
        rest.1,
        (p, first.0, first.2, whole),
        (tokens_from first.1 (further s write xs more), (tokens_from (place_behind at s) (write x (further s write xs more)), (refl, test p), first.3), rest.3),
      )

  pub chained : (x : A) (xs : List A) (at : Place) (more : List Piece)
      → Spelled (level signs a) (λ tree. (first : Tree) × Is x first × IsJoined b Is first xs tree) at (write x (further s write xs more)) more
  chained x xs at more =
      let f = spelled x at (further s write xs more) in
      let j = joins f.0 xs f.1 more in
      (grouped joined f.0 j.0, j.1, (f.0, f.2, j.2), ((f.0, j.0), (tokens_from f.1 (further s write xs more), f.3, j.3), refl))

-- ---- products and sums

abbrev and_piece : Piece
and_piece = sign space (codes "&")

abbrev or_piece : Piece
or_piece = sign space (codes "#")

and_among : (at : Place) → among products (token_at at and_piece) ≡ true
unfolding terminal_of
and_among at = refl

and_is : (at : Place) → binary_of (terminal_of (token_at at and_piece)) ≡ binary.And
unfolding terminal_of
and_is at = refl

or_among : (at : Place) → among sums (token_at at or_piece) ≡ true
unfolding terminal_of
or_among at = refl

or_is : (at : Place) → binary_of (terminal_of (token_at at or_piece)) ≡ binary.Or
unfolding terminal_of
or_is at = refl

product_spelled : (n : ℕ) (ls : List PinLiteral) (at : Place) (more : List Piece) → Spelled (level products (operand (suc n))) (IsProduct ls) at (product_pieces ls more) more
product_spelled n [] at more =
    single (operand (suc n)) products (IsNumber 1) at (number space (codes "1") ∷ more) more
    (number_operand (suc n) (IsNumber 1) at (number space (codes "1") ∷ more) more (number_spelled (codes "1") 1 at more refl))
product_spelled n (l ∷ ls) at more =
    chained (operand (suc n)) products binary.And and_piece and_among and_is PinLiteral IsLiteral literal_pieces (literal_spelled n) l ls at more

zero_spelled : (n : ℕ) (at : Place) (more : List Piece) → Spelled (level products (operand (suc n))) (IsNumber 0) at (number space (codes "0") ∷ more) more
zero_spelled n at more =
    single (operand (suc n)) products (IsNumber 0) at (number space (codes "0") ∷ more) more
    (number_operand (suc n) (IsNumber 0) at (number space (codes "0") ∷ more) more (number_spelled (codes "0") 0 at more refl))

sum_level : (n : ℕ) (ps : List (List PinLiteral)) (at : Place) (more : List Piece) → Spelled (level sums (level products (operand (suc n)))) (IsSum ps) at (sum_pieces ps more) more
sum_level n [] at more = single (level products (operand (suc n))) sums (IsNumber 0) at (number space (codes "0") ∷ more) more (zero_spelled n at more)
sum_level n (p ∷ ps) at more =
    chained (level products (operand (suc n))) sums binary.Or or_piece or_among or_is (List PinLiteral) IsProduct product_pieces (product_spelled n) p ps at more

-- a whole sum, in whose place any expression is allowed
pub sum_spelled : (n : ℕ) (ps : List (List PinLiteral)) (at : Place) (more : List Piece) → Spelled (expr (suc n)) (IsSum ps) at (sum_pieces ps more) more
unfolding expr_over
sum_spelled n ps at more = single (level sums (level products (operand (suc n)))) relations (IsSum ps) at (sum_pieces ps more) more (sum_level n ps at more)
