-- The place where reading stopped is that of the token which is refused.
use Rattle.std.proofs.Common.{◌≡◌, ℕ, ◌-◌, ◌==◌, true, false, List, [], ◌∷◌, ◌++◌, length, Ok, Err, refl, sym, ap, subst, ◌∙◌, arith, length-append}
use Rattle.std.proofs.lemmas.Bool.Decides.{nat_tests}
use Rattle.abel_grammar.specs.Reading.{Syntax, TooDeep}
use Rattle.pld_base.specs.declared.place.Place.{Place}
use Rattle.abel_lexer.specs.declared.token.Token.{Token}
use Rattle.abel_tree.specs.Tree.{ModuleTree}
use Rattle.abel_grammar.specs.ModuleReaders.{read_source}
use Rattle.abel_grammar.proofs.Verdict.{is_stopped, is_left_over, is_too_deep, is_end, is_rest}
use Rattle.abel_parser.specs.declared.fault.ParseFault.TheVariants as fault
use Rattle.abel_grammar.proofs.ModuleLaws.{source_laws}
use Rattle.abel_parser.specs.Refusals.{place_at, IsParsed, IsRefused}

-- the token after so many is the first of the others
place_behind : (c left : List Token) (end : Place) → place_at (c ++ left) end (length c) ≡ place_at left end 0
place_behind [] left end = refl
place_behind (t ∷ c) left end = place_behind c left end

place_left : (ts c left : List Token) (end : Place) → ts ≡ c ++ left → place_at ts end (length ts - length left) ≡ place_at left end 0
place_left ts c left end e =
    let count : length ts - length left ≡ length c = omega (arith, ap length e, length-append c left) in
    ap (place_at ts end) count ∙ ap (λ (us : List Token). place_at us end (length c)) e ∙ place_behind c left end

pub refused_syntax : (ts left : List Token) (end : Place) → read_source 64 ts ≡ Err (Syntax left) → IsRefused ts end (fault.Syntax (place_at left end 0))
refused_syntax ts left end e =
    let c = is_end ts (Syntax left) e in
    (length ts - length left, place_left ts c.0 left end c.1, is_stopped ts left e)

pub refused_deep : (ts left : List Token) (end : Place) → read_source 64 ts ≡ Err (TooDeep left) → IsRefused ts end (fault.TooDeep (place_at left end 0))
refused_deep ts left end e =
    let c = is_end ts (TooDeep left) e in
    (length ts - length left, place_left ts c.0 left end c.1, is_too_deep ts left e)

-- tokens are left after the module
pub refused_left : (ts : List Token) (t : ModuleTree) (rest : List Token) (end : Place) → read_source 64 ts ≡ Ok (t, rest) → (length rest == 0) ≡ false → IsRefused ts end (fault.Syntax (place_at rest end 0))
refused_left ts t [] end e some = absurd cc
refused_left ts t (x ∷ rest) end e some =
    let c = is_rest ts (t, x ∷ rest) e in
    (length ts - length (x ∷ rest), place_left ts c.0 (x ∷ rest) end c.1, is_left_over ts t x rest e)

-- none is left
pub none_left : (ts : List Token) (t : ModuleTree) (rest : List Token) → read_source 64 ts ≡ Ok (t, rest) → (length rest == 0) ≡ true → read_source 64 ts ≡ Ok (t, [])
none_left ts t [] e none = e
none_left ts t (x ∷ rest) e none =
    let some : (length (x ∷ rest) == 0) ≡ false = grind (arith, nat_tests) in
    let both : true ≡ false = sym none ∙ some in
    absurd cc

-- what is read to the end is accepted
pub is_accepted : (ts : List Token) (t : ModuleTree) → read_source 64 ts ≡ Ok (t, []) → IsParsed ts t
is_accepted ts t e = (source_laws 64).sound ts (t, []) e
