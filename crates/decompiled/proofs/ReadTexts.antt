-- The text of a source is read as its module.
use Rattle.std.proofs.Common.{ℕ, List, [], ◌∷◌, refl, subst}
use Rattle.decompiled.proofs.Common.{AllByRecursion, IsTokensOf, first_place, IsExpanded, tokens_from, PinLiteral, PinLine, SumLine, source_text, source_pieces, feed}
use Rattle.decompiled.proofs.Expands.{expands}
use Rattle.decompiled.proofs.Scans.{scans}
use Rattle.decompiled.specs.Reading.{IsLow, IsLowProduct, IsLowLine, SourceTextsAreRead}
use Rattle.decompiled.proofs.PinNumbers.{IsPinNumber, pin_number}
use Rattle.decompiled.proofs.PlainPieces.{GoodProduct, GoodLine, IsNamed, source_plain}
use Rattle.decompiled.proofs.PieceTexts.{source_is}
use Rattle.decompiled.proofs.Modules.{AreNumbers, whole}

-- what holds of each holds of all
turned : {A : Type 0} (P Q : A → Type 0) → ((x : A) → P x → Q x) → (xs : List A) → AllByRecursion P xs → AllByRecursion Q xs
turned P Q f [] all = tt
turned P Q f (x ∷ xs) all = (f x all.0, turned P Q f xs all.1)

good_product : (ls : List PinLiteral) → IsLowProduct ls → GoodProduct ls
good_product ls low = turned (λ (l : PinLiteral). IsLow l.pin) (λ (l : PinLiteral). IsPinNumber l.pin) (λ l lt. pin_number l.pin lt) ls low

good_line : (l : SumLine) → IsLowLine l → GoodLine l
good_line l low = (pin_number l.pin low.0, turned IsLowProduct GoodProduct good_product l.products low.1)

numbers : (ls : List PinLine) → AllByRecursion (λ (l : PinLine). IsPinNumber l.pin) ls → AreNumbers ls
numbers [] all = tt
numbers (l ∷ ls) all = (all.0.value, numbers ls all.1)

pub read : SourceTextsAreRead
read c low =
    let named : IsNamed c = record {
      pins = turned (λ (l : PinLine). IsLow l.pin) (λ (l : PinLine). IsPinNumber l.pin) (λ l lt. pin_number l.pin lt) c.pins low.pins;
      lines = turned IsLowLine GoodLine good_line c.lines low.lines;
    } in
    let plain = source_plain c named in
    let spelled = whole 63 c (numbers c.pins named.pins) in (
      spelled.0,
      spelled.1,
      record {
        expanded = source_text c;
        expands = subst (λ (v : List ℕ). IsExpanded v v) (source_is c) (expands (source_pieces c) feed refl plain);
        tokens = tokens_from first_place (source_pieces c);
        scanned = subst (λ (v : List ℕ). IsTokensOf v (tokens_from first_place (source_pieces c))) (source_is c) (scans (source_pieces c) feed refl plain);
        so = spelled.2;
      },
    )
