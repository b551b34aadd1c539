-- Nothing is refused of the uses of names in equations whose pins are declared.
use Rattle.std.proofs.Common.{◌≡◌, ℕ, zero, suc, Bool, true, false, Option, Some, List, [], ◌∷◌, ◌++◌, slice_get, refl, sym, ap, ◌∙◌, append_assoc, bytes_eq}
use Rattle.decompiler.proofs.Common.{AllByRecursion, true≢false, bytes_eq-Decides, Place, Extension, APin, Entry, is_value, names_any, Tree, AName, Statement, Use, list_uses, statement_uses, uses, entry, NameFault, use_refused, uses_refused, PinLiteral, PinLine, SumLine, name_text, q_if, word, IsLine, AreLines, said, ArePinEntries, same_some}
use Rattle.decompiler.proofs.EachTree.{HoldsBySteps, sum_holds}

-- the name of a pin that is declared is a value's
pub pins_known : (ls : List PinLine) (es : List Entry) (k : ℕ) (l : PinLine) → ArePinEntries ls es → slice_get ls k ≡ Some l → names_any is_value es (name_text l.pin) ≡ true
pins_known [] es k l are there = absurd (none there)
  where
    none : slice_get [] k ≡ Some l → ⊥
    none e = cc
pins_known (x ∷ xs) es k l are there =
    ap (λ (ys : List Entry). names_any is_value ys (name_text l.pin)) (are.4 ∙ ap (λ (e : Entry). e ∷ are.1) are.2.1)
    ∙ by_test (bytes_eq (name_text l.pin) (name_text x.pin)) refl k there (λ j later. pins_known xs are.1 j l are.3 later)
  where
    first : Entry
    first = entry (name_text x.pin) are.2.0 (APin x.pin false) (said x.follows)

    IsLater : Type 0
    IsLater = (j : ℕ) → slice_get xs j ≡ Some l → names_any is_value are.1 (name_text l.pin) ≡ true

    by_test : (b : Bool) → bytes_eq (name_text l.pin) (name_text x.pin) ≡ b → (k : ℕ) → slice_get (x ∷ xs) k ≡ Some l → IsLater → names_any is_value (first ∷ are.1) (name_text l.pin) ≡ true
    by_test true hit k there later = rw hit refl
    by_test false miss zero there later =
        let same : x ≡ l = same_some x l there in
        absurd (true≢false (sym ((bytes_eq-Decides (name_text l.pin) (name_text x.pin)).1 (ap (λ (y : PinLine). name_text y.pin) (sym same))) ∙ miss))
    by_test false miss (suc j) there later = rw miss (later j there)

module _ (es : List Entry) where
  uses_appended : (xs ys : List Use) → uses_refused es (xs ++ ys) ≡ uses_refused es xs ++ uses_refused es ys
  uses_appended [] ys = refl
  uses_appended (x ∷ xs) ys = ap (λ (fs : List NameFault). use_refused es x ++ fs) (uses_appended xs ys) ∙ sym (append_assoc (use_refused es x) (uses_refused es xs) (uses_refused es ys))

  both_pass : (xs ys : List Use) → uses_refused es xs ≡ [] → uses_refused es ys ≡ [] → uses_refused es (xs ++ ys) ≡ []
  both_pass xs ys here there = uses_appended xs ys ∙ ap (λ (fs : List NameFault). fs ++ uses_refused es ys) here ∙ there

  abbrev pub IsValueName : ℕ → Type 0
  IsValueName pin = names_any is_value es (name_text pin) ≡ true

  abbrev Passes : Tree → Type 0
  Passes tree = uses_refused es (uses tree) ≡ []

  name_passes : (pin : ℕ) (e : Option Extension) (p : Place) → IsValueName pin → Passes (AName (word (name_text pin) p) e)
  name_passes pin e p known = rw known refl

  steps : HoldsBySteps (λ (l : PinLiteral). IsValueName l.pin) Passes
  steps = record {
    number = λ n p low. refl;
    name = λ l p known. name_passes l.pin (q_if l.of_q) p known;
    complement = λ p t here. here;
    both = λ p t u here there. both_pass (uses t) (uses u) here there;
    either = λ p t u here there. both_pass (uses t) (uses u) here there;
  }

  abbrev pub IsValueLine : SumLine → Type 0
  IsValueLine l = IsValueName l.pin × AllByRecursion (AllByRecursion (λ (k : PinLiteral). IsValueName k.pin)) l.products

  line_passes : (l : SumLine) (s : Statement) → IsLine l s → IsValueLine l → uses_refused es (statement_uses s) ≡ []
  line_passes l s is known =
      ap (λ (x : Statement). uses_refused es (statement_uses x)) is.is
      ∙ both_pass (uses is.target) (uses is.value)
      (ap (λ (x : Tree). uses_refused es (uses x)) is.named.1 ∙ name_passes l.pin l.extension is.named.0 known.0)
      (sum_holds (λ (k : PinLiteral). IsValueName k.pin) Passes steps l.products is.value known.1 is.sum)

  pub lines_pass : (ls : List SumLine) (ss : List Statement) → AreLines ls ss → AllByRecursion IsValueLine ls → uses_refused es (list_uses ss) ≡ []
  lines_pass [] ss are known = ap (λ (xs : List Statement). uses_refused es (list_uses xs)) are
  lines_pass (l ∷ ls) ss are known =
      ap (λ (xs : List Statement). uses_refused es (list_uses xs)) are.4
      ∙ both_pass (statement_uses are.0) (list_uses are.1) (line_passes l are.0 are.2 known.0) (lines_pass ls are.1 are.3 known.1)
