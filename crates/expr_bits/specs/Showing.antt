-- Bits in the arena as values with words of formulas (this project's rule).
use Rattle.std.specs.Prelude.{◌≡◌, ℕ, Bool, List, length}
use Rattle.expr_bits.specs.Prelude.{Formula, Word, Value}
use Rattle.abel_meaning.specs.Numbers as number
use Rattle.expr_bits.specs.Making.{ShowsAll}
use Rattle.expr_bits.specs.declared.forms.Bits.{Bits}
use Rattle.expr_bits.specs.declared.forms.Form.{Form}
use Rattle.expr_bits.specs.declared.forms.Form.TheVariants as form

-- the shape of a value, in so many positions
abbrev pub HasForm : Form → Value → (positions : ℕ) → Type 0
HasForm (form.Number n) v k = ((v.shape ≡ number.Number) × (v.number ≡ n)) × (k ≡ 0)
HasForm form.Single v k = (v.shape ≡ number.Single) × (k ≡ 1)
HasForm form.Set v k = v.shape ≡ number.Set k

-- the X positions of a value that has positions
abbrev pub HasUnknown : Form → Value → List Bool → Type 0
HasUnknown (form.Number n) v xs = Unit {0}
HasUnknown form.Single v xs = xs ≡ v.unknown
HasUnknown form.Set v xs = xs ≡ v.unknown

-- the bits are those of a value whose word is this
pub record IsBits (fs : List Formula) (b : Bits) (v : Value) (w : Word) : Type 0 where
  pub form : HasForm b.form v (length b.word)
  pub unknown : HasUnknown b.form v b.unknown
  pub positions : length b.unknown ≡ length b.word
  pub word : ShowsAll fs b.word w

-- what is made of a value is shown as its word
abbrev pub Shows : Value → List Formula → Bits → Word → Type 0
Shows v fs b w = IsBits fs b v w
