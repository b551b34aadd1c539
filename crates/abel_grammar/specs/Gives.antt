-- What a parsing function returned is what reading gives, unless memory ran out (a helper of the
-- parser's own contracts).
use Rattle.std.specs.Prelude.{◌≡◌, Result, Ok, Err}
use Rattle.abel_grammar.specs.Prelude.{Token}
use Rattle.abel_grammar.specs.Reading.{Stop, Syntax, TooDeep}
use Rattle.abel_grammar.specs.declared.halt.Halt.{Halt}
use Rattle.abel_grammar.specs.declared.halt.Halt.TheVariants as halt

-- reading stops if the code did, unless that is for lack of memory
abbrev pub Fails : {Y : Type 0} → Halt → Result Y (Stop Token) → Type 0
Fails halt.Memory read = Unit {0}
Fails (halt.Syntax left) read = read ≡ Err (Syntax left.now)
Fails (halt.TooDeep left) read = read ≡ Err (TooDeep left.now)

-- reading gives what the code does, seen by `view`
abbrev pub Gives : {V Y : Type 0} → (V → Y) → Result V Halt → Result Y (Stop Token) → Type 0
Gives view (Ok x) read = read ≡ Ok (view x)
Gives view (Err e) read = Fails e read
