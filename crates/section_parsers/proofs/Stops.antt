-- If one reading stops, so does another that stops with it.
use Rattle.std.proofs.Common.{◌≡◌, Result, Err}
use Rattle.section_parsers.proofs.Common.{Stop, Syntax, TooDeep}
use Rattle.abel_lexer.specs.declared.token.Token.{Token}
use Rattle.abel_grammar.specs.declared.halt.Halt.{Halt}
use Rattle.abel_grammar.specs.declared.halt.Halt.TheVariants as halt
use Rattle.abel_grammar.specs.Gives.{Fails}

pub fails_as : {A B : Type 0} (h : Halt) (r : Result A (Stop Token)) (q : Result B (Stop Token)) → Fails h r → ((s : Stop Token) → r ≡ Err s → q ≡ Err s) → Fails h q
fails_as halt.Memory r q e f = tt
fails_as (halt.Syntax left) r q e f = f (Syntax left.now) e
fails_as (halt.TooDeep left) r q e f = f (TooDeep left.now) e
