-- A text that is gathered, and the most bytes that it may have.
use Rattle.std.specs.Prelude.{ℕ, List}

pub record Gathering : Type 0 where
  pub text : List ℕ
  pub most : ℕ
