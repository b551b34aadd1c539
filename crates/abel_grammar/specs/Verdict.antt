-- What tokens spell, and the place at which they stop to begin anything (this project's rule).
use Rattle.std.specs.Prelude.{◌≡◌, ℕ, ◌+◌, ◌≤◌, ◌<◌, List, [], length, take}
use Rattle.abel_grammar.specs.Form.{Form}

-- the tokens, all of them, spell a tree
abbrev pub SpellsWhole : {X T : Type 0} → Form X T → List X → T → Type 0
SpellsWhole form ts t = form.spells ts t []

-- the tokens, all of them, spell a tree, with some number of constructs open
abbrev pub Spells : {X T : Type 0} → (ℕ → Form X T) → List X → T → Type 0
Spells form ts t = (n : ℕ) × (form n).spells ts t []

-- the tokens begin the form, with some number of constructs open
abbrev pub Begins : {X T : Type 0} → (ℕ → Form X T) → List X → Type 0
Begins form us = (n : ℕ) × (form n).begins us

-- The tokens before the place begin the form, with at most this many constructs open. Those up to
-- and with it begin none; and if the place is the end of the text, the tokens spell nothing.
pub record SyntaxAt {X T : Type 0} (form : ℕ → Form X T) (depth : ℕ) (ts : List X) (place : ℕ)
    : Type 0 where
  pub within : place ≤ length ts
  pub before : (form depth).begins (take place ts)
  pub here : place < length ts → Begins form (take (place + 1) ts) → ⊥
  pub at_end : place ≡ length ts → (t : T) → Spells form ts t → ⊥

-- The tokens up to and with the place begin the form with one construct more than the depth open,
-- and not with less.
pub record TooDeepAt {X T : Type 0} (form : ℕ → Form X T) (depth : ℕ) (ts : List X) (place : ℕ)
    : Type 0 where
  pub within : place < length ts
  pub before : (form depth).begins (take place ts)
  pub here : (form (depth + 1)).begins (take (place + 1) ts)
  pub only_deeper : (form depth).begins (take (place + 1) ts) → ⊥
