-- Contributions: what equations, rows and branches give to a signal (ABEL-HDL Reference Manual, equations).
use Rattle.std.specs.Prelude.{ℕ, Bool, false, ◌||◌, Option, None, Some, List, get_or}
use Rattle.abel_meaning.specs.Prelude.{Extension, Entry}
use Rattle.abel_meaning.specs.Terms.{Term}
use Rattle.abel_meaning.specs.Designs.{Context, name_at}

-- how terms are read: at a point as truth values, or as bit formulas. `word w t` is the value that a target of w
-- signals takes, from the left
pub record Evaluator (W : Type 0) : Type 0 where
  pub constant : Bool → W
  pub not : W → W
  pub both : W → W → W
  pub either : W → W → W
  pub word : ℕ → Term → List W

-- the one bit that counts of a condition
abbrev pub condition : {W : Type 0} → Evaluator W → Term → W
condition ev t = get_or (ev.word 1 t) 0 (ev.constant false)

-- the signal is one, may be anything, or its table or diagram matches
pub data Gives : Type 0 where
  One Any Match : Gives

-- what is given to a signal, where `when` holds. `block` numbers the tables and diagrams from 0
pub record Contribution (W : Type 0) : Type 0 where
  pub signal : ℕ
  pub extension : Option Extension
  pub complement : Bool
  pub clocked : Bool
  pub block : Option ℕ
  pub dontcare : Bool
  pub gives : Gives
  pub holds : W

-- what surrounds a statement: the conditions, whether @DCSET is in force for the block, and the block
pub record Guard (W : Type 0) : Type 0 where
  pub holds : W
  pub dontcare : Bool
  pub block : Option ℕ

-- the guard with one more condition
abbrev pub guarded : {W : Type 0} → Evaluator W → Guard W → W → Guard W
guarded ev g w = record g { holds = ev.both g.holds w }

-- the block is don't-care for the signal
abbrev pub is_dontcare : {W : Type 0} → Guard W → Entry → Option ℕ → Bool
is_dontcare g x None = false
is_dontcare g x (Some block) = g.dontcare || x.words.dc

-- a contribution under a guard
abbrev pub contribution : {W : Type 0} → Context → Guard W → Option Extension
    → (complement clocked : Bool) → Gives → (signal : ℕ) → W → Contribution W
contribution d g extension complement clocked gives s w =
    record {
      signal = s;
      extension = extension;
      complement = complement;
      clocked = clocked;
      block = g.block;
      dontcare = is_dontcare g (name_at d s) g.block;
      gives = gives;
      holds = w;
    }
