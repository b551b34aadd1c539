-- When one way to read terms follows another, as the values of formulas follow the formulas (this project's rule).
use Rattle.std.specs.Prelude.{◌≡◌, ℕ, Bool, map}
use Rattle.abel_meaning.specs.Terms.{Term}
use Rattle.abel_meaning.specs.Contributions.{Evaluator, Contribution, Guard}

-- h goes from what the first makes to what the second makes
pub record Follows {V W : Type 0} (h : V → W) (ev : Evaluator V) (fv : Evaluator W) : Type 0 where
  pub constant : (b : Bool) → h (ev.constant b) ≡ fv.constant b
  pub negates : (v : V) → h (ev.not v) ≡ fv.not (h v)
  pub both : (v w : V) → h (ev.both v w) ≡ fv.both (h v) (h w)
  pub either : (v w : V) → h (ev.either v w) ≡ fv.either (h v) (h w)
  pub word : (n : ℕ) (t : Term) → map h (ev.word n t) ≡ fv.word n t

-- a contribution seen through h
abbrev pub seen : {V W : Type 0} → (V → W) → Contribution V → Contribution W
seen h c =
    record {
      signal = c.signal;
      extension = c.extension;
      complement = c.complement;
      clocked = c.clocked;
      block = c.block;
      dontcare = c.dontcare;
      gives = c.gives;
      holds = h c.holds;
    }

-- a guard seen through h
abbrev pub seen_guard : {V W : Type 0} → (V → W) → Guard V → Guard W
seen_guard h g = record { holds = h g.holds; dontcare = g.dontcare; block = g.block }
