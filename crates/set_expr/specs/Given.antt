-- Contributions and guards of the code as those of the language, with formulas for bits (ABEL-HDL Reference Manual,
-- equations).
use Rattle.std.specs.Prelude.{List, map}
use Rattle.set_expr.specs.Prelude.{arena, formula_at, Formula}
use Rattle.abel_meaning.specs.Contributions as meant
use Rattle.set_expr.specs.declared.contributions.Contribution.{Contribution}
use Rattle.set_expr.specs.declared.contributions.Contributions.{Contributions}
use Rattle.set_expr.specs.declared.contributions.Gives.{Gives}
use Rattle.set_expr.specs.declared.contributions.Gives.TheVariants as gives
use Rattle.set_expr.specs.declared.contributions.Guard.{Guard}

abbrev pub view_gives : Gives → meant.Gives
view_gives gives.One = meant.One
view_gives gives.Any = meant.Any
view_gives gives.Match = meant.Match

-- a contribution over the formulas of an arena
abbrev pub view_contribution : List Formula → Contribution → meant.Contribution Formula
view_contribution fs c =
    record {
      signal = c.target.signal;
      extension = c.target.extension;
      complement = c.complement;
      clocked = c.clocked;
      block = c.block;
      dontcare = c.dontcare;
      gives = view_gives c.what;
      holds = formula_at fs c.when;
    }

-- all contributions, over their own arena
abbrev pub given : Contributions → List (meant.Contribution Formula)
given out = map (view_contribution (arena out.exprs)) out.list

-- a guard over the formulas of an arena
abbrev pub view_guard : List Formula → Guard → meant.Guard Formula
view_guard fs g = record { holds = formula_at fs g.when; dontcare = g.dontcare; block = g.block }
