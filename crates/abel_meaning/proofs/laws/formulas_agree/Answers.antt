use Rattle.abel_meaning.proofs.FormulasFollow.{word_follows, formulas_have_values}
use Rattle.abel_meaning.proofs.FunctionValues.{formula_function, formula_control}
use Rattle.abel_meaning.proofs.JoinedSets.{values_agree}
use Rattle.abel_meaning.proofs.laws.formulas_agree.Goals as goal

pub returns : goal.returns
returns c = record { expressions = word_follows; contributions = formulas_have_values; functions = formula_function; values = values_agree; controls = formula_control }
