-- The verdict on the tokens of a source: the only tree, and the exact places of Syntax and TooDeep.
use Rattle.std.proofs.Common.{◌≡◌, ◌-◌, Bool, false, List, [], ◌∷◌, ◌++◌, length, Ok, Err}
use Rattle.abel_grammar.proofs.Common.{Stop, Syntax, TooDeep, left_of, Spells, SyntaxAt, TooDeepAt, Token, ModuleTree, Module, among, source, read_source}
use Rattle.abel_grammar.proofs.VerdictLaws.{tree_spelled, tree_only, stopped, left_over, too_deep_at}
use Rattle.abel_grammar.proofs.ModuleLaws.{source_laws, behind_end}

abbrev first : Token → Bool
first x = among (Module ∷ []) x

abbrev behind : ModuleTree → Token → Bool
behind t x = among behind_end x

pub is_tree : (ts : List Token) (t : ModuleTree) → read_source 64 ts ≡ Ok (t, []) → Spells source ts t
is_tree ts t e = tree_spelled source read_source first behind false source_laws 64 ts t e

pub is_only_tree : (ts : List Token) (t : ModuleTree) → read_source 64 ts ≡ Ok (t, []) → (u : ModuleTree) → Spells source ts u → u ≡ t
is_only_tree ts t e = tree_only source read_source first behind false source_laws 64 ts t e

pub is_stopped : (ts left : List Token) → read_source 64 ts ≡ Err (Syntax left) → SyntaxAt source 64 ts (length ts - length left)
is_stopped ts left e = stopped source read_source first behind false source_laws 64 ts left e

pub is_left_over : (ts : List Token) (t : ModuleTree) (x : Token) (rest : List Token) → read_source 64 ts ≡ Ok (t, x ∷ rest) → SyntaxAt source 64 ts (length ts - length (x ∷ rest))
is_left_over ts t x rest e = left_over source read_source first behind false source_laws 64 ts t x rest e

pub is_too_deep : (ts left : List Token) → read_source 64 ts ≡ Err (TooDeep left) → TooDeepAt source 64 ts (length ts - length left)
is_too_deep ts left e = too_deep_at source read_source first behind false source_laws 64 ts left e

-- the tokens that are left where reading stopped are those at the end
pub is_end : (ts : List Token) (s : Stop Token) → read_source 64 ts ≡ Err s → (c : List Token) × (ts ≡ c ++ left_of s)
is_end ts s e = let p = (source_laws 64).front ts s e in (p.0, p.1)

pub is_rest : (ts : List Token) (x : ModuleTree × List Token) → read_source 64 ts ≡ Ok x → (c : List Token) × (ts ≡ c ++ x.1)
is_rest ts x e = let p = (source_laws 64).place ts x.0 x.1 ((source_laws 64).sound ts x e) in (p.0, p.1)
