-- The guard of a state, with its nodes: the literals of registers, one after another (ABEL-HDL Reference Manual, state
-- diagrams).
use Rattle.std.specs.Prelude.{ℕ, true, List, length, Result, Bool, None, [], ◌∷◌, IfOk}
use Rattle.state_diagrams.specs.Prelude.{Names, Place, Table, ExprId, Node, Made, ◌>>=◌, Formula, Const, register_literals, make_literal, Context, digits, SectionFault, context_for, arena, make_source, Aim, BuildsNodes, IsBit, part}
use Rattle.state_diagrams.specs.DiagramUnits.{signals_of}
use Rattle.abel_meaning.specs.Sources.{source_of}

-- a bit is made as a part of the unit at a place
abbrev pub MakesBit : Place → Made Formula → (old new : List Node) → Result ExprId SectionFault → Type 0
MakesBit p m old new r = BuildsNodes (part p m.nodes ∷ []) old new r × IfOk r (λ id. IsBit (arena new) id m.what)

-- what the bare name of a signal reads
abbrev pub bare_read : Context → (signal : ℕ) → Made Formula
bare_read d s = make_source (source_of d s None)

-- the literal of one register, after what was found
abbrev pub register_literal : Context → (found : Formula) → (signal : ℕ) → (digit : Bool) → Made Formula
register_literal d found s b = bare_read d s >>= λ f. make_literal found b f

-- the bare name of each register reads its digit of the number, from the left
abbrev pub number_guard : Context → (registers : List ℕ) → (number : ℕ) → Made Formula
number_guard d ss n = register_literals d (Const true) ss (digits (length ss) n)

-- the bit of that over registers is made as a part of the unit at a place
abbrev pub MakesGuard : Table → Names → List Aim → (number : ℕ) → Place → (old new : List Node) → Result ExprId SectionFault → Type 0
MakesGuard t n xs number p old new r = MakesBit p (number_guard (context_for t n) (signals_of xs) number) old new r
