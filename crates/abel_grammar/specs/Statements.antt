-- Statements (ABEL-HDL Reference Manual, equations and WHEN).
use Rattle.std.specs.Prelude.{ℕ, zero, suc, Bool, true, false, ◌||◌, List, [], ◌∷◌, Option, None, option_map}
use Rattle.abel_grammar.specs.Prelude.{Token, Tree, Statement, AnAssign, AWhen, AGroup, ADontCare, statements_of, Otherwise, NoElse, AnElse, otherwise_of}
use Rattle.abel_grammar.specs.Form.{Form, token, ◌then◌, followed, either, optional, repeated, made, nothing}
use Rattle.abel_grammar.specs.Further.{placed, unless}
use Rattle.abel_tree.specs.declared.words.Sign.{Sign}
use Rattle.abel_tree.specs.declared.words.Sign.TheVariants as sign
use Rattle.abel_grammar.specs.declared.terminal.Terminal.{Terminal}
use Rattle.abel_grammar.specs.declared.terminal.Terminal.TheVariants as terminal
use Rattle.abel_grammar.specs.Terminals.{among, terminal_of}
use Rattle.abel_grammar.specs.Words.{one, end, dont_care}
use Rattle.abel_grammar.specs.Expressions.{name_tree, expr, set_at}

-- asg = '=' | ':=' | '?=' | '?:='
abbrev pub assigns : List Terminal
assigns = terminal.Equal ∷ terminal.Clocked ∷ terminal.Any ∷ terminal.ClockedAny ∷ []

abbrev pub sign_of_terminal : Terminal → Sign
sign_of_terminal terminal.Clocked = sign.Clocked
sign_of_terminal terminal.Any = sign.Any
sign_of_terminal terminal.ClockedAny = sign.ClockedAny
sign_of_terminal _ = sign.Equal

-- target = [!] (id [ext] | set [ext])        a `!` is a nesting
abbrev pub bare_target : ℕ → Form Token Tree
bare_target n = either name_tree (set_at n)

abbrev pub plain_of : Tree → Bool × Tree
plain_of t = (false, t)

abbrev pub complemented_of : Token × Tree → Bool × Tree
complemented_of x = (true, x.1)

unfoldable pub complemented_at : ℕ → Form Token (Bool × Tree)
complemented_at zero = nothing
complemented_at (suc n) = made complemented_of (one terminal.Not then bare_target n)

unfoldable pub target : ℕ → Form Token (Bool × Tree)
target n = either (complemented_at n) (made plain_of (bare_target n))

-- target asg expr ;
abbrev pub assign_of : Token × ((Bool × Tree) × (Token × (Tree × Token))) → Statement
assign_of x = AnAssign x.0.place x.1.0.0 x.1.0.1 (sign_of_terminal (terminal_of x.1.1.0)) x.1.1.0.place x.1.1.1.0

unfoldable pub assign : ℕ → Form Token Statement
assign n = made assign_of (placed (target n then token (among assigns) then expr n then one terminal.Semicolon))

unfoldable pub dont_care_stmt : Form Token Statement
dont_care_stmt = made ADontCare dont_care

-- Whether an ELSE after the statement would belong to a WHEN in it. (No statement that is spelled has an
-- open one before its own ELSE.)
abbrev mutual
  pub is_open : Statement → Bool
  is_open (AnAssign p c t s q v) = false
  is_open (AWhen p c s e) = is_open_else e (is_open s)
  is_open (AGroup l) = false
  is_open (ADontCare d) = false

  pub is_open_else : Otherwise → Bool → Bool
  is_open_else NoElse b = true
  is_open_else (AnElse s) b = b || is_open s

-- when = WHEN expr THEN stmt [ELSE stmt], if an ELSE belongs to the nearest WHEN that has none
abbrev pub when_of : Token × (Tree × (Token × (Statement × Option (Token × Statement)))) → Statement
when_of x = AWhen x.0.place x.1.0 x.1.1.1.0 (otherwise_of (option_map (λ e. e.1) x.1.1.1.1))

unfoldable pub when : Form Token Tree → Form Token Statement → Form Token Statement
when e stmt =
    made when_of
    (one terminal.When then e then one terminal.Then
    then followed stmt (λ s. unless (is_open s) None (optional (one terminal.Else then stmt))))

-- { {stmt} } [;]
abbrev pub group_of : Token × (List Statement × (Token × Option Token)) → Statement
group_of x = AGroup (statements_of x.1.0)

unfoldable pub group : Form Token Statement → Form Token Statement
group stmt = made group_of (one terminal.BraceOpen then repeated stmt then one terminal.BraceClose then end)

-- stmt = target asg expr ; | when | { {stmt} } [;] | dc
unfoldable pub stmt : ℕ → Form Token Statement
stmt zero = either (either (assign zero) (either dont_care_stmt nothing)) nothing
stmt (suc n) =
    either (either (assign (suc n)) (either dont_care_stmt (when (expr n) (stmt n)))) (group (stmt n))

-- a statement that is no group
unfoldable pub plain_stmt : ℕ → Form Token Statement
plain_stmt zero = either (assign zero) (either dont_care_stmt nothing)
plain_stmt (suc n) = either (assign (suc n)) (either dont_care_stmt (when (expr n) (stmt n)))
