-- The places in a tree, in the order of the source (ABEL-HDL Reference Manual, source file structure).
use Rattle.std.specs.Prelude.{List, [], ◌∷◌, ◌++◌, Option, Some, None}
use Rattle.abel_grammar.specs.Prelude.{flat_map, Place, Word, Number, Item, Span, DontCare, Tree, ANumber, ASpecial, AName, ASet, AParen, AUnary, ABinary, SetMember, OneMember, SpanMember, Members, NoMember, MoreMembers, Statement, AnAssign, AWhen, AGroup, ADontCare, Otherwise, NoElse, AnElse, Statements, NoStatement, MoreStatements, Branch, AGoal, AnIf, ACase, OtherBranch, NoBranch, ABranch, Choices, NoChoice, MoreChoices, Declaration, ADevice, SomePins, SomeNodes, SomeAttributes, SomeConstants, SomeOptions, DontCareFor, RowTree, StateTree, SectionTree, Declarations, Equations, ATable, ADiagram, SomeVectors, DontCareSection, ModuleTree}

-- ---- words and lists of them

abbrev pub places_of_word : Word → List Place
places_of_word w = w.place ∷ []

abbrev pub places_of_number : Number → List Place
places_of_number n = n.place ∷ []

abbrev pub places_of_dont_care : DontCare → List Place
places_of_dont_care d = d.place ∷ []

-- of what may be missing
abbrev pub places_of_some : {A : Type 0} → (A → List Place) → Option A → List Place
places_of_some of None = []
places_of_some of (Some x) = of x

abbrev pub places_of_item : Item → List Place
places_of_item i = i.first.place ∷ places_of_some places_of_word i.last

abbrev pub places_of_span : Span → List Place
places_of_span s = s.first.place ∷ places_of_some places_of_number s.last

-- ---- expressions: an operator is between its sides

abbrev mutual
  pub places_of_expr : Tree → List Place
  places_of_expr (ANumber n) = n.place ∷ []
  places_of_expr (ASpecial letter p) = p ∷ []
  places_of_expr (AName w e) = w.place ∷ []
  places_of_expr (ASet p ms e) = p ∷ places_of_members ms
  places_of_expr (AParen p t) = p ∷ places_of_expr t
  places_of_expr (AUnary s p t) = p ∷ places_of_expr t
  places_of_expr (ABinary s p l r) = places_of_expr l ++ (p ∷ places_of_expr r)

  pub places_of_member : SetMember → List Place
  places_of_member (OneMember t) = places_of_expr t
  places_of_member (SpanMember a b) = a.place ∷ b.place ∷ []

  pub places_of_members : Members → List Place
  places_of_members NoMember = []
  places_of_members (MoreMembers m ms) = places_of_member m ++ places_of_members ms

-- ---- statements

abbrev mutual
  pub places_of_stmt : Statement → List Place
  places_of_stmt (AnAssign p c t s q v) = p ∷ (places_of_expr t ++ (q ∷ places_of_expr v))
  places_of_stmt (AWhen p c s e) = p ∷ (places_of_expr c ++ (places_of_stmt s ++ places_of_else e))
  places_of_stmt (AGroup ss) = places_of_stmts ss
  places_of_stmt (ADontCare d) = d.place ∷ []

  pub places_of_else : Otherwise → List Place
  places_of_else NoElse = []
  places_of_else (AnElse s) = places_of_stmt s

  pub places_of_stmts : Statements → List Place
  places_of_stmts NoStatement = []
  places_of_stmts (MoreStatements s ss) = places_of_stmt s ++ places_of_stmts ss

-- ---- transitions

abbrev mutual
  pub places_of_branch : Branch → List Place
  places_of_branch (AGoal p v w) = p ∷ (places_of_expr v ++ places_of_some (flat_map places_of_stmt) w)
  places_of_branch (AnIf p c b o) = p ∷ (places_of_expr c ++ (places_of_branch b ++ places_of_other o))
  places_of_branch (ACase p cs) = p ∷ places_of_choices cs

  pub places_of_other : OtherBranch → List Place
  places_of_other NoBranch = []
  places_of_other (ABranch b) = places_of_branch b

  pub places_of_choices : Choices → List Place
  places_of_choices NoChoice = []
  places_of_choices (MoreChoices c colon b cs) =
      places_of_expr c ++ (colon ∷ (places_of_branch b ++ places_of_choices cs))

-- ---- declarations, rows and states

abbrev pub places_of_decl : Declaration → List Place
places_of_decl (ADevice name text) = name.place ∷ text.place ∷ []
places_of_decl (SomePins is ns ws) =
    flat_map places_of_item is ++ (flat_map places_of_span ns ++ flat_map places_of_word ws)
places_of_decl (SomeNodes is ns ws) =
    flat_map places_of_item is ++ (flat_map places_of_span ns ++ flat_map places_of_word ws)
places_of_decl (SomeAttributes is ws) = flat_map places_of_item is ++ flat_map places_of_word ws
places_of_decl (SomeConstants ws es) = flat_map places_of_word ws ++ flat_map places_of_expr es
places_of_decl (SomeOptions ws) = flat_map places_of_word ws
places_of_decl (DontCareFor d) = d.place ∷ []

abbrev pub places_of_row : RowTree → List Place
places_of_row r = r.place ∷ (places_of_expr r.inputs ++ places_of_expr r.outputs)

abbrev pub places_of_state : StateTree → List Place
places_of_state s =
    s.place ∷ (places_of_expr s.value
    ++ (flat_map places_of_stmt s.statements ++ flat_map places_of_branch s.transitions))

-- ---- sections and the module

abbrev pub places_of_section : SectionTree → List Place
places_of_section (Declarations ds) = flat_map places_of_decl ds
places_of_section (Equations ss) = flat_map places_of_stmt ss
places_of_section (ATable p i c o rows) =
    p ∷ (places_of_expr i ++ (places_of_expr o ++ flat_map places_of_row rows))
places_of_section (ADiagram p r states) = p ∷ (places_of_expr r ++ flat_map places_of_state states)
places_of_section (SomeVectors note p i o rows) =
    places_of_some places_of_word note
    ++ (p ∷ (places_of_expr i ++ (places_of_expr o ++ flat_map places_of_row rows)))
places_of_section (DontCareSection d) = d.place ∷ []

abbrev pub places_of_module : ModuleTree → List Place
places_of_module m =
    m.place ∷ (m.name.place ∷ (places_of_some places_of_word m.title
    ++ (flat_map places_of_word m.options
    ++ (flat_map places_of_decl m.decls ++ flat_map places_of_section m.sections))))
