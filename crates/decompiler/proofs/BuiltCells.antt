-- Cells and nodes over an arena, of ids that hold their formulas.
use Rattle.std.proofs.Common.{◌≡◌, ℕ, zero, suc, false, List, [], ◌∷◌, ◌++◌, length, map, Option, Some, None, refl, sym, ap, ◌∙◌, arith, flat_map, unwrap_or}
use Rattle.decompiler.proofs.Common.{All, AllByRecursion, Place, CellWanted, Control, ExprId, formula_at, Formula, Const, Extension, Function, Wanted, plain_control, plain_function, plain_wanted, IsCellIn, IsControlIn, IsFunctionIn, IsIn, IsControlPlaced, IsPlaced, Contribution, first_data, first_target, target_place}
use Rattle.bit_expr.specs.declared.netlist.Function.{Function as IdFunction}
use Rattle.abel_tree.specs.declared.words.Extension.TheVariants as extension
use Rattle.decompiler.proofs.ControlTargets.{AreTargeted, IsTargeted}

-- what holds of each in turn holds at each place
pub each_place : {X : Type 0} (P : X → Type 0) (xs : List X) → AllByRecursion P xs → All P xs
each_place P [] each k d within = absurd (omega (arith, within))
each_place P (x ∷ xs) each zero d within = each.0
each_place P (x ∷ xs) each (suc k) d within = each_place P xs each.1 k d (omega (arith, within))

-- ---- the formulas of nodes and cells, in order

abbrev or_zero : Option Formula → Formula
or_zero o = unwrap_or o (Const false)

abbrev pub node_formulas : Function Formula → List Formula
node_formulas f = f.one ∷ f.any ∷ []

abbrev pub cell_formulas : Wanted → List Formula
cell_formulas w = w.function.one ∷ w.function.any ∷ or_zero w.enable ∷ or_zero w.reset ∷ or_zero w.preset ∷ []

module _ (fs : List Formula) where
  -- ids in the arena that hold these formulas
  pub record Hold (ids : List ExprId) (xs : List Formula) : Type 0 where
    pub are : map (formula_at fs) ids ≡ xs
    pub inside : AllByRecursion (IsIn (length fs)) ids

  -- the first of them, and the rest
  pub record HoldsFirst (x : Formula) (xs : List Formula) : Type 0 where
    pub id : ExprId
    pub is : formula_at fs id ≡ x
    pub inside : IsIn (length fs) id
    pub ids : List ExprId
    pub rest : Hold ids xs

  first_held : (ids : List ExprId) (x : Formula) (xs : List Formula) → Hold ids (x ∷ xs) → HoldsFirst x xs
  first_held [] x xs h = absurd (none h.are)
    where
      none : [] ≡ x ∷ xs → ⊥
      none e = cc
  first_held (i ∷ ids) x xs h =
      record { id = i; is = head h.are; inside = h.inside.0; ids = ids; rest = record { are = tail h.are; inside = h.inside.1 } }
    where
      head : formula_at fs i ∷ map (formula_at fs) ids ≡ x ∷ xs → formula_at fs i ≡ x
      head e = cc

      tail : formula_at fs i ∷ map (formula_at fs) ids ≡ x ∷ xs → map (formula_at fs) ids ≡ xs
      tail e = cc

  -- ---- nodes

  -- the function over the arena, and ids that hold the rest
  pub record HoldsNode (f : Function Formula) (xs : List Formula) : Type 0 where
    pub function : IdFunction
    pub is : plain_function fs function ≡ f
    pub inside : IsFunctionIn (length fs) function
    pub ids : List ExprId
    pub rest : Hold ids xs

  node_held : (f : Function Formula) (ids : List ExprId) (xs : List Formula) → Hold ids (node_formulas f ++ xs) → HoldsNode f xs
  node_held f ids xs h =
      let a = first_held ids f.one (f.any ∷ xs) h in
      let b = first_held a.ids f.any xs a.rest in
      record {
        function = record { one = a.id; any = b.id; complement = f.complement };
        is = ap (λ (g : Formula). record f { one = g; any = formula_at fs b.id }) a.is ∙ ap (λ (g : Formula). record f { any = g }) b.is;
        inside = (a.inside, b.inside);
        ids = b.ids;
        rest = b.rest;
      }

  pub record HoldsNodes (ns : List (Function Formula)) (xs : List Formula) : Type 0 where
    pub nodes : List IdFunction
    pub are : map (plain_function fs) nodes ≡ ns
    pub inside : AllByRecursion (IsFunctionIn (length fs)) nodes
    pub ids : List ExprId
    pub rest : Hold ids xs

  pub nodes_held : (ns : List (Function Formula)) (ids : List ExprId) (xs : List Formula) → Hold ids (flat_map node_formulas ns ++ xs) → HoldsNodes ns xs
  nodes_held [] ids xs h = record { nodes = []; are = refl; inside = tt; ids = ids; rest = h }
  nodes_held (f ∷ ns) ids xs h =
      let one = node_held f ids (flat_map node_formulas ns ++ xs) h in
      let more = nodes_held ns one.ids xs one.rest in
      record {
        nodes = one.function ∷ more.nodes;
        are = ap (λ (g : Function Formula). g ∷ map (plain_function fs) more.nodes) one.is ∙ ap (λ (gs : List (Function Formula)). f ∷ gs) more.are;
        inside = (one.inside, more.inside);
        ids = more.ids;
        rest = more.rest;
      }

  -- ---- cells

  module _ (cs : List Contribution) where
    abbrev no_place : Place
    no_place = record { line = 0; column = 0 }

    abbrev place_or : Option Place → Place
    place_or o = unwrap_or o no_place

    -- a control that may be there, at its first target
    abbrev control_at : ℕ → Extension → Option Formula → ExprId → Option Control
    control_at s e None i = None
    control_at s e (Some f) i = Some (record { bit = i; place = place_or (target_place (first_target s e cs)) })

    control_is : (s : ℕ) (e : Extension) (o : Option Formula) (i : ExprId) → formula_at fs i ≡ or_zero o → plain_control fs (control_at s e o i) ≡ o
    control_is s e None i is = refl
    control_is s e (Some f) i is = ap (λ (g : Formula). Some g) is

    control_in : (s : ℕ) (e : Extension) (o : Option Formula) (i : ExprId) → IsIn (length fs) i → IsControlIn (length fs) (control_at s e o i)
    control_in s e None i inside = tt
    control_in s e (Some f) i inside = inside

    control_placed : (s : ℕ) (e : Extension) (o : Option Formula) (i : ExprId) → ((f : Formula) → o ≡ Some f → IsTargeted cs s e) → IsControlPlaced cs s e (control_at s e o i)
    control_placed s e None i there c is = absurd (none is)
      where
        none : None ≡ Some c → ⊥
        none e = cc
    control_placed s e (Some f) i there c is =
        let first = there f refl in
        first.1 ∙ ap Some (sym (ap place_or first.1) ∙ ap (λ (x : Control). x.place) (same is))
      where
        same : {a b : Control} → Some a ≡ Some b → a ≡ b
        same e = cc

    -- a cell over the arena, at its places; and ids that hold the rest
    pub record HoldsCell (w : Wanted) (xs : List Formula) : Type 0 where
      pub cell : CellWanted
      pub is : plain_wanted fs cell ≡ w
      pub inside : IsCellIn (length fs) cell
      pub placed : IsPlaced cs cell
      pub ids : List ExprId
      pub rest : Hold ids xs

    -- the cell of these ids, and that it represents the plain one
    module _ (w : Wanted) (one any enable reset preset : ExprId) where
      abbrev controlled : Extension → Option Formula → ExprId → Option Control
      controlled e o i = control_at w.name e o i

      abbrev cell_with : CellWanted
      cell_with =
          record {
            cell = w.cell;
            name = w.name;
            place = place_or (target_place (first_data w.name cs));
            registered = w.registered;
            buffer = w.buffer;
            negated = w.negated;
            raw = w.raw;
            free = w.free;
            function = record { one = one; any = any; complement = w.function.complement };
            enable = controlled extension.Oe w.enable enable;
            reset = controlled extension.Ar w.reset reset;
            preset = controlled extension.Sp w.preset preset;
          }

      abbrev as_wanted : Formula → Formula → Option Formula → Option Formula → Option Formula → Wanted
      as_wanted f g x y z = record w { function = record w.function { one = f; any = g }; enable = x; reset = y; preset = z }

      cell_is : formula_at fs one ≡ w.function.one → formula_at fs any ≡ w.function.any → formula_at fs enable ≡ or_zero w.enable
          → formula_at fs reset ≡ or_zero w.reset → formula_at fs preset ≡ or_zero w.preset → plain_wanted fs cell_with ≡ w
      cell_is a b x y z =
          five (as_wanted) a b (control_is w.name extension.Oe w.enable enable x) (control_is w.name extension.Ar w.reset reset y)
          (control_is w.name extension.Sp w.preset preset z)
        where
          five : {f f' g g' : Formula} {x x' y y' z z' : Option Formula} (make : Formula → Formula → Option Formula → Option Formula → Option Formula → Wanted)
              → f ≡ f' → g ≡ g' → x ≡ x' → y ≡ y' → z ≡ z' → make f g x y z ≡ make f' g' x' y' z'
          five make a b x y z = rw (a, b, x, y, z) refl

    cell_held : (w : Wanted) (ids : List ExprId) (xs : List Formula) → AreTargeted cs w → Hold ids (cell_formulas w ++ xs) → HoldsCell w xs
    cell_held w ids xs there h =
        let a = first_held ids w.function.one (w.function.any ∷ or_zero w.enable ∷ or_zero w.reset ∷ or_zero w.preset ∷ xs) h in
        let b = first_held a.ids w.function.any (or_zero w.enable ∷ or_zero w.reset ∷ or_zero w.preset ∷ xs) a.rest in
        let x = first_held b.ids (or_zero w.enable) (or_zero w.reset ∷ or_zero w.preset ∷ xs) b.rest in
        let y = first_held x.ids (or_zero w.reset) (or_zero w.preset ∷ xs) x.rest in
        let z = first_held y.ids (or_zero w.preset) xs y.rest in
        record {
          cell = cell_with w a.id b.id x.id y.id z.id;
          is = cell_is w a.id b.id x.id y.id z.id a.is b.is x.is y.is z.is;
          inside = record {
            function = (a.inside, b.inside);
            enable = control_in w.name extension.Oe w.enable x.id x.inside;
            reset = control_in w.name extension.Ar w.reset y.id y.inside;
            preset = control_in w.name extension.Sp w.preset z.id z.inside;
          };
          placed = record {
            place = λ p e. ap place_or e;
            enable = control_placed w.name extension.Oe w.enable x.id there.enable;
            reset = control_placed w.name extension.Ar w.reset y.id there.reset;
            preset = control_placed w.name extension.Sp w.preset z.id there.preset;
          };
          ids = z.ids;
          rest = z.rest;
        }

    pub record HoldsCells (ws : List Wanted) : Type 0 where
      pub cells : List CellWanted
      pub are : map (plain_wanted fs) cells ≡ ws
      pub inside : AllByRecursion (IsCellIn (length fs)) cells
      pub placed : AllByRecursion (IsPlaced cs) cells

    pub cells_held : (ws : List Wanted) (ids : List ExprId) → AllByRecursion (AreTargeted cs) ws → Hold ids (flat_map cell_formulas ws) → HoldsCells ws
    cells_held [] ids there h = record { cells = []; are = refl; inside = tt; placed = tt }
    cells_held (w ∷ ws) ids there h =
        let one = cell_held w ids (flat_map cell_formulas ws) there.0 h in
        let more = cells_held ws one.ids there.1 one.rest in
        record {
          cells = one.cell ∷ more.cells;
          are = ap (λ (v : Wanted). v ∷ map (plain_wanted fs) more.cells) one.is ∙ ap (λ (vs : List Wanted). w ∷ vs) more.are;
          inside = (one.inside, more.inside);
          placed = (one.placed, more.placed);
        }
