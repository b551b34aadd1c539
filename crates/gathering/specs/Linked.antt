-- The signals of nodes and cells, as others read them (this project's rule).
use Rattle.std.specs.Prelude.{◌≡◌, ℕ, suc, Bool, true, false, ◌&&◌, ◌||◌, is_some, List, [], ◌∷◌}
use Rattle.gathering.specs.Prelude.{Table, Formula, AreReads, Kind, ANode, Entry, is_stored, Context, leaf_by, settles, signal_names, cell_of}
use Rattle.abel_meaning.specs.Contributions.{Contribution}
use Rattle.gathering.specs.declared.link.Link.{Link}

-- the name is a node
abbrev pub is_node_kind : Kind → Bool
is_node_kind (ANode n) = true
is_node_kind _ = false

-- the name is a node or assigned on a cell
abbrev pub is_linked : Table → Entry → Bool
is_linked t x = is_node_kind x.kind || is_some (cell_of t x)

-- the signal as others read it: by its leaf; it reads what its function and its enable name, and nothing if it is a
-- register
pub record IsLinkOf (d : Context) (cs : List (Contribution Formula)) (s : ℕ) (x : Entry) (link : Link) : Type 0 where
  pub leaf : link.leaf ≡ leaf_by d x x.kind
  pub reads : AreReads (λ l. settles x && signal_names d cs s l) link.reads
  pub stored : link.stored ≡ is_stored x

-- the first of each list are the signal's number and link, the others those of further names
abbrev pub StartsWith : (Link → Type 0) → (List ℕ → List Link → Type 0) → ℕ → List ℕ → List Link → Type 0
StartsWith first others s (n ∷ ns) (l ∷ ls) = (n ≡ s) × first l × others ns ls
StartsWith first others s _ _ = ⊥

-- that, if the name is linked
abbrev pub StartsIf : (linked : Bool) → (Link → Type 0) → (List ℕ → List Link → Type 0) → ℕ → List ℕ → List Link → Type 0
StartsIf true first others s ns ls = StartsWith first others s ns ls
StartsIf false first others s ns ls = others ns ls

-- numbers and links of all names that are linked, in order of declaration; the first name has this number
abbrev pub AreLinksFrom : Context → List (Contribution Formula) → ℕ → List Entry → List ℕ → List Link → Type 0
AreLinksFrom d cs s [] ns ls = (ns ≡ []) × (ls ≡ [])
AreLinksFrom d cs s (x ∷ xs) ns ls = StartsIf (is_linked d.device x) (IsLinkOf d cs s x) (AreLinksFrom d cs (suc s) xs) s ns ls

-- those of a design
abbrev pub AreLinks : Context → List (Contribution Formula) → List ℕ → List Link → Type 0
AreLinks d cs ns ls = AreLinksFrom d cs 0 d.names ns ls
