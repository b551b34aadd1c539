-- Private: a stack of values in the arena, and what is left to build (this project's rule).
use Rattle.std.specs.Prelude.{◌≡◌, ℕ, Option, None, Some, List, [], ◌∷◌, map, reverse, slice_get, take}
use Rattle.expr_bits.specs.Prelude.{Vec, Formula, Extension, Entry, members_of, view, view_member, Context, Term, Terms, known_of, term_of, terms_of, term_meant, extended_if}
use Rattle.abel_meaning.specs.Terms as term
use Rattle.expr_bits.specs.declared.forms.Bits.{Bits}
use Rattle.expr_bits.specs.Parts.{Part, IsPart}
use Rattle.expr_bits.specs.declared.work.Work.{Work}
use Rattle.expr_bits.specs.declared.work.Work.TheVariants as work
use Rattle.expr_bits.specs.Steps.{Task, Push, Do, after_task, after_all}

-- each of the bits is that of a value
abbrev pub AreParts : List Formula → List Bits → List Part → Type 0
AreParts fs [] [] = Unit {0}
AreParts fs (b ∷ bs) (p ∷ ps) = IsPart fs b p × AreParts fs bs ps
AreParts fs _ _ = ⊥

-- a stack of bits, the last of them on top
abbrev pub AreStacked : List Formula → List Bits → List Part → Type 0
AreStacked fs bs ps = AreParts fs (reverse bs) ps

abbrev pub ShowsStack : List Formula → Vec Bits → List Part → Type 0
ShowsStack fs bs ps = AreStacked fs bs.items ps

-- they are those of some values
pub record Standing (fs : List Formula) (bs : List Bits) : Type 0 where
  pub parts : List Part
  pub are : AreStacked fs bs parts

-- what the name of a number represents over those before it, a number if there isn't one
abbrev pub here_term : List Entry → ℕ → Option Entry → Term
here_term es k None = term.Number 0
here_term es k (Some x) = term_meant (known_of (take k es)) k x.kind

-- and with an extension at its signals
abbrev pub named_term : List Entry → ℕ → Option Extension → Term
named_term es k e = extended_if e (here_term es k (slice_get es k))

-- what work over these names is
abbrev pub task_of : List Entry → Work → Task
task_of es (work.Whole expr o) = Push (extended_if o.extension (term_of (known_of (take o.count es)) (view expr.now)))
task_of es (work.Members ms o) =
    Push (extended_if o.extension (term.Set (terms_of (known_of (take o.count es)) (members_of (map view_member ms.now)))))
task_of es (work.Named k e) = Push (named_term es k e)
task_of es (work.Do s) = Do s

-- a stack of work, the last on top
abbrev pub tasks_of : List Entry → List Work → List Task
tasks_of es ws = map (task_of es) (reverse ws)

-- ---- work that amounts to a term

abbrev pub ComesTo : List Entry → Work → Term → Type 0
ComesTo es w t = (d : Context) (ps : List Part) → after_task d (task_of es w) ps ≡ after_task d (Push t) ps

-- with the new work in place of the old a set has more members before its own
abbrev pub Precedes : List Entry → Option Extension → (new old : List Work) → (ts us : Terms) → Type 0
Precedes es e new old ts us =
    (d : Context) (ps : List Part)
    → after_all d (Push (extended_if e (term.Set ts)) ∷ tasks_of es new) ps ≡ after_all d (Push (extended_if e (term.Set us)) ∷ tasks_of es old) ps
