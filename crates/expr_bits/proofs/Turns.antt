-- A stack of values while the arena grows, and the walk over it turn by turn: what was built, and what is left amounts to
-- the whole.
use Rattle.std.proofs.Common.{◌≡◌, ℕ, ◌-◌, List, [], ◌∷◌, ◌++◌, length, reverse, refl, sym, ap, ◌∙◌, subst, take, append-nil, arith, ◌+◌, map, Ok, Err}
use Rattle.expr_bits.proofs.Common.{reverse-append, Vec, Node, arena, Grew, Made, Formula, Context, Set, Term, IsMade, Bits, Form, Part, IsPart, no_part, HasForm, AreParts, AreStacked, ShowsStack, as_set, pushed, set_by, term_part, IsKept, ExprFault, Entry, Makes, Work, task_of, tasks_of, Task, Push, Do, made_by, top, after_task, after_all}
use Rattle.expr_bits.proofs.Making.{in_kept, word_kept, Going, going_start, going_on, going_stop, going_done, stopped}
use Rattle.expr_bits.specs.declared.forms.Form.TheVariants as form
use Rattle.expr_bits.specs.declared.work.Step.{Step}

pub part_kept : (old new : List Formula) (n : ℕ) (b : Bits) (p : Part) → Grew old new n → IsPart old b p → IsPart new b p
part_kept old new n b p g is =
    record {
      form = is.form;
      unknown = is.unknown;
      positions = is.positions;
      word = (in_kept old new n b.word g is.word.0, word_kept old new n b.word g is.word.0 ∙ is.word.1);
    }

pub parts_kept : (old new : List Formula) (n : ℕ) (bs : List Bits) (ps : List Part) → Grew old new n → AreParts old bs ps → AreParts new bs ps
parts_kept old new n [] [] g a = tt
parts_kept old new n (b ∷ bs) (p ∷ ps) g a = (part_kept old new n b p g a.0, parts_kept old new n bs ps g a.1)
parts_kept old new n _ _ g a = absurd a

none_parts : (fs : List Formula) (ps : List Part) → AreParts fs [] ps → ps ≡ []
none_parts fs [] a = refl
none_parts fs (p ∷ ps) a = absurd a

pub stack_none : (fs : List Formula) (old : List Bits) (ps : List Part) → old ≡ [] → AreStacked fs old ps → ps ≡ []
stack_none fs old ps e a = none_parts fs ps (subst (λ xs. AreParts fs xs ps) (ap reverse e) a)

-- ---- sets

pub set_kept : (fs : List Formula) (b : Bits) (p : Part) → b.form ≡ form.Set → IsPart fs b p → IsPart fs b (as_set p)
set_kept fs b p e is =
    let set : p.value.shape ≡ Set (length b.word) = subst (λ f. HasForm f p.value (length b.word)) e is.form in
    subst (λ s. IsPart fs b (set_by s p)) (sym set) is

no_set : (f : Form) (k : ℕ) (p : Part) → (f ≡ form.Set → ⊥) → HasForm f p.value k → set_by p.value.shape p ≡ no_part
no_set (form.Number n) k p h is = ap (λ s. set_by s p) is.0.0
no_set form.Single k p h is = ap (λ s. set_by s p) is.0
no_set form.Set k p h is = absurd (h refl)

pub set_empty : (fs : List Formula) (b empty : Bits) (p : Part) → (b.form ≡ form.Set → ⊥) → IsPart fs b p → IsPart fs empty no_part → IsPart fs empty (as_set p)
set_empty fs b empty p h is none = subst (IsPart fs empty) (sym (no_set b.form (length b.word) p h is.form)) none

-- ---- one more, on top

stacked_more : (fs : List Formula) (bs new : List Bits) (b : Bits) (ps : List Part) (p : Part) → new ≡ bs ++ b ∷ [] → AreStacked fs bs ps → IsPart fs b p → AreStacked fs new (p ∷ ps)
stacked_more fs bs new b ps p e are is = subst (λ xs. AreParts fs xs (p ∷ ps)) (sym (ap reverse e ∙ reverse-append bs (b ∷ []))) (is, are)

-- something made
pub put_made : (old new : List Node) (b : Bits) (bs : List Bits) (vs : Vec Bits) (m : Made Part) (ps : List Part) → vs.items ≡ bs ++ b ∷ [] → IsMade IsPart (arena old) (arena new) b m → AreStacked (arena old) bs ps → IsMade ShowsStack (arena old) (arena new) vs (pushed m ps)
put_made old new b bs vs m ps e made are =
    record {
      shows = stacked_more (arena new) bs vs.items b ps m.what e (parts_kept (arena old) (arena new) m.nodes (reverse bs) ps made.grew are) made.shows;
      grew = made.grew;
      within = made.within;
    }

-- a copy of bits that are kept, which makes no node
pub put_kept : (d : Context) (ns : List Node) (kept copy : Bits) (bs : List Bits) (vs : Vec Bits) (t : Term) (ps : List Part) → vs.items ≡ bs ++ copy ∷ [] → IsKept d kept t → ((fs : List Formula) (p : Part) → IsPart fs kept p → IsPart fs copy p) → AreStacked (arena ns) bs ps
    → IsMade ShowsStack (arena ns) (arena ns) vs (pushed (term_part d t) ps)
put_kept d ns kept copy bs vs t ps e is same are =
    record {
      shows = stacked_more (arena ns) bs vs.items copy ps (term_part d t).what e are (same (arena ns) (term_part d t).what (is.shows ns));
      grew = record { keeps = λ i f h. h; count = omega (arith, is.free) };
      within = λ p. omega (arith, p.0, is.free);
    }

pub none_left : {X : Type 0} (old new : List X) (len : ℕ) → old ≡ new ++ [] → new ≡ take (len - 1) old → len ≡ 0 → old ≡ []
none_left old new len e r z = e ∙ append-nil new ∙ r ∙ ap (λ n. take (n - 1) old) z

pub tasks_last : (es : List Entry) (ws : List Work) (w : Work) → tasks_of es (ws ++ w ∷ []) ≡ task_of es w ∷ tasks_of es ws
tasks_last es ws w = ap (map (task_of es)) (reverse-append ws (w ∷ []))

-- the values so far, and these tasks
abbrev pub Walking : Context → (old now : List Node) → Vec Bits → List Task → (whole : Task) → Type 0
Walking d old now vs ts x = Going ShowsStack old now vs (after_all d ts) (after_task d x [])

pub walking_start : (d : Context) (old : List Node) (vs : Vec Bits) (x : Task) → vs.items ≡ [] → Walking d old old vs (x ∷ []) x
walking_start d old vs x e =
    going_start ShowsStack old vs (after_all d (x ∷ [])) (after_task d x []) []
    (subst (λ bs. AreStacked (arena old) bs []) (sym e) tt) refl (omega arith)

-- what is left as other tasks that amount to the same
pub walking_as : (d : Context) (old now : List Node) (vs : Vec Bits) (ts us : List Task) (x : Task) → ((ps : List Part) → after_all d us ps ≡ after_all d ts ps) → Walking d old now vs ts x → Walking d old now vs us x
walking_as d old now vs ts us x same g =
    let here = sym (same g.part.what) in
    record {
      part = g.part;
      is = g.is;
      what = g.what ∙ ap (λ (m : Made (List Part)). m.what) here;
      total = g.total ∙ ap (λ (m : Made (List Part)). g.part.nodes + m.nodes) here;
    }

-- the first task is done
pub walking_turn : (d : Context) (old now new : List Node) (vs ws : Vec Bits) (k : Task) (ts : List Task) (x : Task) → (g : Walking d old now vs (k ∷ ts) x) → IsMade ShowsStack (arena now) (arena new) ws (after_task d k g.part.what) → Walking d old new ws ts x
walking_turn d old now new vs ws k ts x g m =
    going_on ShowsStack ShowsStack ShowsStack old now new vs ws ws (after_all d (k ∷ ts)) (after_task d x []) (after_task d k g.part.what) (after_all d ts) (after_task d k g.part.what).what g m m.shows refl refl

-- a step is refused
pub walking_stops : (d : Context) (old now new : List Node) (vs : Vec Bits) (e : ExprFault) (s : Step) (ts : List Task) (t : Term) → (g : Walking d old now vs (Do s ∷ ts) (Push t)) → Makes {R = Bits} IsPart now new (Err e) (made_by d s g.part.what) → Makes {R = Bits} IsPart old new (Err e) (term_part d t)
walking_stops d old now new vs e s ts t g m =
    stopped ShowsStack IsPart old new e (pushed (term_part d t) []) (term_part d t)
    (going_stop ShowsStack IsPart ShowsStack old now new vs e (after_all d (Do s ∷ ts)) (pushed (term_part d t) []) (made_by d s g.part.what) g m (omega arith)) (omega arith)

-- the end
abbrev ShowsTop : List Formula → Bits → List Part → Type 0
ShowsTop fs b ps = IsPart fs b (top ps)

pub walking_done : (d : Context) (old now : List Node) (vs : Vec Bits) (b : Bits) (ts : List Task) (t : Term) → ts ≡ [] → (g : Walking d old now vs ts (Push t)) → IsPart (arena now) b (top g.part.what) → Makes IsPart old now (Ok b) (term_part d t)
walking_done d old now vs b ts t e g is =
    let whole : IsMade ShowsTop (arena old) (arena now) b (pushed (term_part d t) []) =
    going_done ShowsStack ShowsTop old now vs b (after_all d ts) (pushed (term_part d t) []) g (ap (λ us. (after_all d us g.part.what).nodes) e)
    (subst (λ us. IsPart (arena now) b (top (after_all d us g.part.what).what)) (sym e) is) in
    record { shows = whole.shows; grew = whole.grew; within = whole.within }
