-- What is kept of a name, and of the names of a source.
use Rattle.std.proofs.Common.{◌≡◌, ℕ, ◌<◌, List, map, length, get_or, Option, None, Some, refl, ap, sym, subst, ◌∙◌}
use Rattle.design_checks.proofs.Common.{get_or-map, Extension, Names, Entry, entries_of, Table, Context, Known, known_of, IsContextOf, context_for, UseRule, AreUsesOf, NameUses, kept_by, use_under}
use Rattle.abel_tree.specs.declared.words.Extension.TheVariants as extension
use Rattle.design_checks.specs.declared.front.Positions.{Positions}

-- ---- one name

-- what is kept for an extension
pub under_is : (reads : Option Extension → Option ℕ) (p : Positions) (e : Option Extension) → use_under (kept_by reads p) e ≡ reads e
under_is reads p None = refl
under_is reads p (Some extension.Q) = refl
under_is reads p (Some extension.Fb) = refl
under_is reads p (Some extension.Pin) = refl
under_is reads p (Some extension.Clk) = refl
under_is reads p (Some extension.Oe) = refl
under_is reads p (Some extension.Ar) = refl
under_is reads p (Some extension.Sp) = refl
under_is reads p (Some extension.D) = refl

-- what is read with each extension
pub kept_is : (reads : Option Extension → Option ℕ) (bare q fb pin clk oe ar sp d : Option ℕ) (p positions : Positions)
    → bare ≡ reads None → q ≡ reads (Some extension.Q) → fb ≡ reads (Some extension.Fb) → pin ≡ reads (Some extension.Pin)
    → clk ≡ reads (Some extension.Clk) → oe ≡ reads (Some extension.Oe) → ar ≡ reads (Some extension.Ar) → sp ≡ reads (Some extension.Sp) → d ≡ reads (Some extension.D)
    → positions ≡ p
    → record { bare = bare; q = q; fb = fb; pin = pin; clk = clk; oe = oe; ar = ar; sp = sp; d = d; positions = positions } ≡ kept_by reads p
kept_is reads bare q fb pin clk oe ar sp d p positions e0 e1 e2 e3 e4 e5 e6 e7 e8 e9 = rw (e0, e1, e2, e3, e4, e5, e6, e7, e8, e9) refl

-- ---- all names

-- a context of the names is the one of the names
pub is_context_for : (t : Table) (n : Names) (d : Context) → IsContextOf t n d → context_for t n ≡ d
is_context_for t n d of =
    ap (λ (u : Table). record { device = u; names = entries_of n; known = known_of (entries_of n) }) (sym of.device)
    ∙ ap (λ (es : List Entry). record { device = d.device; names = es; known = known_of (entries_of n) }) (sym of.names)
    ∙ ap (λ (ks : List Known). record { device = d.device; names = d.names; known = ks }) (sym of.known)

-- the name of a number, in a list that is gone through
pub name_here : {X : Type 0} (v : X → Entry) (xs : List X) (i : ℕ) (x : X) (y : Entry) → i < length xs → x ≡ get_or xs i x → get_or (map v xs) i y ≡ v x
name_here v xs i x y low is = get_or-map v xs i x y low ∙ ap v (sym is)

-- what is kept of the names of the code
pub knows_all : (t : Table) (r : UseRule) (n m : Names) (us vs : List NameUses) → m ≡ n → us ≡ vs → AreUsesOf r (context_for t m) m us → AreUsesOf r (context_for t n) m vs
knows_all t r n m us vs same kept h = subst (λ (k : Names). AreUsesOf r (context_for t k) m vs) same (subst (AreUsesOf r (context_for t m) m) kept h)
