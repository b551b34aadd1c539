-- The signals that names represent as targets, and those of a target (ABEL-HDL Reference Manual, equations, sets and
-- constants).
use Rattle.std.specs.Prelude.{◌≡◌, ℕ, ◌<◌, Bool, List, [], ◌∷◌, ◌++◌, All, length, map, take}
use Rattle.section_targets.specs.Prelude.{Names, Entry, entries_of, first_refusal, Context, targets_of, all_targets, some_signals, Term, Terms, Known, known_of, section_order}
use Rattle.section_targets.specs.declared.named.NamedSignals.{NamedSignals}
use Rattle.section_targets.specs.declared.sides.Side.{Side}
use Rattle.section_targets.specs.Given.{AreNamed}
use Rattle.section_targets.specs.TargetSignals.{TargetFound, names_signals, all_name_signals}

-- these signals, of so many names; a set has at most 32 positions, and one more is listed if there are more
pub record AreSignals (count : ℕ) (n : NamedSignals) (xs : List ℕ) (b : Bool) : Type 0 where
  pub alone : n.alone ≡ b
  pub signals : n.signals ≡ take 33 xs
  pub inside : All (λ (s : ℕ). s < count) n.signals

-- those of a term
abbrev pub IsOfTerm : (count : ℕ) → NamedSignals → Term → Type 0
IsOfTerm count n t = AreSignals count n (some_signals (targets_of t)) (names_signals t)

-- those of the members of a set
abbrev pub IsOfMembers : (count : ℕ) → NamedSignals → Terms → Type 0
IsOfMembers count n ts = AreSignals count n (some_signals (all_targets ts)) (all_name_signals ts)

-- each of what the names represent, in order
abbrev pub AreOfTerms : (count : ℕ) → List NamedSignals → List Known → Type 0
AreOfTerms count [] [] = Unit {0}
AreOfTerms count (n ∷ ns) (k ∷ ks) = IsOfTerm count n k.term × AreOfTerms count ns ks
AreOfTerms count _ _ = ⊥

-- what the first of these names represent
pub record StandFor (count : ℕ) (es : List Entry) (ns : List NamedSignals) (ks : List Known) : Type 0 where
  pub later : List (List ℕ)
  pub names : map (λ (e : Entry). e.name) es ≡ map (λ (k : Known). k.name) ks ++ later
  pub terms : AreOfTerms count ns ks

-- the signals of all names of a source
abbrev pub AreNames : Names → List NamedSignals → Type 0
AreNames n ns = StandFor (length (entries_of n)) (entries_of n) ns (known_of (entries_of n))

-- what all names of a design represent
abbrev pub AreTargets : Context → List NamedSignals → Type 0
AreTargets d ns = StandFor (length d.names) d.names ns d.known

-- what is found of a target; a set has at most 32 positions, and one more is listed if there are more
pub record IsSide (count : ℕ) (s : Side) (x : TargetFound) : Type 0 where
  pub fault : s.fault ≡ first_refusal section_order x.refusals
  pub aims : s.aims ≡ take 33 x.aims
  pub inside : AreNamed count s.aims
