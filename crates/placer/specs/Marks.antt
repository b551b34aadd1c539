-- Marks of names: which of some signals each of them represents.
use Rattle.std.specs.Prelude.{◌≡◌, ℕ, ◌<◌, ◌≤◌, ◌==◌, Bool, Option, None, Some, List, [], ◌∷◌, if◌then◌else◌, length, get_or, bytes_eq}
use Rattle.placer.specs.Prelude.{bit_or, flat_map, list_any, bits, is_on, Named, PartTree}
use Rattle.declared_names.specs.Numbered.{number_in}
use Rattle.placer.specs.declared.marks.Marks.{Marks}
use Rattle.placer.specs.declared.read_names.Naming.{Naming}
use Rattle.placer.specs.declared.seen.Seen.{Seen}
use Rattle.placer.specs.PartReads.{enabled_in, read_in}

-- bit k of the mark says whether the signal at place k passes a test
abbrev pub HasMarks : (signals : List ℕ) → (test : ℕ → Bool) → (mark : ℕ) → Type 0
HasMarks signals test mark = (k : ℕ) → k < length signals → is_on (bits 32 mark) k ≡ test (get_or signals k 0)

-- whether it is among these numbers
abbrev pub HasMark : (signals numbers : List ℕ) → (mark : ℕ) → Type 0
HasMark signals numbers mark = HasMarks signals (λ s. list_any (λ n. n == s) numbers) mark

-- ---- names

-- the numbers that a name represents, if it is known
abbrev pub numbers_named : List Named → List ℕ → Option (List ℕ)
numbers_named [] name = None
numbers_named (k ∷ ks) name = if bytes_eq name k.name then Some k.signals else numbers_named ks name

-- a known name has a mark
abbrev pub HasSameMark : (signals : List ℕ) → Option (List ℕ) → Option ℕ → Type 0
HasSameMark signals None None = Unit {0}
HasSameMark signals (Some numbers) (Some mark) = HasMark signals numbers mark
HasSameMark signals _ _ = ⊥

-- the map has the marks of these names
abbrev pub AreMarks : (signals : List ℕ) → List Named → Marks → Type 0
AreMarks signals ks m = (name : List ℕ) → HasSameMark signals (numbers_named ks name) (number_in m.map.entries name)

-- the mark is that of the numbers that something names, whatever names represent
abbrev pub IsMarkOf : Marks → (List Named → List ℕ) → (mark : ℕ) → Type 0
IsMarkOf m numbers mark =
    (signals : List ℕ) (ks : List Named) → length signals ≤ 32 → AreMarks signals ks m → HasMark signals (numbers ks) mark

-- ---- parts

-- the two marks are those of the signals that these parts read, and of those whose enable they assign
pub record AreSeen (n : Naming) (parts : List PartTree) (seen : Seen) : Type 0 where
  pub read : IsMarkOf n.reading (λ ks. flat_map (read_in ks) parts) seen.read
  pub enabled : IsMarkOf n.targets (λ ks. flat_map (enabled_in ks) parts) seen.enabled

-- the marks of two lists of parts make up those of both
abbrev pub IsUnion : (first second both : Seen) → Type 0
IsUnion first second both =
    (both.read ≡ bit_or first.read second.read) × (both.enabled ≡ bit_or first.enabled second.enabled)
