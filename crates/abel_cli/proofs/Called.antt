-- From what a command's own sources amount to, to what words and files call for.
use Rattle.std.proofs.Common.{◌≡◌, ℕ, suc, ◌<◌, ◌≤◌, Bool, true, false, List, [], length, Option, Some, get_or, refl, sym, subst, inl, inr, arith, nat_lt, replicate, Contains}
use Rattle.abel_cli.proofs.Common.{length-replicate, get_or-map, get_or-replicate, Rose, Map, SameFiles, SameBut, bytes_at, Asked, HasRisen, HasStayed, Ending, file_fault, Puts, Comes, CallsFor, Ends, EndsOn, source_at, Command, command_of, source_count}
use Rattle.std.proofs.lemmas.Bool.{ltb-true, ltb-false}
use Rattle.abel_commands.specs.Limit.{limit}
use Rattle.abel_commands.specs.Reading.{HasLongName}
use Rattle.abel_cli.specs.Sources.{HasLongSource, sources_of}

-- ---- some sources are too long, and they are a command's own if the files show them

-- of any number n, so that no list of a million bytes is ever computed
longer : (n : ℕ) → (bytes : List ℕ) × (n < length bytes)
longer n = let size = length-replicate {A = ℕ} (suc n) 0 in (replicate (suc n) 0, omega (arith, size))

-- sources of which the one at the place has more bytes than n, the ones given if they are known to
module _ (n : ℕ) (told : Type 0) (own : List (List ℕ)) (place : ℕ) where
  abbrev Long : Type 0
  Long = (sources : List (List ℕ)) × (told → sources ≡ own) × (n < length (source_at sources place))

  by_test : (told → n < length (source_at own place)) → (b : Bool) → nat_lt n (length (source_at own place)) ≡ b → Long
  by_test is true over = (own, λ tells. refl, ltb-true n (length (source_at own place)) over)
  by_test is false under =
      let other = longer n in (
        replicate (suc place) other.0,
        λ tells. absurd (let low = ltb-false n (length (source_at own place)) under in let high = is tells in omega (arith, low, high)),
        subst (λ (bytes : List ℕ). n < length bytes) (sym (get_or-replicate (suc place) place other.0 [] (omega arith))) other.1,
      )

  long_sources : (told → n < length (source_at own place)) → Long
  long_sources is = by_test is (nat_lt n (length (source_at own place))) refl

pub ends_long : (told : Type 0) (files : Map) (command : Command) (e : Ending) → length command.inputs ≡ source_count command.task
    → HasLongName told files command.inputs → ((sources : List (List ℕ)) → HasLongSource command.task sources → Ends command.task sources e)
    → EndsOn told files command e
ends_long told files command e size (place, low, long) ends =
    let at_place : source_at (sources_of files command) place ≡ bytes_at files (get_or command.inputs place []) = get_or-map (bytes_at files) command.inputs place [] [] low in
    let s = long_sources limit told (sources_of files command) place (λ tells. subst (λ (bytes : List ℕ). limit < length bytes) (sym at_place) (long tells)) in
    record { sources = s.0; own = s.1; ends = ends s.0 (place, omega (arith, low, size), s.2) }

-- ---- what occurs

pub rose_later : (a b c : ℕ) → a ≤ b → Rose b c → Rose a c
rose_later a b c later rose = omega (arith, later, rose)

module _ (a : Asked) (command : Command) (is : command_of a.words ≡ Some command) where
  pub called : (e : Ending) → EndsOn a.told a.old command e → CallsFor a.told a.old (command_of a.words) e
  called e ends = subst (λ (c : Option Command). CallsFor a.told a.old c e) (sym is) ends

  pub ended : (e : Ending) → EndsOn a.told a.old command e → HasStayed a.faults → HasStayed a.write_faults → (a.told → Puts e.output a.old a.new) → Comes a e
  ended e ends stayed stayed_write files = inl (record { called = called e ends; stayed = stayed; stayed_write = stayed_write; files = files })

  pub unread : (name : List ℕ) → Contains command.inputs name → HasRisen a.faults → (a.told → SameFiles a.old a.new) → Comes a (file_fault name)
  unread name named r files = inr (inl (record { name = name; is = refl; reads = (command, is, named); rose = r; files = files }))

  pub unwritten : (wanted : Ending) (name bytes : List ℕ) → EndsOn a.told a.old command wanted → wanted.output ≡ Some (record { name = name; bytes = bytes })
      → HasRisen a.faults → HasRisen a.write_faults → (a.told → SameBut name a.old a.new) → Comes a (file_fault name)
  unwritten wanted name bytes ends output r w files =
      inr (inr (record { name = name; is = refl; wanted = wanted; called = called wanted ends; bytes = bytes; output = output; rose = r; rose_write = w; files = files }))
