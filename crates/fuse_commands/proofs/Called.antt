-- From what a command's own files amount to, to what words and files call for.
use Rattle.std.proofs.Common.{◌≡◌, ℕ, ◌≤◌, List, Option, Some, refl, sym, subst, inl, inr, arith}
use Rattle.outside.specs.Causes.{Rose}
use Rattle.fuse_commands.specs.Prelude.{Asked, Ending, HasRisen, HasStayed, Map, Puts, SameBut, SameFiles, file_fault}
use Rattle.fuse_commands.specs.Run.{CallsFor, Comes, EndsOn}
use Rattle.fuse_commands.specs.Sources.{IsInput}
use Rattle.fuse_commands.specs.Words.{Command, command_of}

pub rose_later : (a b c : ℕ) → a ≤ b → Rose b c → Rose a c
rose_later a b c later rose = omega (arith, later, rose)

module _ (a : Asked) (command : Command) (is : command_of a.words ≡ Some command) where
  pub called : (e : Ending) → EndsOn a.told a.old command e → CallsFor a.told a.old a.words (command_of a.words) e
  called e ends = subst (λ (c : Option Command). CallsFor a.told a.old a.words c e) (sym is) ends

  pub ended : (e : Ending) → EndsOn a.told a.old command e → HasStayed a.faults → HasStayed a.write_faults → (a.told → Puts e.output a.old a.new) → Comes a e
  ended e ends stayed stayed_write files = inl (record { called = called e ends; stayed = stayed; stayed_write = stayed_write; files = files })

  pub unread : (name : List ℕ) → IsInput command name → HasRisen a.faults → (a.told → SameFiles a.old a.new) → Comes a (file_fault name)
  unread name reads r files = inr (inl (record { command = command; words = is; name = name; is = refl; reads = reads; rose = r; files = files }))

  pub unwritten : (wanted : Ending) (name bytes : List ℕ) → EndsOn a.told a.old command wanted → wanted.output ≡ Some (record { name = name; bytes = bytes })
      → HasRisen a.faults → HasRisen a.write_faults → (a.told → SameBut name a.old a.new) → Comes a (file_fault name)
  unwritten wanted name bytes ends output r w files =
      inr (inr (record { name = name; is = refl; wanted = wanted; called = called wanted ends; bytes = bytes; output = output; rose = r; rose_write = w; files = files }))
