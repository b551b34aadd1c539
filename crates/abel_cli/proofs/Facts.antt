-- Facts of single statuses and commands, drawn from what a run promises.
use Rattle.std.proofs.Common.{◌≡◌, ℕ, ◌≤◌, ◌⊎◌, List, Option, Some, None, refl, sym, ◌∙◌, ap, subst, inl, inr, arith}
use Rattle.abel_cli.proofs.Common.{none-some, bytes_at, SameFiles, Asked, Heard, HasStayed, file_table, Ending, MeansOn, Promises, Means, IsRefused, source_at, Command, Task, Compile, ListSource, Simulate, Check, Demo, Decompile, Compare, IsCompile, IsNoCommand, command_of, on_file}
use Rattle.pld_base.specs.declared.device_name.DeviceName.{DeviceName}
use Rattle.abel_commands.specs.Simulating.{Disagrees}

module _ (a : Asked) (h : Heard) (p : Promises a h) where
  abbrev On : (e : Ending) → Option Command → Type 0
  On e c = MeansOn a.told a.old c e

  -- words that are no command end with 1, or with 7 or 8
  pub usage_where : IsNoCommand a.words → h.status ≤ 5 → h.status ≡ 1
  usage_where none l = let k = p.ended l in k.status ∙ ap (λ (e : Ending). e.status) (subst (On k.ending) none k.meant)

  pub usage_no_fault : IsNoCommand a.words → h.status ≡ 6 → ⊥
  usage_no_fault none six = elim (p.file_fault six).named [
    | inl (command, is, named) ↦ none-some command (sym none ∙ is)
    | inr (bytes, (e, called, meant, out), rose) ↦ none-some _ (sym (ap (λ (x : Ending). x.output) (subst (On e) none meant)) ∙ out)
  ]

  -- a refused source ends with 2, or with 6 to 8
  pub refused_where : a.told → (i o : List ℕ) → IsCompile a.words i o → IsRefused (bytes_at a.old i) → h.status ≤ 5 → h.status ≡ 2
  refused_where tells i o w r l =
      let k = p.ended l in
      let m = subst (On k.ending) w k.meant in
      k.status ∙ m.2.refused_where (subst (λ (s : List (List ℕ)). IsRefused (source_at s 0)) (sym (m.1 tells)) r)

  -- and leaves all files, whatever the status
  pub refused_leaves : a.told → (i o : List ℕ) → IsCompile a.words i o → IsRefused (bytes_at a.old i) → SameFiles a.old a.new
  refused_leaves tells i o w r = elim (p.files tells) [
    | inl same ↦ same
    | inr (out, (e, called, meant, is), but, left) ↦
        let m = subst (On e) w meant in
        let two = m.2.refused_where (subst (λ (s : List (List ℕ)). IsRefused (source_at s 0)) (sym (m.1 tells)) r) in
        absurd (none-some _ (sym (m.2.unwritten (omega (arith, two))) ∙ is))
  ]

  -- 5 has its cause
  pub disagrees : a.told → (d : DeviceName) (i : List ℕ) → command_of a.words ≡ Some (on_file (Simulate d) i) → h.status ≡ 5
      → (report : List ℕ) × Disagrees (file_table d (bytes_at a.old i)) (bytes_at a.old i) report
  disagrees tells d i w is =
      let k = p.ended (omega (arith, is)) in
      let m = subst (On k.ending) w k.meant in
      (k.ending.text, subst (λ (s : List (List ℕ)). Disagrees (file_table d (source_at s 0)) (source_at s 0) k.ending.text) (m.1 tells) (m.2.disagrees (sym k.status ∙ is)))

  -- a task that finds a disagreement: of vectors, or of two files
  abbrev FindsOne : Task → Type 0
  FindsOne t = ((d : DeviceName) × (t ≡ Simulate d)) ⊎ (((n : ℕ) × (t ≡ Demo n)) ⊎ ((d : DeviceName) × (t ≡ Compare d)))

  -- and occurs with `simulate`, `demo` and `compare` alone, whether the files show or not
  pub finds_only : h.status ≡ 5 → (c : Command) × (command_of a.words ≡ Some c) × FindsOne c.task
  finds_only is = let k = p.ended (omega (arith, is)) in of k.ending (command_of a.words) refl k.meant (sym k.status ∙ is)
    where
      by_task : (e : Ending) (c : Command) (t : Task) → c.task ≡ t → On e (Some c) → e.status ≡ 5 → FindsOne c.task
      by_task e c (Simulate d) w m n = inl (d, w)
      by_task e c (Demo seed) w m n = inr (inl (seed, w))
      by_task e c (Compare d) w m n = inr (inr (d, w))
      by_task e c (Compile o) w m n = absurd (let l = (subst (λ (t : Task). Means t m.0 e) w m.2).statuses in omega (arith, l, n))
      by_task e c ListSource w m n = absurd (let l = (subst (λ (t : Task). Means t m.0 e) w m.2).statuses in omega (arith, l, n))
      by_task e c (Check d) w m n = absurd (let l = (subst (λ (t : Task). Means t m.0 e) w m.2).statuses in omega (arith, l, n))
      by_task e c (Decompile d) w m n = absurd (let l = (subst (λ (t : Task). Means t m.0 e) w m.2).statuses in omega (arith, l, n))

      of : (e : Ending) (c : Option Command) → command_of a.words ≡ c → On e c → e.status ≡ 5 → (c : Command) × (command_of a.words ≡ Some c) × FindsOne c.task
      of e None w m n = let one = ap (λ (x : Ending). x.status) m in absurd (omega (arith, one, n))
      of e (Some c) w m n = (c, w, by_task e c c.task refl m n)

  -- if a call of the files failed, the status is 6, 7 or 8
  pub no_fault_is_swallowed : (HasStayed a.faults → ⊥) → h.status ≤ 5 → ⊥
  no_fault_is_swallowed rose l = rose (p.ended l).stayed
