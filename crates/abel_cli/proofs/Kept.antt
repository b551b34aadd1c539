-- A run keeps its promises.
use Rattle.std.proofs.Common.{◌≡◌, ℕ, ◌≤◌, ◌⊎◌, List, [], ◌∷◌, ◌++◌, get_or, map, Option, Some, None, refl, sym, ◌∙◌, ap, subst, inl, inr, arith, unwrap_or}
use Rattle.abel_cli.proofs.Common.{none-some, Map, bytes_at, Asked, Heard, HasRisen, HasStayed, file_table, Ending, Output, memory_line, file_fault, Puts, TakesFront, TakesFrontAndMemory, MeansOn, IsMeant, EndsAsCalled, EndsInFileFault, LeavesFiles, Promises, HasCompiled, IsRightOrOld, IsRight, Ends, Means, CallsFor, IsCalledFor, Comes, Runs, written, listed, source_at, Command, Task, Compile, ListSource, Simulate, Check, Demo, Decompile, Compare, IsCompile, command_of}
use Rattle.abel_compile.specs.declared.compiled.Compiled.{Compiled}
use Rattle.abel_compile.specs.Correct.{IsCompiled}
use Rattle.abel_commands.proofs.CheckMeaning.{check_means}
use Rattle.abel_commands.proofs.Commands.{inputs_counted, one_only}
use Rattle.abel_commands.proofs.CompareMeaning.{compare_means}
use Rattle.abel_commands.proofs.DecompileMeaning.{decompile_means}
use Rattle.abel_commands.proofs.DemoMeaning.{demo_means}
use Rattle.abel_commands.proofs.SimulateMeaning.{simulate_means}
use Rattle.abel_commands.proofs.SourceMeaning.{source_means}

-- ---- by task, a line each

means : (task : Task) (sources : List (List ℕ)) (e : Ending) → Ends task sources e → Means task sources e
means (Compile o) sources e ends = source_means (source_at sources 0) (written o) (λ c. refl) e ends
means ListSource sources e ends = source_means (source_at sources 0) listed (λ c. refl) e ends
means (Simulate d) sources e ends = simulate_means (file_table d (source_at sources 0)) (source_at sources 0) e ends
means (Check d) sources e ends = check_means (file_table d (source_at sources 0)) (source_at sources 0) e ends
means (Demo n) sources e ends = demo_means n e ends
means (Decompile d) sources e ends = decompile_means (file_table d (source_at sources 0)) (source_at sources 0) e ends
means (Compare d) sources e ends = compare_means (file_table d (source_at sources 0)) (source_at sources 0) (source_at sources 1) e ends

low : (task : Task) (sources : List (List ℕ)) (e : Ending) → Means task sources e → e.status ≤ 5
low (Compile o) sources e m = let is = m.statuses in omega (arith, is)
low ListSource sources e m = let is = m.statuses in omega (arith, is)
low (Simulate d) sources e m = let is = m.statuses in omega (arith, is)
low (Check d) sources e m = let is = m.statuses in omega (arith, is)
low (Demo n) sources e m = let is = m.statuses in omega (arith, is)
low (Decompile d) sources e m = let is = m.statuses in omega (arith, is)
low (Compare d) sources e m = let is = m.statuses in omega (arith, is)

-- what an output is of: of `compile`, the file of a compiled source
abbrev PutBy : Task → (sources : List (List ℕ)) → Output → Type 0
PutBy (Compile o) sources out = (c : Compiled) × IsCompiled (source_at sources 0) c × (out ≡ record { name = o; bytes = c.file.items })
PutBy ListSource sources out = ⊥
PutBy (Simulate d) sources out = ⊥
PutBy (Check d) sources out = ⊥
PutBy (Demo n) sources out = ⊥
PutBy (Decompile d) sources out = ⊥
PutBy (Compare d) sources out = ⊥

put_by : (task : Task) (sources : List (List ℕ)) (e : Ending) (out : Output) → Means task sources e → e.output ≡ Some out → PutBy task sources out
put_by (Compile o) sources e out m is = of m.statuses
  where
    none : 1 ≤ e.status → ⊥
    none some = none-some out (sym (m.unwritten some) ∙ is)

    of : (e.status ≡ 0) ⊎ ((e.status ≡ 2) ⊎ (e.status ≡ 3)) → PutBy (Compile o) sources out
    of (inl n) = let r = m.compiled n in (r.0, r.1, ap (λ (x : Option Output). unwrap_or x out) (sym is ∙ ap (λ (x : Ending). x.output) r.2))
    of (inr (inl n)) = absurd (none (omega (arith, n)))
    of (inr (inr n)) = absurd (none (omega (arith, n)))
put_by ListSource sources e out m is = none-some out (sym (never m.statuses) ∙ is)
  where
    never : (e.status ≡ 0) ⊎ ((e.status ≡ 2) ⊎ (e.status ≡ 3)) → e.output ≡ None
    never (inl n) = let r = m.compiled n in ap (λ (x : Ending). x.output) r.2
    never (inr (inl n)) = m.unwritten (omega (arith, n))
    never (inr (inr n)) = m.unwritten (omega (arith, n))
put_by (Simulate d) sources e out m is = none-some out (sym m.unwritten ∙ is)
put_by (Check d) sources e out m is = none-some out (sym m.unwritten ∙ is)
put_by (Demo n) sources e out m is = none-some out (sym m.unwritten ∙ is)
put_by (Decompile d) sources e out m is = none-some out (sym m.unwritten ∙ is)
put_by (Compare d) sources e out m is = none-some out (sym m.unwritten ∙ is)

-- ---- whatever the task

is_meant : (told : Type 0) (files : Map) (command : Option Command) (e : Ending) → CallsFor told files command e → MeansOn told files command e
is_meant told files None e is = is
is_meant told files (Some c) e ends = (ends.sources, ends.own, means c.task ends.sources e ends.ends)

low_meant : (told : Type 0) (files : Map) (command : Option Command) (e : Ending) → MeansOn told files command e → e.status ≤ 5
low_meant told files None e is = let one = ap (λ (x : Ending). x.status) is in omega (arith, one)
low_meant told files (Some c) e m = low c.task m.0 e m.2

module _ (a : Asked) (h : Heard) where
  meant : (e : Ending) → IsCalledFor a e → IsMeant a e
  meant e = is_meant a.told a.old (command_of a.words) e

  low_called : (e : Ending) → IsCalledFor a e → e.status ≤ 5
  low_called e called = low_meant a.told a.old (command_of a.words) e (meant e called)

  six : (e : Ending) (name : List ℕ) → e ≡ file_fault name → e.status ≡ 6
  six e name is = ap (λ (x : Ending). x.status) is

  low_comes : (e : Ending) → Comes a e → e.status ≤ 6
  low_comes e (inl x) = let n = low_called e x.called in omega (arith, n)
  low_comes e (inr (inl u)) = let n = six e u.name u.is in omega (arith, n)
  low_comes e (inr (inr u)) = let n = six e u.name u.is in omega (arith, n)

  statuses : Runs a h → h.status ≤ 8
  statuses (inr s) = let n = s.memory in omega (arith, n)
  statuses (inl (e, comes, inl t)) = let n = t.0 in let l = low_comes e comes in omega (arith, n, l)
  statuses (inl (e, comes, inr (inl t))) = let n = t.0 in omega (arith, n)
  statuses (inl (e, comes, inr (inr t))) = let n = t.0 in omega (arith, n)

  named : (e : Ending) (name : List ℕ) → e ≡ file_fault name → (h.told → h.new ≡ h.old ++ e.text) → h.told → h.new ≡ h.old ++ (file_fault name).text
  named e name is text tells = text tells ∙ ap (λ (x : Ending). h.old ++ x.text) is

  fault_at_six : (e : Ending) → Comes a e → h.status ≡ e.status → (h.told → h.new ≡ h.old ++ e.text) → h.status ≡ 6 → EndsInFileFault a h
  fault_at_six e (inl x) n text is = let l = low_called e x.called in absurd (omega (arith, n, is, l))
  fault_at_six e (inr (inl u)) n text is = record { name = u.name; rose = u.rose; named = inl u.reads; text = named e u.name u.is text }
  fault_at_six e (inr (inr u)) n text is = record {
    name = u.name;
    rose = u.rose;
    named = inr (u.bytes, (u.wanted, u.called, meant u.wanted u.called, u.output), u.rose_write);
    text = named e u.name u.is text;
  }

  file_fault_only : Runs a h → h.status ≡ 6 → EndsInFileFault a h
  file_fault_only (inr s) is = let n = s.memory in absurd (omega (arith, n, is))
  file_fault_only (inl (e, comes, inl t)) is = fault_at_six e comes t.0 t.2 is
  file_fault_only (inl (e, comes, inr (inl t))) is = let n = t.0 in absurd (omega (arith, n, is))
  file_fault_only (inl (e, comes, inr (inr t))) is = let n = t.0 in absurd (omega (arith, n, is))

  report_stays : Runs a h → h.status ≤ 6 → HasStayed h.faults
  report_stays (inr s) low = let n = s.memory in absurd (omega (arith, n, low))
  report_stays (inl (e, comes, inl t)) low = t.1
  report_stays (inl (e, comes, inr (inl t))) low = let n = t.0 in absurd (omega (arith, n, low))
  report_stays (inl (e, comes, inr (inr t))) low = let n = t.0 in absurd (omega (arith, n, low))

  report_fault_only : Runs a h → h.status ≡ 7 → HasRisen h.faults × (h.told → (e : Ending) × Comes a e × TakesFront e.text h.old h.new)
  report_fault_only (inr s) is = let n = s.memory in absurd (omega (arith, n, is))
  report_fault_only (inl (e, comes, inl t)) is = let n = t.0 in let l = low_comes e comes in absurd (omega (arith, n, is, l))
  report_fault_only (inl (e, comes, inr (inl t))) is = (t.1, λ tells. (e, comes, t.2 tells))
  report_fault_only (inl (e, comes, inr (inr t))) is = let n = t.0 in absurd (omega (arith, n, is))

  memory_told : Runs a h → h.status ≡ 8 → h.told → ((e : Ending) × Comes a e × TakesFrontAndMemory e.text h.old h.new) ⊎ TakesFront memory_line h.old h.new
  memory_told (inr s) is tells = inr (s.tells tells)
  memory_told (inl (e, comes, inl t)) is tells = let n = t.0 in let l = low_comes e comes in absurd (omega (arith, n, is, l))
  memory_told (inl (e, comes, inr (inl t))) is tells = let n = t.0 in absurd (omega (arith, n, is))
  memory_told (inl (e, comes, inr (inr t))) is tells = inl (e, comes, t.1 tells)

  put : (e : Ending) → IsCalledFor a e → (out : Option Output) → e.output ≡ out → Puts out a.old a.new → LeavesFiles a
  put e called None is same = inl same
  put e called (Some o) is (but, written) = inr (o, (e, called, meant e called, is), but, inl written)

  left : Runs a h → a.told → LeavesFiles a
  left (inr s) tells = inl (s.leaves tells)
  left (inl (e, inl x, t)) tells = put e x.called e.output refl (x.files tells)
  left (inl (e, inr (inl u), t)) tells = inl (u.files tells)
  left (inl (e, inr (inr u), t)) tells =
      inr (record { name = u.name; bytes = u.bytes }, (u.wanted, u.called, meant u.wanted u.called, u.output), u.files tells, inr u.rose_write)

  ended_at : (e : Ending) → Comes a e → h.status ≡ e.status → (h.told → h.new ≡ h.old ++ e.text) → h.status ≤ 5 → EndsAsCalled a h
  ended_at e (inl x) n text l = record {
    ending = e;
    called = x.called;
    meant = meant e x.called;
    status = n;
    stayed = x.stayed;
    stayed_write = x.stayed_write;
    files = x.files;
    text = text;
  }
  ended_at e (inr (inl u)) n text l = let s = six e u.name u.is in absurd (omega (arith, n, s, l))
  ended_at e (inr (inr u)) n text l = let s = six e u.name u.is in absurd (omega (arith, n, s, l))

  ended : Runs a h → h.status ≤ 5 → EndsAsCalled a h
  ended (inr s) l = let n = s.memory in absurd (omega (arith, n, l))
  ended (inl (e, comes, inl t)) l = ended_at e comes t.0 t.2 l
  ended (inl (e, comes, inr (inl t))) l = let n = t.0 in absurd (omega (arith, n, l))
  ended (inl (e, comes, inr (inr t))) l = let n = t.0 in absurd (omega (arith, n, l))

  pub kept : Runs a h → Promises a h
  kept r = record {
    statuses = statuses r;
    ended = ended r;
    file_fault = file_fault_only r;
    report_stays = report_stays r;
    report_fault = report_fault_only r;
    memory = memory_told r;
    files = left r;
  }

  -- ---- the main theorem: of `compile` alone

  pub compiled : Promises a h → a.told → h.status ≡ 0 → HasCompiled a.words a.old a.new h.told h.old h.new
  compiled p tells is i o w =
      let k = p.ended (omega (arith, is)) in
      let m = subst (λ (c : Option Command). MeansOn a.told a.old c k.ending) w k.meant in
      let r = m.2.compiled (sym k.status ∙ is) in
      let puts = subst (λ (x : Ending). Puts x.output a.old a.new) r.2 (k.files tells) in (
        r.0,
        subst (λ (s : List (List ℕ)). IsCompiled (source_at s 0) r.0) (m.1 tells) r.1,
        puts.1,
        λ reports. k.text reports ∙ ap (λ (x : Ending). h.old ++ x.text) r.2,
      )

  pub right : Promises a h → a.told → h.status ≡ 0 → IsRight a.words a.old a.new
  right p tells is i o w = let r = compiled p tells is i o w in (r.0.device, r.0.file.items, r.2, r.1.right)

  abbrev Held : Type 0
  Held = (input output : List ℕ) × IsCompile a.words input output
      × (c : Compiled) × IsCompiled (bytes_at a.old input) c × (a.new output ≡ Some c.file.items)

  held : (o : Output) (task : Task) (inputs sources : List (List ℕ)) → sources ≡ map (bytes_at a.old) inputs → command_of a.words ≡ Some (record { task = task; inputs = inputs })
      → PutBy task sources o → a.new o.name ≡ Some o.bytes → Held
  held o (Compile p) inputs sources own w (c, r, is) new =
      let input : List ℕ = get_or inputs 0 [] in
      let one : inputs ≡ input ∷ [] = one_only inputs (inputs_counted a.words (record { task = Compile p; inputs = inputs }) w) in
      let source : source_at sources 0 ≡ bytes_at a.old input = ap (λ (s : List (List ℕ)). source_at s 0) (own ∙ ap (map (bytes_at a.old)) one) in (
        input,
        p,
        subst (λ (names : List (List ℕ)). command_of a.words ≡ Some (record { task = Compile p; inputs = names })) one w,
        c,
        subst (λ (s : List ℕ). IsCompiled s c) source r,
        subst (λ (x : Output). a.new x.name ≡ Some x.bytes) is new,
      )
  held o ListSource inputs sources own w never new = absurd never
  held o (Simulate d) inputs sources own w never new = absurd never
  held o (Check d) inputs sources own w never new = absurd never
  held o (Demo n) inputs sources own w never new = absurd never
  held o (Decompile d) inputs sources own w never new = absurd never
  held o (Compare d) inputs sources own w never new = absurd never

  held_by : a.told → (e : Ending) (o : Output) (c : Option Command) → command_of a.words ≡ c → MeansOn a.told a.old c e → e.output ≡ Some o → a.new o.name ≡ Some o.bytes → Held
  held_by tells e o None w is out new = absurd (none-some o (sym (ap (λ (x : Ending). x.output) is) ∙ out))
  held_by tells e o (Some c) w (sources, own, m) out new = held o c.task c.inputs sources (own tells) w (put_by c.task sources e o m out) new

  pub right_or_old : Promises a h → a.told → IsRightOrOld a.words a.old a.new (HasRisen a.write_faults)
  right_or_old p tells = of (p.files tells)
    where
      of : LeavesFiles a → IsRightOrOld a.words a.old a.new (HasRisen a.write_faults)
      of (inl same) = inl same
      of (inr (o, by, but, inr rose)) = inr (inl rose)
      of (inr (o, (e, called, m, is), but, inl new)) = inr (inr (held_by tells e o (command_of a.words) refl m is new))
