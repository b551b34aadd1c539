-- Steps by the names that precede them: what each step adds, and what it refuses.
use Rattle.std.proofs.Common.{◌≡◌, ℕ, suc, ◌+◌, ◌==◌, nat_le, Bool, true, false, not, ◌||◌, List, [], ◌∷◌, ◌++◌, fold, length, if◌then◌else◌, refl, sym, ap, subst, ◌∙◌, append_assoc, arith, is_some}
use Rattle.decls.proofs.Common.{list_any, nat_tests, append-nil, length-append, filter-append, Place, Table, Kind, APin, ANode, AConstant, ADeviceName, Words, Entry, kind_of, is_value, names_any, ends_agree, names_between, Tree, Use, OneName, Range, GivenName, entry, node_count, NameFault, first_entries, is_on_pin, is_taken, refused_if, is_signal_pin, name_refused, first_undeclared, use_refused, uses_refused, Progress, refuse_if, refuse_all, entered_if, entered, pin_taken, on_pin, pin_entered, node_counted, node_entered, used, range_used}
use Rattle.decls.specs.declared.fault.NameFault.TheVariants as fault
use Rattle.decls.proofs.FirstNames.{kind_first, first_push, uses_first}
use Rattle.decls.proofs.Folded.{any_append}
use Rattle.decls.proofs.Unknown.{known_all}

-- what a progress shows of the names so far
pub record Reached (t : Table) (es : List Entry) (s : Progress) : Type 0 where
  pub entries : s.entries ≡ first_entries es
  pub nodes : s.nodes ≡ node_count es
  pub taken : (n : ℕ) → is_signal_pin t n ≡ true → list_any (λ m. m == n) s.taken ≡ is_taken es n

-- one progress goes to another: it reaches these names and refuses these more
pub record Goes (t : Table) (s : Progress) (fs : List NameFault) (es : List Entry) (n : Progress) : Type 0 where
  pub reached : Reached t es n
  pub faults : n.faults ≡ s.faults ++ fs
  pub device : n.device ≡ s.device
  pub waiting : n.waiting ≡ s.waiting

pub followed : (t : Table) (s m n : Progress) (fs gs : List NameFault) (es es2 : List Entry) → Goes t s fs es m → Goes t m gs es2 n → Goes t s (fs ++ gs) es2 n
followed t s m n fs gs es es2 g h = record {
  reached = h.reached;
  faults = h.faults ∙ (ap (λ xs. xs ++ gs) g.faults ∙ append_assoc s.faults fs gs);
  device = h.device ∙ g.device;
  waiting = h.waiting ∙ g.waiting;
}

pub stays : (t : Table) (s : Progress) (es : List Entry) → Reached t es s → Goes t s [] es s
stays t s es r = record { reached = r; faults = sym (append-nil s.faults); device = refl; waiting = refl }

pub refuses : (t : Table) (s : Progress) (fs : List NameFault) (es : List Entry) → Reached t es s → Goes t s fs es (refuse_all fs s)
refuses t s fs es r = record { reached = record { entries = r.entries; nodes = r.nodes; taken = r.taken }; faults = refl; device = refl; waiting = refl }

-- ---- counting

or_false : (a : Bool) → a ≡ (a || false)
or_false true = refl
or_false false = refl

pub count_append : (xs ys : List Entry) → node_count (xs ++ ys) ≡ node_count xs + node_count ys
count_append xs ys = ap length (filter-append _ xs ys) ∙ length-append _ _

same_count : (n : ℕ) → n ≡ n + 0
same_count n = omega arith

more_count : (n : ℕ) → suc n ≡ n + 1
more_count n = omega arith

-- ---- one more name

module _ (t : Table) (es : List Entry) (s : Progress) where
  -- a state in which the number of the name is counted already
  pub record Counted (e : Entry) (fs : List NameFault) (m : Progress) : Type 0 where
    pub entries : m.entries ≡ first_entries es
    pub nodes : m.nodes ≡ node_count (es ++ e ∷ [])
    pub taken : (n : ℕ) → is_signal_pin t n ≡ true → list_any (λ k. k == n) m.taken ≡ is_taken (es ++ e ∷ []) n
    pub faults : m.faults ≡ s.faults ++ fs
    pub device : m.device ≡ s.device
    pub waiting : m.waiting ≡ s.waiting

  entered_entries : (e : Entry) (b : Bool) → is_some (kind_of (first_entries es) e.name) ≡ b → (if b then first_entries es else first_entries es ++ e ∷ []) ≡ first_entries (es ++ e ∷ [])
  entered_entries e b h = ap (λ c. if c then first_entries es else first_entries es ++ e ∷ []) (sym h) ∙ sym (first_push es e)

  entered_by : (e : Entry) (fs : List NameFault) (m : Progress) (b : Bool) → Counted e fs m → is_some (kind_of m.entries e.name) ≡ b → Goes t s (fs ++ refused_if b (fault.Redeclared e.place e.name)) (es ++ e ∷ []) (entered_if b e m)
  entered_by e fs m true c h = record {
    reached = record {
      entries = c.entries ∙ entered_entries e true (ap (λ xs. is_some (kind_of xs e.name)) (sym c.entries) ∙ h);
      nodes = c.nodes;
      taken = c.taken;
    };
    faults = ap (λ xs. xs ++ fault.Redeclared e.place e.name ∷ []) c.faults ∙ append_assoc s.faults fs (fault.Redeclared e.place e.name ∷ []);
    device = c.device;
    waiting = c.waiting;
  }
  entered_by e fs m false c h = record {
    reached = record {
      entries = ap (λ xs. xs ++ e ∷ []) c.entries ∙ entered_entries e false (ap (λ xs. is_some (kind_of xs e.name)) (sym c.entries) ∙ h);
      nodes = c.nodes;
      taken = c.taken;
    };
    faults = c.faults ∙ ap (λ xs. s.faults ++ xs) (sym (append-nil fs));
    device = c.device;
    waiting = c.waiting;
  }

  entered_goes : (name : List ℕ) (p : Place) (k : Kind) (w : Words) (fs : List NameFault) (m : Progress) → Counted (entry name p k w) fs m → Goes t s (fs ++ refused_if (is_some (kind_of es name)) (fault.Redeclared p name)) (es ++ entry name p k w ∷ []) (entered name p k w m)
  entered_goes name p k w fs m c =
      subst (λ b. Goes t s (fs ++ refused_if b (fault.Redeclared p name)) (es ++ entry name p k w ∷ []) (entered name p k w m))
      (ap (λ xs. is_some (kind_of xs name)) c.entries ∙ ap is_some (kind_first es name))
      (entered_by (entry name p k w) fs m (is_some (kind_of m.entries name)) c refl)

  module _ (r : Reached t es s) where
    -- a constant, a device
    pub constant_goes : (name : List ℕ) (p : Place) (v : Tree) (w : Words) → Goes t s (name_refused t es true (entry name p (AConstant v) w)) (es ++ entry name p (AConstant v) w ∷ []) (entered name p (AConstant v) w s)
    constant_goes name p v w =
        entered_goes name p (AConstant v) w [] s (record {
          entries = r.entries;
          nodes = r.nodes ∙ (same_count (node_count es) ∙ sym (count_append es (entry name p (AConstant v) w ∷ [])));
          taken = λ n g. r.taken n g ∙ (or_false (is_taken es n) ∙ sym (any_append (λ (e : Entry). is_on_pin n e.kind) es (entry name p (AConstant v) w ∷ [])));
          faults = sym (append-nil s.faults);
          device = refl;
          waiting = refl;
        })

    pub plain_goes : (name : List ℕ) (p : Place) (w : Words) → Goes t s (name_refused t es true (entry name p ADeviceName w)) (es ++ entry name p ADeviceName w ∷ []) (entered name p ADeviceName w s)
    plain_goes name p w =
        entered_goes name p ADeviceName w [] s (record {
          entries = r.entries;
          nodes = r.nodes ∙ (same_count (node_count es) ∙ sym (count_append es (entry name p ADeviceName w ∷ [])));
          taken = λ n g. r.taken n g ∙ (or_false (is_taken es n) ∙ sym (any_append (λ (e : Entry). is_on_pin n e.kind) es (entry name p ADeviceName w ∷ [])));
          faults = sym (append-nil s.faults);
          device = refl;
          waiting = refl;
        })

    -- a pin
    covers : (x c : Bool) → (c ≡ true → x ≡ true) → x ≡ (x || (c || false))
    covers true c f = refl
    covers false true f = f refl
    covers false false f = refl

    same_number : (n k : ℕ) → (n == k) ≡ true → n ≡ k
    same_number n k e = grind (arith, nat_tests)

    pin_counted : (x : GivenName) (n : ℕ) (w : Words) (g b : Bool) → is_signal_pin t n ≡ g → list_any (λ k. k == n) s.taken ≡ b
        → Counted (entry x.name x.place (APin n x.negated) w) (if g then refused_if b (fault.PinTaken x.place x.name) else fault.BadPin x.place x.name ∷ []) (pin_taken g b x.place x.name n s)
    pin_counted x n w false b i j = record {
      entries = r.entries;
      nodes = r.nodes ∙ (same_count (node_count es) ∙ sym (count_append es (entry x.name x.place (APin n x.negated) w ∷ [])));
      taken = λ k h.
          r.taken k h
          ∙ (covers (is_taken es k) (n == k) (λ e. absurd (let bad : false ≡ true = sym i ∙ (ap (is_signal_pin t) (same_number n k e) ∙ h) in cc))
          ∙ sym (any_append (λ (e : Entry). is_on_pin k e.kind) es (entry x.name x.place (APin n x.negated) w ∷ [])));
      faults = refl;
      device = refl;
      waiting = refl;
    }
    pin_counted x n w true true i j = record {
      entries = r.entries;
      nodes = r.nodes ∙ (same_count (node_count es) ∙ sym (count_append es (entry x.name x.place (APin n x.negated) w ∷ [])));
      taken = λ k h.
          r.taken k h
          ∙ (covers (is_taken es k) (n == k) (λ e. sym (r.taken k h) ∙ (ap (λ m. list_any (λ q. q == m) s.taken) (sym (same_number n k e)) ∙ j))
          ∙ sym (any_append (λ (e : Entry). is_on_pin k e.kind) es (entry x.name x.place (APin n x.negated) w ∷ [])));
      faults = refl;
      device = refl;
      waiting = refl;
    }
    pin_counted x n w true false i j = record {
      entries = r.entries;
      nodes = r.nodes ∙ (same_count (node_count es) ∙ sym (count_append es (entry x.name x.place (APin n x.negated) w ∷ [])));
      taken = λ k h.
          any_append (λ q. q == k) s.taken (n ∷ [])
          ∙ (ap (λ b. b || ((n == k) || false)) (r.taken k h)
          ∙ sym (any_append (λ (e : Entry). is_on_pin k e.kind) es (entry x.name x.place (APin n x.negated) w ∷ [])));
      faults = sym (append-nil s.faults);
      device = refl;
      waiting = refl;
    }

    as_taken : (x : GivenName) (n : ℕ) (g b c : Bool) → (g ≡ true → b ≡ c) → (if g then refused_if b (fault.PinTaken x.place x.name) else fault.BadPin x.place x.name ∷ []) ≡ (if g then refused_if c (fault.PinTaken x.place x.name) else fault.BadPin x.place x.name ∷ [])
    as_taken x n true b c f = ap (λ y. refused_if y (fault.PinTaken x.place x.name)) (f refl)
    as_taken x n false b c f = refl

    pub pin_goes : (x : GivenName) (n : ℕ) (w : Words) → Goes t s (name_refused t es true (entry x.name x.place (APin n x.negated) w)) (es ++ entry x.name x.place (APin n x.negated) w ∷ []) (pin_entered t w x n s)
    pin_goes x n w =
        subst (λ fs. Goes t s (fs ++ refused_if (is_some (kind_of es x.name)) (fault.Redeclared x.place x.name)) (es ++ entry x.name x.place (APin n x.negated) w ∷ []) (pin_entered t w x n s))
        (as_taken x n (is_signal_pin t n) (list_any (λ k. k == n) s.taken) (is_taken es n) (r.taken n))
        (entered_goes x.name x.place (APin n x.negated) w _ (on_pin t x.place x.name n s) (pin_counted x n w (is_signal_pin t n) (list_any (λ k. k == n) s.taken) refl refl))

    -- a pin without a number
    not_zero : (k : ℕ) → is_signal_pin t k ≡ true → (0 == k) ≡ true → is_taken es k ≡ true
    not_zero k h e = absurd (let bad : false ≡ true = ap (is_signal_pin t) (same_number 0 k e) ∙ h in cc)

    pub unnumbered_goes : (x : GivenName) (w : Words) → Goes t s (name_refused t es false (entry x.name x.place (APin 0 x.negated) w)) (es ++ entry x.name x.place (APin 0 x.negated) w ∷ []) (entered x.name x.place (APin 0 x.negated) w s)
    unnumbered_goes x w =
        entered_goes x.name x.place (APin 0 x.negated) w [] s (record {
          entries = r.entries;
          nodes = r.nodes ∙ (same_count (node_count es) ∙ sym (count_append es (entry x.name x.place (APin 0 x.negated) w ∷ [])));
          taken = λ k h.
              r.taken k h
              ∙ (covers (is_taken es k) (0 == k) (not_zero k h)
              ∙ sym (any_append (λ (e : Entry). is_on_pin k e.kind) es (entry x.name x.place (APin 0 x.negated) w ∷ [])));
          faults = sym (append-nil s.faults);
          device = refl;
          waiting = refl;
        })

    -- a node
    node_by : (x : GivenName) (w : Words) (b : Bool) → Counted (entry x.name x.place (ANode s.nodes) w) (refused_if b (fault.TooManyNodes x.place x.name)) (refuse_if b (fault.TooManyNodes x.place x.name) (record s { nodes = suc s.nodes }))
    node_by x w true = record {
      entries = r.entries;
      nodes = ap suc r.nodes ∙ (more_count (node_count es) ∙ sym (count_append es (entry x.name x.place (ANode s.nodes) w ∷ [])));
      taken = λ n g. r.taken n g ∙ (or_false (is_taken es n) ∙ sym (any_append (λ (e : Entry). is_on_pin n e.kind) es (entry x.name x.place (ANode s.nodes) w ∷ [])));
      faults = refl;
      device = refl;
      waiting = refl;
    }
    node_by x w false = record {
      entries = r.entries;
      nodes = ap suc r.nodes ∙ (more_count (node_count es) ∙ sym (count_append es (entry x.name x.place (ANode s.nodes) w ∷ [])));
      taken = λ n g. r.taken n g ∙ (or_false (is_taken es n) ∙ sym (any_append (λ (e : Entry). is_on_pin n e.kind) es (entry x.name x.place (ANode s.nodes) w ∷ [])));
      faults = sym (append-nil s.faults);
      device = refl;
      waiting = refl;
    }

    pub node_goes : (x : GivenName) (w : Words) → Goes t s (name_refused t es true (entry x.name x.place (ANode s.nodes) w)) (es ++ entry x.name x.place (ANode s.nodes) w ∷ []) (node_entered w x s)
    node_goes x w = entered_goes x.name x.place (ANode s.nodes) w (refused_if (nat_le 128 s.nodes) (fault.TooManyNodes x.place x.name)) (node_counted x.place x.name s) (node_by x w (nat_le 128 s.nodes))

-- ---- uses

one_use : (s : Progress) (u : Use) → used s u ≡ refuse_all (use_refused s.entries u) s
one_use s (OneName word) = by (names_any is_value s.entries word.text)
  where
    by : (b : Bool) → refuse_if (not b) (fault.Undeclared word.place word.text) s ≡ refuse_all (if b then [] else fault.Undeclared word.place word.text ∷ []) s
    by true = ap (λ fs. record s { faults = fs }) (sym (append-nil s.faults))
    by false = refl
one_use s (Range first last) = by (ends_agree first.text last.text)
  where
    by : (b : Bool) → range_used b first last s ≡ refuse_all (if b then first_undeclared is_value s.entries first.place (names_between first.text last.text) else fault.BadRange first.place ∷ []) s
    by true = known_all is_value first.place (names_between first.text last.text) s
    by false = refl

pub all_uses_refused : (us : List Use) (s : Progress) → fold used s us ≡ refuse_all (uses_refused s.entries us) s
all_uses_refused [] s = ap (λ fs. record s { faults = fs }) (sym (append-nil s.faults))
all_uses_refused (u ∷ us) s =
    ap (λ m. fold used m us) (one_use s u)
    ∙ (all_uses_refused us (refuse_all (use_refused s.entries u) s)
    ∙ ap (λ fs. record s { faults = fs }) (append_assoc s.faults (use_refused s.entries u) (uses_refused s.entries us)))

pub uses_go : (t : Table) (es : List Entry) (s : Progress) (us : List Use) → Reached t es s → Goes t s (uses_refused es us) es (fold used s us)
uses_go t es s us r =
    subst (λ n. Goes t s (uses_refused es us) es n) (sym (all_uses_refused us s))
    (subst (λ fs. Goes t s fs es (refuse_all (uses_refused s.entries us) s)) (ap (λ xs. uses_refused xs us) r.entries ∙ uses_first es us) (refuses t s (uses_refused s.entries us) es r))
