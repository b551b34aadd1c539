-- A device that a source allows at each point, with the source's nodes valued there, does what the source does.
use Rattle.std.proofs.Common.{◌≡◌, ℕ, ◌<◌, Bool, true, false, List, [], ◌∷◌, refl, sym, ◌∙◌, subst}
use Rattle.pld_machine.proofs.Common.{true≢false, bits, is_on, Levels, IsPoint, Logic, length-bits, is_on-zero, NodeValues, IsValuedOf, SameEnables, IsShownAs, HasValuedRunsOf, AllowsOne, HasNoDontCare, DoesTheSame, RefinesValued, AtRest, RestsOnce, RunsOnce, AllowsAt, RefinesThrough, AreSeen}
use Rattle.pld_machine.proofs.ThroughRuns.{run_through}

-- ---- one of two values

-- a test that one value passes
the_one : (f : Bool → Bool) → AllowsOne f → (v : Bool) × (f v ≡ true)
the_one f one = by_value (f true) (f false) refl refl
  where
    by_value : (a b : Bool) → f true ≡ a → f false ≡ b → (v : Bool) × (f v ≡ true)
    by_value true b first second = (true, first)
    by_value false true first second = (false, second)
    by_value false false first second = absurd (one (first ∙ sym second))

only_one : (f : Bool → Bool) → AllowsOne f → (a b : Bool) → f a ≡ true → f b ≡ true → a ≡ b
only_one f one true true first second = refl
only_one f one false false first second = refl
only_one f one true false first second = absurd (one (first ∙ sym second))
only_one f one false true first second = absurd (one (second ∙ sym first))

-- what allows a value of each, and no more than a test that one value passes, allows all that it does
back : (f g : Bool → Bool) → AllowsOne f → AllowsOne g → ((v : Bool) → f v ≡ true → g v ≡ true) → (v : Bool) → g v ≡ true → f v ≡ true
back f g f_one g_one more v allowed =
    let it = the_one f f_one in
    subst (λ w. f w ≡ true) (only_one g g_one it.0 v (more it.0 it.1) allowed) it.1

-- ---- the source's points and the device's

module _ (d s : Logic) (values : NodeValues) (r : RefinesValued d s values) where
  -- a point of the device, and the same one with the source's nodes valued
  pub record IsShown (at valued : Levels) : Type 0 where
    pub is_point : IsPoint at
    pub is : IsValuedOf s values at valued

  shown : RefinesThrough d s IsShown
  shown = record {
    same_cells = r.same_cells;
    sees = λ outside stored at rests. let one = r.one_value at rests.is_point in (one.0, record { is_point = rests.is_point; is = one.1.is });
    seen = λ at valued v. record {
      is_point = v.is.is_valued.is_point;
      pins = v.is.pins;
      q = v.is.q;
      node = λ n low node. subst (λ b. s.allows_node valued n b ≡ true) (sym (v.is.is_valued.node n low node)) (r.allowed valued v.is.is_valued.is_point n low node);
      no_node = v.is.is_valued.no_node;
    };
    allows = λ at valued v. r.allows at valued v.is_point v.is;
  }

  same_enables : (at valued : Levels) → IsShown at valued → SameEnables d s at valued
  same_enables at valued v c within = (r.allows at valued v.is_point v.is).enabled c (subst (λ n. c < n) r.same_cells.cells within)

  all_shown : (points others : List Levels) → AreSeen IsShown points others → AreSeen (IsShownAs d s values) points others
  all_shown [] [] seen = tt
  all_shown [] (o ∷ others) seen = absurd seen
  all_shown (p ∷ points) [] seen = absurd seen
  all_shown (p ∷ points) (o ∷ others) seen = (record { is = seen.0.is; enables = same_enables p o seen.0 }, all_shown points others seen.1)

  valued_runs : HasValuedRunsOf s d values
  valued_runs outsides points run =
      let seen = run_through d s IsShown shown outsides points run in
      (seen.0, all_shown points seen.0 seen.1, seen.2)

  -- a point of the source without don't-care is one of the device, without its nodes
  module _ (exact : HasNoDontCare s) where
    pub record IsUnder (at under : Levels) : Type 0 where
      pub is : IsValuedOf s values under at
      pub is_point : IsPoint under
      pub no_node : (n : ℕ) → n < 128 → is_on under.nodes n ≡ false

    under_of : (outside stored : List Bool) (at : Levels) → AtRest s outside stored at → (under : Levels) × IsUnder at under
    under_of outside stored at rests = (
      record { pins = at.pins; q = at.q; nodes = bits 128 0 },
      record {
        is = record {
          pins = refl;
          q = refl;
          is_valued = record {
            is_point = rests.is_point;
            node = λ n low node. only_one (s.allows_node at n) (exact.node at rests.is_point n low node) (is_on at.nodes n) (values at n) (rests.settled.nodes n low node) (r.allowed at rests.is_point n low node);
            no_node = rests.settled.no_node;
          };
        };
        is_point = record { pins = rests.is_point.pins; q = rests.is_point.q; nodes = length-bits 128 0 };
        no_node = λ n low. is_on-zero 128 n low;
      },
    )

    in_s : (c : ℕ) → c < d.cells → c < s.cells
    in_s c within = subst (λ n. c < n) r.same_cells.cells within

    in_d : (c : ℕ) → c < s.cells → c < d.cells
    in_d c within = subst (λ n. c < n) (sym r.same_cells.cells) within

    allows_back : (at under : Levels) → IsUnder at under → AllowsAt s d at under
    allows_back at under u =
        let allows = r.allows under at u.is_point u.is in
        let is = u.is.is_valued.is_point in
        record {
          enabled = λ c within. sym (allows.enabled c (in_s c within));
          level = λ c within on v allowed.
              let same_on = sym (allows.enabled c (in_s c within)) ∙ on in
              back (d.allows_level under c) (s.allows_level at c) (r.one_each.level under u.is_point c within on) (exact.level at is c (in_s c within) same_on)
              (allows.level c (in_s c within) same_on) v allowed;
          reset = λ c within kept. sym (allows.reset c (in_s c within) (sym (r.same_cells.stores c (in_s c within)) ∙ kept));
          preset = λ c within kept. sym (allows.preset c (in_s c within) (sym (r.same_cells.stores c (in_s c within)) ∙ kept));
          next = λ c within kept v allowed.
              let same_kept = sym (r.same_cells.stores c (in_s c within)) ∙ kept in
              back (d.allows_next under c) (s.allows_next at c) (r.one_each.next under u.is_point c within kept) (exact.next at is c (in_s c within) same_kept)
              (allows.next c (in_s c within) same_kept) v allowed;
        }

    under : RefinesThrough s d IsUnder
    under = record {
      same_cells = record {
        cells = sym r.same_cells.cells;
        pin = λ c within. sym (r.same_cells.pin c (in_s c within));
        stores = λ c within. sym (r.same_cells.stores c (in_s c within));
        clock = sym r.same_cells.clock;
      };
      sees = under_of;
      seen = λ at below u. record {
        is_point = u.is_point;
        pins = sym u.is.pins;
        q = sym u.is.q;
        node = λ n low node. absurd (true≢false (sym node ∙ r.no_nodes n low));
        no_node = λ n low none. u.no_node n low;
      };
      allows = allows_back;
    }

    -- points over the same points are the same
    same_points : (points others valued : List Levels) → AreSeen IsUnder others points → AreSeen IsShown points valued → others ≡ valued
    same_points [] [] [] first second = refl
    same_points [] [] (v ∷ valued) first second = absurd second
    same_points [] (o ∷ others) valued first second = absurd first
    same_points (p ∷ points) [] valued first second = absurd first
    same_points (p ∷ points) (o ∷ others) [] first second = absurd second
    same_points (p ∷ points) (o ∷ others) (v ∷ valued) first second =
        let one = r.one_value p first.0.is_point in
        let here : o ≡ v = one.1.only o first.0.is ∙ sym (one.1.only v second.0.is) in
        rw (here, same_points points others valued first.1 second.1) refl

    pub source_runs_once : RunsOnce d → RunsOnce s
    source_runs_once once outsides some wide =
        let device = once outsides some wide in
        let seen = run_through d s IsShown shown outsides device.0 device.1.runs in (
          seen.0,
          record {
            runs = seen.2;
            only = λ others run.
                let below = run_through s d IsUnder under outsides others run in
                let same : below.0 ≡ device.0 = device.1.only below.0 below.2 in
                same_points device.0 others seen.0 (subst (AreSeen IsUnder others) same below.1) seen.1;
          },
        )

  pub does_the_same : RestsOnce d → RunsOnce d → DoesTheSame d s values
  does_the_same rests runs = record {
    same_cells = r.same_cells;
    one_rest = rests;
    one_run = runs;
    one_value = r.one_value;
    runs = valued_runs;
    source_run = λ exact. source_runs_once exact runs;
  }
