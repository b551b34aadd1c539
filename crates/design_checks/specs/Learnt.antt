-- Private: what is kept of each name (this project's rule).
use Rattle.std.specs.Prelude.{ℕ, Bool, true, Option, None, Some, List, [], ◌∷◌, filter, if◌then◌else◌}
use Rattle.design_checks.specs.Prelude.{list_all, Extension, Names, Entry, entries_of, Table, Context, name_at, all_targets, targets_of, some_signals, Term, Terms, known_of, extended_if, cell_of, SignalUse, term_uses}
use Rattle.abel_tree.specs.declared.words.Extension.TheVariants as extension
use Rattle.design_checks.specs.Fronts.{positions_by}
use Rattle.design_checks.specs.LocatedUses.{PlacedUse}
use Rattle.design_checks.specs.NameValues.{AreOfNames}
use Rattle.design_checks.specs.RefusedUses.{is_refused, refuses_use}
use Rattle.design_checks.specs.SectionUses.{is_cell_by_pin, is_enabled_by_pin}
use Rattle.design_checks.specs.UsesRefused.{first_use}
use Rattle.design_checks.specs.Written.{not_written, one_written, written_of, written_of_all}
use Rattle.design_checks.specs.declared.front.Positions.{Positions}
use Rattle.design_checks.specs.declared.names.KeptUses.{KeptUses}
use Rattle.design_checks.specs.declared.names.NameUses.{NameUses}
use Rattle.design_checks.specs.declared.refused.RefusedUse.{RefusedUse}
use Rattle.design_checks.specs.declared.rule.UseRule.{UseRule}

-- ---- uses

-- the first of these uses that a rule refuses
abbrev pub first_refused : UseRule → Context → List PlacedUse → Option RefusedUse
first_refused r d us = first_use (filter (is_refused r d) us)

-- the number of a signal that is declared so, as far as its use with this extension is refused
abbrev pub signal_used : Table → UseRule → Entry → ℕ → Option Extension → Option ℕ
signal_used t r x s e = if refuses_use t r x e then Some s else None

-- the first signal of what is read whose use is refused
abbrev pub first_signal : (SignalUse → Bool) → List SignalUse → Option ℕ
first_signal test [] = None
first_signal test (u ∷ us) = if test u then Some u.signal else first_signal test us

abbrev pub first_read : UseRule → Context → List SignalUse → Option ℕ
first_read r d us = first_signal (λ (u : SignalUse). refuses_use d.device r (name_at d u.signal) u.extension) us

-- ---- positions

-- each signal is on a cell that no row enables
abbrev pub are_by_pin : Context → List (Option ℕ) → Bool
are_by_pin d ss = list_all (is_enabled_by_pin d) (some_signals ss)

abbrev pub positions_of : Context → Term → Positions
positions_of d t = positions_by (written_of t) (are_by_pin d (targets_of t))

abbrev pub all_positions : Context → Terms → Positions
all_positions d ts = positions_by (written_of_all ts) (are_by_pin d (all_targets ts))

-- ---- one name

-- what is kept of a name that reads so with each extension
abbrev pub kept_by : (Option Extension → Option ℕ) → Positions → NameUses
kept_by reads p =
    record {
      bare = reads None;
      q = reads (Some extension.Q);
      fb = reads (Some extension.Fb);
      pin = reads (Some extension.Pin);
      clk = reads (Some extension.Clk);
      oe = reads (Some extension.Oe);
      ar = reads (Some extension.Ar);
      sp = reads (Some extension.Sp);
      d = reads (Some extension.D);
      positions = p;
    }

-- of no signal
abbrev pub no_use : NameUses
no_use = kept_by (λ e. None) (positions_by not_written true)

-- of a signal that is declared so
abbrev pub signal_kept : Table → UseRule → Entry → ℕ → NameUses
signal_kept t r x s = kept_by (signal_used t r x s) (positions_by one_written (is_cell_by_pin t (cell_of t x)))

-- what a name that represents this reads in vain with an extension
abbrev pub read_of : UseRule → Context → Term → Option Extension → Option ℕ
read_of r d t e = first_read r d (term_uses (extended_if e t))

-- what is kept of a name that represents this
abbrev pub uses_of : UseRule → Context → Term → NameUses
uses_of r d t = kept_by (read_of r d t) (positions_of d t)

-- what is kept of a name for an extension
abbrev pub use_under : NameUses → Option Extension → Option ℕ
use_under n None = n.bare
use_under n (Some extension.Q) = n.q
use_under n (Some extension.Fb) = n.fb
use_under n (Some extension.Pin) = n.pin
use_under n (Some extension.Clk) = n.clk
use_under n (Some extension.Oe) = n.oe
use_under n (Some extension.Ar) = n.ar
use_under n (Some extension.Sp) = n.sp
use_under n (Some extension.D) = n.d

-- ---- all names

-- these are kept of the names of a design, or of the first of them
abbrev pub AreUsesOf : UseRule → Context → Names → List NameUses → Type 0
AreUsesOf r d n us = AreOfNames NameUses (uses_of r d) (entries_of n) us d.known

abbrev pub Knows : Context → KeptUses → Type 0
Knows d kept = AreUsesOf kept.rule d kept.scope.now kept.list.now

-- while names are learnt, over those so far
abbrev pub learning : Context → List Entry → Context
learning d es = record d { known = known_of es }
