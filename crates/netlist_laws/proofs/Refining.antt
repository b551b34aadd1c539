-- The device with the fuses of a netlist allows no more than the netlist does, at points whose nodes are valued.
use Rattle.std.proofs.Common.{◌≡◌, Bool, true, false, List, refl, sym}
use Rattle.netlist_laws.proofs.Common.{true≢false, same_level, AllowsOne, HasNoDontCare, device_logic, pin_level, next_q, complement_if, Table, Ranked, ranked, allows_plain, Wanted, node_at, function_at, signal_count, netlist_waits, FittedRefines}
use Rattle.netlist_laws.proofs.Valuing.{valued, the_valued}
use Rattle.netlist_laws.proofs.WantedCells.{same_kind}
use Rattle.netlist_laws.proofs.CellValues.{same_enable, level_allowed, next_allowed, same_shared}

-- a level that is reported allows one value
one_level : (x : Bool) → AllowsOne (λ v. same_level v x)
one_level true e = true≢false e
one_level false e = true≢false (sym e)

-- a device has no don't-care
no_dontcare : (t : Table) (fuses : List Bool) → HasNoDontCare (device_logic t fuses)
no_dontcare t fuses = record {
  level = λ at is c within on. one_level (pin_level t fuses at c);
  node = λ at is n low node. absurd (true≢false (sym node));
  next = λ at is c within kept. one_level (next_q t fuses at c);
}

-- a function's value with any as 0 is one that it may have
any_0_allowed : (one any complement : Bool) → allows_plain one any (complement_if complement (complement_if complement one)) ≡ true
any_0_allowed true any true = refl
any_0_allowed true any false = refl
any_0_allowed false true true = refl
any_0_allowed false true false = refl
any_0_allowed false false true = refl
any_0_allowed false false false = refl

pub fitted_refines : FittedRefines
fitted_refines t net fuses laws sound fitted = record {
  same_cells = record { cells = refl; pin = λ c within. refl; stores = λ c within. same_kind t net fuses sound fitted c within; clock = refl };
  no_nodes = λ n low. refl;
  one_each = no_dontcare t fuses;
  one_value = λ at is. (valued t net sound ranks at, the_valued t net sound ranks at is);
  allowed = λ at is n low node. any_0_allowed (function_at at (node_at net n)).one (function_at at (node_at net n)).any (node_at net n).complement;
  allows = λ at seen is of. record {
    enabled = λ c within. same_enable t laws net sound fuses fitted at seen of c within;
    level = λ c within on v allowed. level_allowed t laws net sound fuses fitted at seen of c within on v allowed;
    reset = λ c within kept. same_shared t laws net sound fuses fitted at seen of (λ (w : Wanted). w.reset) t.reset (λ w law f is. law.reset f is) fitted.reset fitted.resets_shared c;
    preset = λ c within kept. same_shared t laws net sound fuses fitted at seen of (λ (w : Wanted). w.preset) t.preset (λ w law f is. law.preset f is) fitted.preset fitted.presets_shared c;
    next = λ c within kept v allowed. next_allowed t laws net sound fuses fitted at seen of c within kept v allowed;
  };
}
  where
    ranks : Ranked (signal_count t net) (netlist_waits t net)
    ranks = ranked (signal_count t net) (netlist_waits t net) sound.no_loop
