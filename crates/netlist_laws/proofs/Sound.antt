-- The netlist of a module that a device can take is sound.
use Rattle.std.proofs.Common.{◌≡◌, ℕ, zero, suc, ◌≤◌, List, [], ◌∷◌, length, slice_get, Option, Some, None, refl, ap, ◌∙◌, arith}
use Rattle.netlist_laws.proofs.Common.{option_map, IsDevice, Design, name_at, given_formulas, IsSound, node_signal, GatheredIsSound, gathered, IsTakeable}
use Rattle.netlist_laws.proofs.NodeNumbers.{names_numbered}
use Rattle.netlist_laws.proofs.NodesFound.{AreNumbered, function_here, node_found}
use Rattle.netlist_laws.proofs.SignalsAlike.{node_kind}
use Rattle.netlist_laws.proofs.SoundCells.{sound_nodes, sound_cells, sound_free, each_once}
use Rattle.netlist_laws.proofs.SoundGraphs.{no_netlist_loop, no_netlist_path}

short : {X : Type 0} (xs : List X) (k : ℕ) → slice_get xs k ≡ None → length xs ≤ k
short [] k none = omega arith
short (x ∷ xs) zero none = absurd cc
short (x ∷ xs) (suc k) none = omega (arith, short xs k none)

module _ (d : Design) (laws : IsDevice d.context.device) (numbered : AreNumbered 0 d.context.names) (take : IsTakeable d) where
  -- the node past the 128th would have a number that none may have
  found_past : (found : Option ℕ) → node_signal d.context 128 ≡ found → length (gathered d).nodes ≤ 128
  found_past None is = short (gathered d).nodes 128 (node_found d.context (given_formulas d) 128 numbered ∙ ap (λ f. option_map (function_here d.context (given_formulas d)) f) is)
  found_past (Some s) is = let few = take.nodes s 128 (node_kind d laws numbered take.pins 128 s is) in absurd (omega (arith, few))

  pub gathered_sound : IsSound d.context.device (gathered d)
  gathered_sound = record {
    few_nodes = found_past (node_signal d.context 128) refl;
    nodes = sound_nodes d laws numbered take;
    cells = sound_cells d laws numbered take;
    free = sound_free d laws numbered take;
    once = each_once d take.pins 0 d.context.names (λ k less. ap (λ j. name_at d.context j) (omega arith));
    no_loop = no_netlist_loop d laws numbered take.pins take.no_loop;
    no_path = no_netlist_path d laws numbered take.pins take.no_path;
  }

pub is_sound : GatheredIsSound
is_sound t m laws take = gathered_sound _ laws (names_numbered t m) take
