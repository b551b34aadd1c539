-- A device with the fuses of a netlist under the choice that they show does what its netlist and its module say under it.
use Rattle.std.proofs.Common.{◌≡◌, ℕ, ◌<◌, ◌≤◌, Bool, true, false, ◌&&◌, List, None, length, inl, inr, refl, sym, ap, ap₂, ◌∙◌, arith}
use Rattle.netlist_laws.proofs.Common.{cases_lt, get_or_past, exchanged, exchanged_values, exchanged_refines, values_exchanged, IsDevice, device_logic, is_inverted, says, Table, ModuleTree, inverting, is_free_signal, signal_on, design_of, PlainNetlist, wanted_at, netlist_logic, netlist_values, source_logic, source_values, is_free_wanted, netlist_shown, shown, FittedDoesTheChosen, FittedDoesWhatItSays}
use Rattle.pld_machine.proofs.OtherSource.{other_source}
use Rattle.netlist_laws.proofs.ExchangedLogic.{exchanged_means_so}
use Rattle.netlist_laws.proofs.FreeCells.{free_may_exchange, shown_free, shown_is_sound}
use Rattle.netlist_laws.proofs.SameChoices.{same_choice_values, same_choices}
use Rattle.netlist_laws.proofs.Running.{fitted_does_the_same}

pub fitted_does_the_chosen : FittedDoesTheChosen
fitted_does_the_chosen t net fuses laws sound fitted =
    let x = shown t fuses net in
    let means = exchanged_means_so t net x laws (free_may_exchange t net x sound (shown_free t fuses net)) in
    other_source (netlist_logic t (netlist_shown t fuses net)) (exchanged x (netlist_logic t net)) means.to means.from
    (netlist_values (netlist_shown t fuses net)) (exchanged_values x (netlist_values net)) means.values (device_logic t fuses)
    (fitted_does_the_same t (netlist_shown t fuses net) fuses laws (shown_is_sound t net fuses sound) fitted)

-- past the cells of a device nothing says inverted
none_past : (t : Table) → IsDevice t → (fuses : List Bool) (c : ℕ) → length t.cells ≤ c → is_inverted t fuses c ≡ false
none_past t laws fuses c past = let end = laws.inverted_end in ap (says fuses) (get_or_past t.inverted c None (omega (arith, past, end)))

never : (a b : Bool) → (a && false) ≡ (b && false)
never true true = refl
never true false = refl
never false true = refl
never false false = refl

-- the fuses show the same choice of the netlist's registers and of the module's
pub same_shown : (t : Table) (m : ModuleTree) (net : PlainNetlist) (fuses : List Bool) → IsDevice t
    → ((c : ℕ) → c < length t.cells → is_free_wanted (wanted_at net c) ≡ is_free_signal (design_of t m).context (signal_on (design_of t m).context c))
    → (c : ℕ) → shown t fuses net c ≡ inverting (is_inverted t fuses) (design_of t m).context c
same_shown t m net fuses laws free c =
    elim (cases_lt c (length t.cells)) [
      | inl within ↦ ap (λ b. b && is_inverted t fuses c) (free c within)
      | inr past ↦
          let none = none_past t laws fuses c past in
          let netlists = is_free_wanted (wanted_at net c) in
          let modules = is_free_signal (design_of t m).context (signal_on (design_of t m).context c) in
          ap (λ b. netlists && b) none ∙ (never netlists modules ∙ sym (ap (λ b. modules && b) none))
    ]

pub fitted_does_what_it_says : FittedDoesWhatItSays
fitted_does_what_it_says t m net fuses laws means sound fitted =
    let x = shown t fuses net in
    let y = inverting (is_inverted t fuses) (design_of t m).context in
    let same : (c : ℕ) → x c ≡ y c = same_shown t m net fuses laws means.free in
    let back : (c : ℕ) → y c ≡ x c = λ c. sym (same c) in
    let by_module = other_source (exchanged x (netlist_logic t net)) (exchanged x (source_logic t m)) (exchanged_refines x (netlist_logic t net) (source_logic t m) means.to)
    (exchanged_refines x (source_logic t m) (netlist_logic t net) means.from) (exchanged_values x (netlist_values net)) (exchanged_values x (source_values t m))
    (values_exchanged x (netlist_logic t net) (netlist_values net) (source_values t m) means.values) (device_logic t fuses) (fitted_does_the_chosen t net fuses laws sound fitted) in
    other_source (exchanged x (source_logic t m)) (exchanged y (source_logic t m)) (same_choices x y (source_logic t m) same) (same_choices y x (source_logic t m) back)
    (exchanged_values x (source_values t m)) (exchanged_values y (source_values t m)) (same_choice_values x y (source_logic t m) (source_values t m) same) (device_logic t fuses) by_module
