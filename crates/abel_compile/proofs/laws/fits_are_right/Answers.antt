-- What is known of fitted netlists, put together.
use Rattle.abel_compile.proofs.Common.{plain_netlist, source_vectors}
use Rattle.pld_device.specs.Macrocells.{device_logic}
use Rattle.pld_device.specs.Registers.{is_inverted}
use Rattle.abel_meaning.specs.Choices.{source_logic_under, source_values_under}
use Rattle.netlist_laws.specs.ExchangedNets.{netlist_shown}
use Rattle.netlist_laws.proofs.FreeCells.{shown_is_sound}
use Rattle.compile_phases.proofs.NarrowVectors.{vectors_narrow}
use Rattle.abel_compile.proofs.CellForms.{has_its_form}
use Rattle.abel_compile.proofs.OrderedRows.{rows_ordered}
use Rattle.abel_compile.proofs.laws.fits_are_right.Goals as goal

pub returns : goal.returns
returns c = λ t m net fitted device takeable is fits.
    let plain = plain_netlist net in
    let fuses = fitted.fuses in
    let sound = is.netlist.sound.sound in
    let chosen = netlist_shown t fuses plain in
    let chosen_sound = shown_is_sound t plain fuses sound in
    let does = c.through_a_netlist.ensures t m plain fuses device is.same sound fits.fits in
    record {
      takeable = takeable;
      size = fits.fits.size;
      does = does;
      so = record {
        no_loop = c.fitted_has_no_loop.ensures t chosen fuses device chosen_sound fits.fits;
        no_path = c.fitted_has_no_reset_path.ensures t chosen fuses device chosen_sound fits.fits;
        rows = c.fitted_rows_are_prime.ensures t m plain fuses device is.netlist.plain sound fits.fits;
        order = rows_ordered t m net fitted device is.netlist.plain fits;
        forms = has_its_form t m net fitted device is.netlist fits;
        spare = c.fitted_spares_are_unused.ensures t m plain fuses device is.netlist.plain fits.fits;
        controls = c.fitted_controls_are_own.ensures t m plain fuses device takeable.registers is.netlist.plain sound fits.fits;
        switches = fits.fits.switches;
        fixed = fits.fits.fixed;
        others = fits.fits.others;
        vectors = c.vectors_disagree_alike.ensures (device_logic t fuses) (source_logic_under t m (is_inverted t fuses)) (source_values_under t m (is_inverted t fuses)) does (source_vectors t m)
            (vectors_narrow t device m);
      };
    }
