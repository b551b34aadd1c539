-- The source of a device's fuses is right.
use Rattle.std.proofs.Common.{◌≡◌, Some, Bool, List, ◌++◌, refl, ap, ◌∙◌, codes}
use Rattle.decompiler.proofs.Common.{DeviceName, device_text, named_device, Table, ModuleTree, device_named, unquoted, IsSourceTree, source_of, say_what_they_do, DesignsAreTakeable, SourcesAreRight}
use Rattle.pld_base.proofs.EachDevice.{each_device, is_device, device_from_test}
use Rattle.decompiler.proofs.Accepted.{sources_accepted, sources_fit_as_written}
use Rattle.decompiler.proofs.NothingToPlace.{sources_placed}

-- ---- the device that the source names

string_names : (device : DeviceName) → named_device (unquoted (codes "'" ++ device_text device ++ codes "'")) ≡ Some device
string_names device =
    device_from_test (named_device (unquoted (codes "'" ++ device_text device ++ codes "'"))) device
    (each_device (λ d. is_device (named_device (unquoted (codes "'" ++ device_text d ++ codes "'"))) d) refl device)

pub named_source : (t : Table) (fuses : List Bool) (m : ModuleTree) → IsSourceTree (source_of t fuses) m → device_named m ≡ Some t.name
named_source t fuses m is = ap device_named is.is ∙ string_names t.name

-- ---- all of it

pub right_sources : DesignsAreTakeable → SourcesAreRight
right_sources takeable t fuses m laws long is no_loop no_path = record {
  named = named_source t fuses m is;
  placed = sources_placed t fuses m laws is;
  accepted = sources_accepted takeable t fuses m laws long is no_loop no_path;
  fits = sources_fit_as_written takeable t fuses m laws long is no_loop no_path;
  says = say_what_they_do t fuses m laws long is no_loop no_path;
}
