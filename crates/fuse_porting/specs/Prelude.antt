-- The words of the crates below that the clauses of this crate are said in, passed on from one place. Declares nothing.
pub use Rattle.std.specs.List.{range_with_len}
pub use Rattle.jedec_file.specs.FuseFile.{FuseFile}
unfoldable pub use Rattle.jedec_file.specs.FuseFile.{file_of}
pub use Rattle.jedec_reader.specs.Contents.{contents}
pub use Rattle.pld_base.specs.Bits.{is_on, same_level}
unfoldable pub use Rattle.pld_base.specs.Bits.{bits}
pub use Rattle.pld_base.specs.Logic.{Logic}
pub use Rattle.pld_base.specs.Points.{IsPoint, Levels}
pub use Rattle.pld_device.specs.FixedFuses.{HasFixedLevels}
pub use Rattle.pld_device.specs.Given.{never_drives}
pub use Rattle.pld_device.specs.Laws.{Control, Inverts, IsDevice, IsFixed, Registers, Switches, fuse_for}
pub use Rattle.pld_device.specs.Macrocells.{data_complements, device_logic, pin_complements}
pub use Rattle.pld_device.specs.Registers.{is_inverted, stores}
pub use Rattle.pld_device.specs.Rows.{is_switched_on, row_fuses}
pub use Rattle.pld_device.specs.Table.{Table, cell_at, inverted_at, registered_at}
pub use Rattle.pld_device.specs.declared.flip.Flip.{Flip}
pub use Rattle.pld_machine.specs.Refines.{HasRestsOf, HasRunsOf, HasStepsOf, Refines}
