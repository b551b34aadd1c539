-- The words that the proofs of this crate are said in, passed on from one place. Declares nothing.
pub use Rattle.std.proofs.Math.Nat.{mul-suc, mul-zero, zero-add}
pub use Rattle.pld_base.specs.Bits.{is_on}
unfoldable pub use Rattle.pld_base.specs.Bits.{bits}
pub use Rattle.pld_base.specs.Points.{Levels, levels_of}
pub use Rattle.pld_machine.specs.Lookups.{logic_of, sets_pin}
pub use Rattle.demo_source.specs.Drawing.{all_inputs_drawn, equation_drawn, equations_drawn, inputs_drawn, level_drawn, literal_drawn, product_drawn}
unfoldable pub use Rattle.demo_source.specs.Drawing.{drawn, many, next_state, state_after}
pub use Rattle.demo_source.specs.Machine.{machine, pulse}
unfoldable pub use Rattle.demo_source.specs.Machine.{outside, register_slots}
pub use Rattle.demo_source.specs.SourceText.{IsDemoSource, equations_text, further_text, head_text, levels_text, literal_text, product_text, vector_text}
